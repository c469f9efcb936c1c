-- What a worker holds, once it has looked at a stream or met its last version.
use Rattle.std.proofs.Common.{◌≡◌, ◌∙◌, ℕ, ◌<◌, List, length, length-set, sym, ap, subst, subst₂, arith}
use Rattle.std.specs.Prelude.{slice_index_or, slice_set}
use Rattle.flowsheet.specs.Plant.{origin_of}
use Rattle.relaxation.specs.Tube.{Tube, IsWithin}
use Rattle.relaxation.specs.History.{History, AllBegin, history_of}
use Rattle.plant_streams.specs.Streams.{streams_of}
use Rattle.plant.specs.PlantOf.{plant_of}
use Rattle.renewal.specs.Plan.{PlanOf, window_of}
use Rattle.stream_cell.specs.declared.head.CellMet.{CellMet}
use Rattle.stream_cell.specs.declared.head.Look.{Look}
use Rattle.stream_cell.specs.declared.head.Uses.{Uses}
use Rattle.stream_cell.specs.declared.passes.CellPass.{CellPass}
use Rattle.stream_cell.specs.declared.view.PassView.{PassView}
use Rattle.stream_cell.specs.Histories.{IsHistoryOf}
use Rattle.stream_cell.specs.Passes.{IsOf, LooksOrStays, MeetsOrStays}
use Rattle.stream_cell.specs.Seats.{pass_view}
use Rattle.worker.specs.Knowing.{IsHand, IsNextMade, seen_by, view_of}
use Rattle.worker.specs.Looking.{IsMadeOf, Shows}
use Rattle.worker.proofs.Knows.{IsLater, later-begins, later-hand, seen-at, view-at, view-here}
use Rattle.worker.proofs.Later.{look-later, meet-later}
use Rattle.worker.proofs.Made.{look-shows, next-made, shown-within}

module _ {C : Type 0} (opening : C → Tube) (is_pass : C → CellPass → Type 0) (plan : PlanOf) (worker : ℕ) (cells : List C)
    (passes : List CellPass) (hand : IsHand opening is_pass plan worker cells passes) (s : ℕ) (there : s < length (streams_of plan.parts))
    (cell : C) (cell_is : cell ≡ slice_index_or cells s cell) where
  cell-there : s < length cells
  cell-there = let counted = hand.cells_counted in omega arith

  pass-there : s < length passes
  pass-there = let counted = (hand.known).counted in omega arith

  -- it has opened the cell with the stream's opening tube
  pub cell-opened : opening cell ≡ (window_of plan).opening s
  cell-opened = ap opening cell_is ∙ hand.opened s cell cell-there

  module _ (old new : CellPass) (old_is : old ≡ slice_index_or passes s old) (is : is_pass cell new) where
    abbrev opens : Tube
    opens = (window_of plan).opening s

    view-is : pass_view old ≡ view_of passes s
    view-is = ap pass_view old_is ∙ sym (view-at passes s old pass-there)

    own : (view_of passes s).number ≡ worker
    own = (hand.known).numbers s pass-there

    was : IsHistoryOf ((window_of plan).opening s) (view_of passes s).seen
    was = (hand.known).histories s pass-there

    of : IsOf (view_of passes s).seen (view_of passes s)
    of = (hand.known).of s pass-there

    abbrev IsMore : Type 0
    IsMore = IsLater ((window_of plan).opening s) worker (view_of passes s) (pass_view new)
        (IsNextMade (window_of plan) (seen_by passes) (pass_view new).seen (origin_of (plant_of plan.parts) s))

    more-hand : IsMore → IsHand opening is_pass plan worker cells (slice_set passes s new)
    more-hand later = later-hand opening is_pass plan worker cells passes hand s new cell-there cell
        (subst (λ (c : C). is_pass c new) cell_is is) later

    more-begins : IsMore → AllBegin (seen_by passes) (seen_by (slice_set passes s new))
    more-begins later = later-begins plan worker passes s new hand.known pass-there later

    seen-here : history_of (seen_by (slice_set passes s new)) s ≡ (pass_view new).seen
    seen-here = seen-at (slice_set passes s new) s (subst (λ n. s < n) (sym (length-set passes s new)) pass-there)
        ∙ ap (λ (v : PassView). v.seen) (view-here passes s new pass-there)

    -- a look
    module _ (answer : Look) (into shows : Tube)
        (looks : LooksOrStays (opening cell) answer into (pass_view old) shows (pass_view new)) where
      looks-there : LooksOrStays ((window_of plan).opening s) answer into (view_of passes s) shows (pass_view new)
      looks-there = subst₂ (λ (tube : Tube) (v : PassView). LooksOrStays tube answer into v shows (pass_view new)) cell-opened view-is looks

      look-more : IsMore
      look-more = look-later ((window_of plan).opening s) worker (view_of passes s) own of answer into shows (pass_view new)
          (IsNextMade (window_of plan) (seen_by passes) (pass_view new).seen (origin_of (plant_of plan.parts) s)) was looks-there

      pub looked-hand : IsHand opening is_pass plan worker cells (slice_set passes s new)
      looked-hand = more-hand look-more

      pub looked-begins : AllBegin (seen_by passes) (seen_by (slice_set passes s new))
      looked-begins = more-begins look-more

      pub looked-shows : Shows answer (history_of (seen_by (slice_set passes s new)) s) into shows
      looked-shows = subst (λ (history : History). Shows answer history into shows) (sym seen-here)
          (look-shows ((window_of plan).opening s) answer into shows (view_of passes s) (pass_view new) looks-there)

      pub looked-within : IsWithin into ((window_of plan).opening s) → IsWithin shows ((window_of plan).opening s)
      looked-within within = shown-within ((window_of plan).opening s) answer (pass_view new).seen into shows look-more.history within
          (look-shows ((window_of plan).opening s) answer into shows (view_of passes s) (pass_view new) looks-there)

    -- a meet
    module _ (answer : CellMet) (made : Tube) (uses : Uses) (from : IsMadeOf plan (seen_by passes) s uses made)
        (meets : MeetsOrStays (opening cell) answer (pass_view old) made uses (pass_view new)) where
      meets-there : MeetsOrStays ((window_of plan).opening s) answer (view_of passes s) made uses (pass_view new)
      meets-there = subst₂ (λ (tube : Tube) (v : PassView). MeetsOrStays tube answer v made uses (pass_view new)) cell-opened view-is meets

      meet-more : IsMore
      meet-more = meet-later ((window_of plan).opening s) worker (view_of passes s) own of (window_of plan) (seen_by passes)
          (origin_of (plant_of plan.parts) s) made uses (next-made plan (seen_by passes) s uses made from worker) (pass_view new) answer was
          meets-there

      pub met-hand : IsHand opening is_pass plan worker cells (slice_set passes s new)
      met-hand = more-hand meet-more

      pub met-begins : AllBegin (seen_by passes) (seen_by (slice_set passes s new))
      met-begins = more-begins meet-more

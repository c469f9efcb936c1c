-- The cells of a plan, opened one after another.
use Rattle.std.proofs.Common.{◌≡◌, ◌∙◌, ℕ, zero, suc, ◌+◌, ◌<◌, List, [], ◌∷◌, ◌++◌, All, length, map, refl, sym, ap, subst, add-zero, zero-add, arith}
use Rattle.std.specs.Prelude.{slice_index_or}
use Rattle.std.proofs.lemmas.List.{length_push, get_or_append_left}
use Rattle.plant_streams.specs.Streams.{streams_of}
use Rattle.relaxation.specs.Tube.{Tube}
use Rattle.plant.proofs.Lookups.{at-map, item}
use Rattle.renewal.specs.Plan.{PlanOf, window_of}
use Rattle.stream_cell.specs.declared.passes.StreamCell.{StreamCell}
use Rattle.stream_cell.specs.declared.passes.CellPass.{CellPass}
use Rattle.stream_cell.specs.declared.view.PassView.{PassView}
use Rattle.stream_cell.specs.Cell.{passes_from}
use Rattle.stream_cell.specs.Histories.{IsHistoryOf}
use Rattle.stream_cell.specs.Passes.{IsOf, new_pass}
use Rattle.stream_cell.specs.Seats.{IsPassOf, opening_of, pass_view, passes_of}
use Rattle.stream_cell.proofs.Growing.{opened_history}
use Rattle.worker.specs.declared.hand.Hand.{Hand}
use Rattle.worker.specs.Knowing.{IsKnown, view_of}
use Rattle.worker.proofs.Knows.{view-at}
use Rattle.workers.specs.Benches.{AreShared}
use Rattle.workers.specs.Cells.{AreOpen, HaveOneMore, HoldsNone, IsNew, IsOpenedFor, held_by}

-- what holds at each place of a list and of its next item
pub at-pushed : {X : Type 0} (P : ℕ → X → Type 0) (xs : List X) (x : X) → ((k : ℕ) (d : X) → k < length xs → P k (slice_index_or xs k d)) →
    P (length xs) x → (k : ℕ) (d : X) → k < length (xs ++ x ∷ []) → P k (slice_index_or (xs ++ x ∷ []) k d)
at-pushed P [] x each last zero d l = last
at-pushed P [] x each last (suc k) d l = absurd (omega arith)
at-pushed P (y ∷ ys) x each last zero d l = each 0 d (omega arith)
at-pushed P (y ∷ ys) x each last (suc k) d l =
    at-pushed (λ n. P (suc n)) ys x (λ n e m. each (suc n) e (omega arith)) last k d (omega arith)

-- the item behind a list
pub last-at : {X : Type 0} (xs : List X) (x d : X) → slice_index_or (xs ++ x ∷ []) (length xs) d ≡ x
last-at [] x d = refl
last-at (y ∷ ys) x d = last-at ys x d

module _ (plan : PlanOf) (workers : ℕ) (cells : List StreamCell) (before after : List Hand) (cell : StreamCell)
    (are : AreOpen plan workers cells before) (one : IsOpenedFor plan (length cells) before after cell) where
  there : (w : ℕ) → w < length after → w < length before
  there w l = subst (λ n. w < n) (one.more).counted l

  -- a pass that was there before
  old-pass : (w s : ℕ) (hand : Hand) (pass : CellPass) → w < length after → s < length cells →
      slice_index_or (held_by (slice_index_or after w hand)) s pass ≡ slice_index_or (held_by (slice_index_or before w hand)) s pass
  old-pass w s hand pass l m =
      ap (λ (passes : List CellPass). slice_index_or passes s pass) ((one.more).each w hand pass (there w l))
      ∙ get_or_append_left (held_by (slice_index_or before w hand)) (slice_index_or one.passes w pass ∷ []) pass s
      (subst (λ n. s < n) (sym (are.held w hand (there w l))) m)

  -- and the one behind them
  last-pass : (w : ℕ) (hand : Hand) (pass : CellPass) → w < length after →
      slice_index_or (held_by (slice_index_or after w hand)) (length cells) pass ≡ slice_index_or one.passes w pass
  last-pass w hand pass l =
      let held = held_by (slice_index_or before w hand) in
      let given = slice_index_or one.passes w pass in
      ap (λ (passes : List CellPass). slice_index_or passes (length cells) pass) ((one.more).each w hand pass (there w l))
      ∙ ap (λ n. slice_index_or (held ++ given ∷ []) n pass) (sym (are.held w hand (there w l)))
      ∙ last-at held given pass

  -- as many as there are cells
  one-longer : (w : ℕ) (hand : Hand) → w < length after →
      length (held_by (slice_index_or after w hand)) ≡ length (cells ++ cell ∷ [])
  one-longer w hand l =
      let held = held_by (slice_index_or before w hand) in
      let pass = item one.passes w (subst (λ n. w < n) (sym (one.more).paired) (there w l)) in
      ap length ((one.more).each w hand pass (there w l))
      ∙ length_push held (slice_index_or one.passes w pass)
      ∙ ap (λ n. n + 1) (are.held w hand (there w l))
      ∙ sym (length_push cells cell)

  more-open : AreOpen plan workers (cells ++ cell ∷ []) after
  more-open = record {
    counted = (one.more).counted ∙ are.counted;
    opened = at-pushed (λ s c. opening_of c ≡ (window_of plan).opening s) cells cell are.opened one.opened;
    passes = at-pushed (λ s c. passes_of c ≡ workers) cells cell are.passes (one.counted ∙ are.counted);
    held = one-longer;
    new = λ w s hand d pass l m. at-pushed
        (λ q c. IsNew c ((window_of plan).opening q) workers w (slice_index_or (held_by (slice_index_or after w hand)) q pass))
        cells cell
        (λ q c k. subst (IsNew (slice_index_or cells q c) ((window_of plan).opening q) workers w) (sym (old-pass w q hand pass l k))
        (are.new w q hand c pass (there w l) k))
        (subst (IsNew cell ((window_of plan).opening (length cells)) workers w) (sym (last-pass w hand pass l))
        (subst (λ n. IsNew cell ((window_of plan).opening (length cells)) n w (slice_index_or one.passes w pass)) are.counted
        (one.new w pass (there w l))))
        s d m;
  }

-- one more cell
pub cell-opened : (plan : PlanOf) (workers s : ℕ) (cells now : List StreamCell) (before after : List Hand) (cell : StreamCell) →
    AreOpen plan workers cells before → s ≡ length cells → IsOpenedFor plan s before after cell → now ≡ cells ++ cell ∷ [] →
    AreOpen plan workers now after
cell-opened plan workers s cells now before after cell are e one is =
    subst (λ (list : List StreamCell). AreOpen plan workers list after) (sym is)
    (more-open plan workers cells before after cell are (subst (λ n. IsOpenedFor plan n before after cell) e one))

module _ (plan : PlanOf) (workers : ℕ) (cells : List StreamCell) (hands : List Hand) (are : AreOpen plan workers cells hands)
    (all : length cells ≡ length (streams_of plan.parts)) (w : ℕ) (hand : Hand) (l : w < length hands) where
  abbrev mine : List CellPass
  mine = held_by (slice_index_or hands w hand)

  cell-there : (s : ℕ) → s < length mine → s < length cells
  cell-there s m = subst (λ n. s < n) (are.held w hand l) m

  pass-new : (s : ℕ) (cell : StreamCell) (pass : CellPass) (m : s < length mine) →
      IsNew (slice_index_or cells s cell) ((window_of plan).opening s) workers w (slice_index_or mine s pass)
  pass-new s cell pass m = are.new w s hand cell pass l (cell-there s m)

  view-new : (s : ℕ) → s < length mine → view_of mine s ≡ new_pass ((window_of plan).opening s) workers w
  view-new s m =
      let pass = item mine s m in
      view-at mine s pass m ∙ (pass-new s (item cells s (cell-there s m)) pass m).view

  -- a worker whose passes are new knows of opening tubes alone
  pub new-known : IsKnown plan w mine
  new-known = record {
    counted = are.held w hand l ∙ all;
    numbers = λ s m. ap (λ (v : PassView). v.number) (view-new s m);
    histories = λ s m. subst (λ (v : PassView). IsHistoryOf ((window_of plan).opening s) v.seen) (sym (view-new s m))
        (opened_history ((window_of plan).opening s));
    of = λ s m.
        let pass = item mine s m in
        subst (λ (v : PassView). IsOf v.seen v) (sym (view-at mine s pass m)) ((pass-new s (item cells s (cell-there s m)) pass m).of).of;
    made = λ s k m more e.
        let one : length (view_of mine s).seen ≡ 1 = ap (λ (v : PassView). length v.seen) (view-new s m) in absurd (omega arith);
  }

-- all cells, with a hand for each worker
pub open-shared : (plan : PlanOf) (workers : ℕ) (cells : List StreamCell) (hands : List Hand) → AreOpen plan workers cells hands →
    length cells ≡ length (streams_of plan.parts) → AreShared plan cells hands
open-shared plan workers cells hands are all = record {
  counted = all;
  opened = are.opened;
  passes = λ s cell l. are.passes s cell l ∙ sym are.counted;
  each = λ w hand l. record {
    cells_counted = all;
    opened = are.opened;
    each = λ s cell pass m. (are.new w s hand cell pass l m).of;
    known = new-known plan workers cells hands are all w hand l;
  };
}

-- new passes in the order of their numbers
from-at : (opening : Tube) (workers first n w : ℕ) (d : PassView) → w < n →
    slice_index_or (passes_from opening workers first n) w d ≡ new_pass opening workers (first + w)
from-at opening workers first zero w d l = absurd (omega arith)
from-at opening workers first (suc n) zero d l = ap (new_pass opening workers) (sym (add-zero first))
from-at opening workers first (suc n) (suc w) d l =
    from-at opening workers (suc first) n w d (omega arith) ∙ ap (new_pass opening workers) (omega arith)

-- a cell that is opened, and its passes in the hands
pub opened-for : (plan : PlanOf) (s : ℕ) (before after : List Hand) (cell : StreamCell) (passes : List CellPass) (tube : Tube) (workers : ℕ) →
    tube ≡ (window_of plan).opening s → workers ≡ length before → opening_of cell ≡ tube → passes_of cell ≡ workers →
    map pass_view passes ≡ passes_from tube workers 0 workers → All (IsPassOf cell) passes → HaveOneMore before passes after →
    IsOpenedFor plan s before after cell
opened-for plan s before after cell passes tube workers tube-is count opens counted views each more = record {
  opened = opens ∙ tube-is;
  counted = counted ∙ count;
  passes = passes;
  new = λ w pass l.
      let there : w < length passes = subst (λ n. w < n) (sym more.paired) l in
      let known : pass_view (slice_index_or passes w pass) ≡ new_pass tube workers w =
      sym (at-map pass_view passes w pass (pass_view pass) there)
      ∙ ap (λ (list : List PassView). slice_index_or list w (pass_view pass)) views
      ∙ from-at tube workers 0 workers w (pass_view pass) (omega arith)
      ∙ ap (new_pass tube workers) (zero-add w) in
      record {
        of = each w pass there;
        view = known ∙ ap (λ (t : Tube). new_pass t workers w) tube-is ∙ ap (λ n. new_pass ((window_of plan).opening s) n w) count;
      };
  more = more;
}

-- no cell so far
pub none-open : (plan : PlanOf) (workers : ℕ) (cells : List StreamCell) (hands : List Hand) → cells ≡ [] → length hands ≡ workers →
    All HoldsNone hands → AreOpen plan workers cells hands
none-open plan workers cells hands empty counted none =
    let no : length cells ≡ 0 = ap length empty in
    record {
      counted = counted;
      opened = λ s cell l. absurd (omega arith);
      passes = λ s cell l. absurd (omega arith);
      held = λ w hand l. ap length (none w hand l) ∙ sym no;
      new = λ w s hand cell pass l m. absurd (omega arith);
    }

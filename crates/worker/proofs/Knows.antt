-- What a worker knows stays known where one of its passes sees a longer history.
use Rattle.std.proofs.Common.{◌≡◌, ◌≢◌, ◌⊎◌, ◌∙◌, ℕ, zero, suc, ◌+◌, ◌<◌, List, [], ◌∷◌, length, length-set, refl, sym, ap, subst, subst₂, inl, inr, arith}
use Rattle.std.specs.Prelude.{slice_index_or, slice_set, map}
use Rattle.std.proofs.lemmas.Bool.{cases_eq}
use Rattle.std.proofs.lemmas.List.{length-map, map-set, get_or_default, get_or-set_same, get_or-set_other}
use Rattle.flowsheet.specs.Plant.{origin_of}
use Rattle.relaxation.specs.Tube.{Tube}
use Rattle.relaxation.specs.History.{Version, History, AllBegin, Begins, history_of, numbered}
use Rattle.plant.specs.PlantOf.{plant_of}
use Rattle.plant.proofs.Lookups.{at-map}
use Rattle.renewal.specs.Plan.{PlanOf, window_of}
use Rattle.stream_cell.specs.declared.passes.CellPass.{CellPass}
use Rattle.stream_cell.specs.declared.view.PassView.{PassView}
use Rattle.stream_cell.specs.Histories.{IsHistoryOf}
use Rattle.stream_cell.specs.Passes.{IsOf, new_pass}
use Rattle.stream_cell.specs.Seats.{pass_view}
use Rattle.stream_cell.proofs.Passing.{begins_itself}
use Rattle.worker.specs.Knowing.{IsHand, IsKnown, IsNextMade, seen_by, view_of}
use Rattle.worker.proofs.Grown.{begins-same, next-grown, next-same}

-- the pass at a place
pub view-at : (passes : List CellPass) (s : ℕ) (pass : CellPass) → s < length passes →
    view_of passes s ≡ pass_view (slice_index_or passes s pass)
view-at passes s pass l = at-map pass_view passes s pass (new_pass [] 0 0) l

-- what it has seen
pub seen-at : (passes : List CellPass) (s : ℕ) → s < length passes → history_of (seen_by passes) s ≡ (view_of passes s).seen
seen-at [] s l = absurd (omega arith)
seen-at (pass ∷ passes) zero l = refl
seen-at (pass ∷ passes) (suc s) l = seen-at passes s (omega arith)

-- one of them is another pass
pub view-here : (passes : List CellPass) (s : ℕ) (new : CellPass) → s < length passes → view_of (slice_set passes s new) s ≡ pass_view new
view-here [] s new l = absurd (omega arith)
view-here (pass ∷ passes) zero new l = refl
view-here (pass ∷ passes) (suc s) new l = view-here passes s new (omega arith)

pub view-there : (passes : List CellPass) (s q : ℕ) (new : CellPass) → q ≢ s → view_of (slice_set passes s new) q ≡ view_of passes q
view-there passes s q new n = ap (λ (views : List PassView). slice_index_or views q (new_pass [] 0 0)) (map-set pass_view passes s new)
    ∙ get_or-set_other (map pass_view passes) s q (pass_view new) (new_pass [] 0 0) n

-- A pass that has seen a longer history: each version of it behind another that its worker made was there before, or was made so.
pub record IsLater (opening : Tube) (worker : ℕ) (old new : PassView) (IsMade : ℕ → Type 0) : Type 0 where
  pub number : new.number ≡ worker
  pub history : IsHistoryOf opening new.seen
  pub of : IsOf new.seen new
  pub begins : Begins old.seen new.seen
  pub made : (k : ℕ) → k + 1 < length new.seen → (numbered new.seen (k + 1)).maker ≡ worker →
      (k + 1 < length old.seen) ⊎ IsMade k

module _ (plan : PlanOf) (worker : ℕ) (passes : List CellPass) (s : ℕ) (new : CellPass) (known : IsKnown plan worker passes)
    (there : s < length passes)
    (later : IsLater ((window_of plan).opening s) worker (view_of passes s) (pass_view new)
    (IsNextMade (window_of plan) (seen_by passes) (pass_view new).seen (origin_of (plant_of plan.parts) s))) where
  abbrev passes-now : List CellPass
  passes-now = slice_set passes s new

  counted : length passes-now ≡ length passes
  counted = length-set passes s new

  -- what holds of the pass, and of the others
  each-view : (P : ℕ → PassView → Type 0) → P s (pass_view new) → ((q : ℕ) → q < length passes → P q (view_of passes q)) →
      (q : ℕ) → q < length passes-now → P q (view_of passes-now q)
  each-view P here others q l = elim (cases_eq q s) [
    | inl e ↦ subst (λ i. P i (view_of passes-now i)) (sym e) (subst (P s) (sym (view-here passes s new there)) here)
    | inr n ↦ subst (P q) (sym (view-there passes s q new n)) (others q (subst (λ m. q < m) counted l))
  ]

  view-begins : (q : ℕ) → q < length passes-now → Begins (view_of passes q).seen (view_of passes-now q).seen
  view-begins = each-view (λ q v. Begins (view_of passes q).seen v.seen) later.begins (λ q l. begins_itself (view_of passes q).seen)

  seen-counted : (list : List CellPass) → length (seen_by list) ≡ length list
  seen-counted list = length-map list (λ (pass : CellPass). (pass_view pass).seen)

  pub later-begins : AllBegin (seen_by passes) (seen_by passes-now)
  later-begins = record {
    counted = seen-counted passes ∙ sym counted ∙ sym (seen-counted passes-now);
    begins = λ q l.
        let before : q < length passes = subst (λ m. q < m) (seen-counted passes) l in
        let now : q < length passes-now = subst (λ m. q < m) (sym counted) before in
        subst₂ Begins (sym (seen-at passes q before)) (sym (seen-at passes-now q now)) (view-begins q now);
  }

  -- what was made before is made from what is seen now
  made-others : (q : ℕ) → q < length passes → (k : ℕ) → k + 1 < length (view_of passes q).seen →
      (numbered (view_of passes q).seen (k + 1)).maker ≡ worker →
      IsNextMade (window_of plan) (seen_by passes-now) (view_of passes q).seen (origin_of (plant_of plan.parts) q) k
  made-others q l k m e = next-grown (seen_by passes) (seen_by passes-now) later-begins (window_of plan) (view_of passes q).seen
      (origin_of (plant_of plan.parts) q) k (known.made q k l m e)

  made-before : (k : ℕ) → k + 1 < length (view_of passes s).seen →
      (numbered (pass_view new).seen (k + 1)).maker ≡ worker →
      IsNextMade (window_of plan) (seen_by passes-now) (pass_view new).seen (origin_of (plant_of plan.parts) s) k
  made-before k m e =
      let old : History = (view_of passes s).seen in
      let same : numbered (pass_view new).seen (k + 1) ≡ numbered old (k + 1) =
      begins-same old (pass_view new).seen (k + 1) later.begins m in
      next-same (window_of plan) (seen_by passes-now) old (pass_view new).seen (origin_of (plant_of plan.parts) s) k
      (begins-same old (pass_view new).seen k later.begins (omega arith)) same
      (made-others s there k m (ap (λ (v : Version). v.maker) (sym same) ∙ e))

  made-here : (k : ℕ) → k + 1 < length (pass_view new).seen → (numbered (pass_view new).seen (k + 1)).maker ≡ worker →
      IsNextMade (window_of plan) (seen_by passes-now) (pass_view new).seen (origin_of (plant_of plan.parts) s) k
  made-here k l e = elim (later.made k l e) [
    | inl m ↦ made-before k m e
    | inr made ↦ next-grown (seen_by passes) (seen_by passes-now) later-begins (window_of plan) (pass_view new).seen
        (origin_of (plant_of plan.parts) s) k made
  ]

  pub later-known : IsKnown plan worker passes-now
  later-known = record {
    counted = counted ∙ known.counted;
    numbers = each-view (λ q v. v.number ≡ worker) later.number known.numbers;
    histories = each-view (λ q v. IsHistoryOf ((window_of plan).opening q) v.seen) later.history known.histories;
    of = each-view (λ q v. IsOf v.seen v) later.of known.of;
    made = λ q k l m e. each-view
        (λ i v. (j : ℕ) → j + 1 < length v.seen → (numbered v.seen (j + 1)).maker ≡ worker →
        IsNextMade (window_of plan) (seen_by passes-now) v.seen (origin_of (plant_of plan.parts) i) j)
        made-here made-others q l k m e;
  }

-- so does a hand
module _ {C : Type 0} (opening : C → Tube) (is_pass : C → CellPass → Type 0) (plan : PlanOf) (worker : ℕ) (cells : List C)
    (passes : List CellPass) (hand : IsHand opening is_pass plan worker cells passes) (s : ℕ) (new : CellPass)
    (there : s < length cells) where
  passes-there : s < length passes
  passes-there = let a = hand.cells_counted in let b = (hand.known).counted in omega arith

  pub later-hand : (cell : C) → is_pass (slice_index_or cells s cell) new →
      IsLater ((window_of plan).opening s) worker (view_of passes s) (pass_view new)
      (IsNextMade (window_of plan) (seen_by passes) (pass_view new).seen (origin_of (plant_of plan.parts) s)) →
      IsHand opening is_pass plan worker cells (slice_set passes s new)
  later-hand cell is later = record {
    cells_counted = hand.cells_counted;
    opened = hand.opened;
    each = λ q one pass l. elim (cases_eq q s) [
      | inl e ↦ subst (λ i. is_pass (slice_index_or cells i one) (slice_index_or (slice_set passes s new) i pass)) (sym e)
          (subst₂ is_pass (get_or_default cells s cell one there) (sym (get_or-set_same passes s new pass passes-there)) is)
      | inr n ↦ subst (is_pass (slice_index_or cells q one)) (sym (get_or-set_other passes s q new pass n)) (hand.each q one pass l)
    ];
    known = later-known plan worker passes s new hand.known passes-there later;
  }

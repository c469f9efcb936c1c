-- A seat that stands for all passes leaves none to the others: nobody has the turn, and the history is at home.
use Rattle.std.proofs.Common.{◌≡◌, ℕ, zero, suc, ◌+◌, ◌<◌, cond, List, [], ◌∷◌, ◌++◌, All, Contains, length, length-append, map, sum_by, count_by, nat_eq, ne_eqb, Some, lt-ltb, if◌then◌else◌, inl, inr, ⊎_elim, refl, sym, ap, ◌∙◌, subst, arith}
use Rattle.std.proofs.lemmas.List.{length-map, map-append}
use Rattle.std.proofs.lemmas.List.Elements.{All-append, All-cons, All-head, All-tail, All-nil, All-from_recursion, All-map, All-pop, All-weaker, Contains-append_cases, Contains-append_left, Contains-append_right}
use Rattle.std.proofs.lemmas.List.Sums.{sum_by-cons}
use Rattle.std.proofs.lemmas.Bool.{cases_eq}
use mathlib.Core.Option.{Option, some, some-injective, some-ne-none}
use lib.ListN.{get_elem?}
use Rattle.atomic_table.specs.Table.{State, Final, Seen}
use Rattle.relaxation.specs.Tube.{Tube}
use Rattle.relaxation.specs.History.{History, numbered}
use Rattle.stream_cell.specs.declared.passes.CellPass.{CellPass}
use Rattle.stream_cell.specs.declared.passes.StreamCell.{StreamCell}
use Rattle.stream_cell.specs.declared.view.Opening.{Opening}
use Rattle.stream_cell.specs.declared.view.PassView.{PassView}
use Rattle.stream_cell.specs.declared.view.Turn.TheVariants.{Free}
use Rattle.stream_cell.specs.Cell.{IsAmid, IsCell, is_taken, times_in}
use Rattle.stream_cell.specs.Passes.{IsOf}
use Rattle.stream_cell.specs.Seats.{IsClosedBy, IsPassOf, opening_of, pass_view, passes_of}
use Rattle.stream_cell.specs.Kinds.{MyMe}
use Rattle.stream_cell.proofs.Views.{sum_one, all_one, all_other}

-- an empty list, by its length
nothing : (l : List PassView) → length l ≡ 0 → l ≡ []
nothing [] e = refl
nothing (v ∷ vs) e = absurd (omega arith)

-- where one seat stands for all passes, a sum over the seats is that of this one
module _ (f : List PassView → ℕ) (none : f [] ≡ 0) where
  sum-none : (views : List (List PassView)) → sum_by length views ≡ 0 → sum_by f views ≡ 0
  sum-none [] e = refl
  sum-none (u ∷ us) e =
      let counted = sum_by-cons length u us in
      let sums = sum_by-cons f u us in
      let rest = sum-none us (omega arith) in
      let first : f u ≡ 0 = ap f (nothing u (omega arith)) ∙ none in
      omega arith

  sum-alone : (views : List (List PassView)) (id : ℕ) (v : List PassView) → get_elem? views id ≡ some v → sum_by length views ≡ length v → sum_by f views ≡ f v
  sum-alone [] id v at e = absurd (some-ne-none v (sym at))
  sum-alone (u ∷ us) zero v at e =
      let is : u ≡ v = some-injective u v at in
      let same : f u ≡ f v = ap f is in
      let long : length u ≡ length v = ap length is in
      let counted = sum_by-cons length u us in
      let sums = sum_by-cons f u us in
      let rest = sum-none us (omega arith) in
      omega arith
  sum-alone (u ∷ us) (suc id) v at e =
      let counted = sum_by-cons length u us in
      let sums = sum_by-cons f u us in
      let most = sum_one length us id v at in
      let rest = sum-alone us id v at (omega arith) in
      let first : f u ≡ 0 = ap f (nothing u (omega arith)) ∙ none in
      omega arith

abbrev IsFree : PassView → Type 0
IsFree v = v.turn ≡ Free

-- none of them has the turn
free-none : (vs : List PassView) → All IsFree vs → count_by (λ (v : PassView). is_taken v.turn) vs ≡ 0
free-none [] free = refl
free-none (v ∷ vs) free =
    let more = sum_by-cons (λ (v : PassView). cond (is_taken v.turn) 1 0) v vs in
    let is : v.turn ≡ Free = All-head IsFree v vs free in
    let first : ◌≡◌ {A = ℕ} (cond (is_taken v.turn) 1 0) 0 = ap (λ turn. cond (is_taken turn) 1 0) is in
    let rest = free-none vs (All-tail IsFree v vs free) in
    omega arith

-- a number that is there is that of one of them
number-there : (k : ℕ) (vs : List PassView) → 0 < count_by (λ (v : PassView). nat_eq v.number k) vs → Contains (map (λ (v : PassView). v.number) vs) k
number-there k [] h = absurd (omega arith)
number-there k (v ∷ vs) h =
    let more = sum_by-cons (λ (v : PassView). cond (nat_eq v.number k) 1 0) v vs in
    elim (cases_eq v.number k) [
      | inl e ↦ (0, omega arith, e)
      | inr ne ↦
          let other : ◌≡◌ {A = ℕ} (cond (nat_eq v.number k) 1 0) 0 = ap (λ b. cond b 1 0) (ne_eqb v.number k ne) in
          Contains-append_right (v.number ∷ []) (map (λ (v : PassView). v.number) vs) k (number-there k vs (omega arith))
    ]

-- the cell is closed with this seat
module _ (about : Opening) (s : State History (List PassView)) (r : IsCell about s) (id : ℕ) (vs : List PassView) (at : get_elem? s.views id ≡ some vs)
    (all : length vs ≡ about.passes) (free : All IsFree vs) where
  alone : sum_by length s.views ≡ length vs
  alone = r.all ∙ sym all

  home-again : s.homes ≡ some r.history ∷ []
  home-again = r.home (sum-alone (count_by (λ (v : PassView). is_taken v.turn)) refl s.views id vs at alone ∙ free-none vs free)

  closed-by : IsClosedBy about.tube vs r.history
  closed-by = record {
    ordered = r.of;
    each = All-from_recursion (IsOf r.history) vs (all_other (IsAmid about.passes r.history) (IsOf r.history) vs (λ v is. is.of) (all_one _ s.views id vs at r.passes));
    makers = λ k some_k few.
        let maker = (numbered r.history k).maker in
        let counted = sum-alone (count_by (λ (v : PassView). nat_eq v.number maker)) refl s.views id vs at alone in
        let once : ◌≡◌ {A = ℕ} (times_in maker s.views) 1 = r.once maker ∙ ap (λ b. if b then 1 else 0) (lt-ltb maker about.passes (r.makers k some_k few)) in
        number-there maker vs (omega arith);
  }

closes : (about : Opening) (words : List ℕ) (slots : List History) (id : ℕ) (vs : List PassView) (history : History) →
    Final (Seen (IsCell about) id vs) words slots → length vs ≡ about.passes → All IsFree vs → get_elem? slots 0 ≡ some history →
    IsClosedBy about.tube vs history
closes about words slots id vs history final all free at =
    let s = final.0 in
    let r : IsCell about s = final.1.0 in
    let seen : get_elem? s.views id ≡ some vs = final.1.1 in
    let home = home-again about s r id vs seen all free in
    let back = final.4 0 r.history (ap (λ (homes : List (Option History)). get_elem? homes 0) home) in
    subst (IsClosedBy about.tube vs) (some-injective r.history history (sym back ∙ at)) (closed-by about s r id vs seen all free)

-- the first of them goes behind the others
last-first : (opening : Tube) (v : PassView) (vs : List PassView) (history : History) → IsClosedBy opening (v ∷ vs) history → IsClosedBy opening (vs ++ v ∷ []) history
last-first opening v vs history is = record {
  ordered = is.ordered;
  each = All-append (IsOf history) vs (v ∷ []) (All-tail (IsOf history) v vs is.each)
      (All-cons (IsOf history) v [] (All-head (IsOf history) v vs is.each) (All-nil (IsOf history)));
  makers = λ k some_k few.
      let maker = (numbered history k).maker in
      let numbers = map (λ (v : PassView). v.number) vs in
      subst (λ (list : List ℕ). Contains list maker) (sym (map-append (λ (v : PassView). v.number) vs (v ∷ [])))
      (⊎_elim (Contains-append_right numbers (v.number ∷ []) maker) (Contains-append_left numbers (v.number ∷ []) maker)
      (Contains-append_cases (v.number ∷ []) numbers maker (is.makers k some_k few)));
}

-- all passes of a cell are joined to the last of them
module _ (cell : StreamCell) (passes front : List CellPass) (last : CellPass) (are : passes ≡ front ++ last ∷ []) (all : All (IsPassOf cell) passes)
    (counted : length passes ≡ passes_of cell) where
  first-ones : All (IsPassOf cell) front
  first-ones = (All-pop (IsPassOf cell) passes front (Some last) are all).0

  last-one : IsPassOf cell last
  last-one = (All-pop (IsPassOf cell) passes front (Some last) are all).1

  together : (me : MyMe) → me ≡ (last.seat.me.0 ++ map pass_view front, []) → me.0 ≡ pass_view last ∷ map pass_view front
  together me joined = ap (λ (one : MyMe). one.0) joined ∙ ap (λ (one : MyMe). one.0 ++ map pass_view front) last-one.me

  free-all : All IsFree (pass_view last ∷ map pass_view front)
  free-all = All-cons IsFree (pass_view last) (map pass_view front) last-one.free
      (All-map IsFree pass_view front (All-weaker (IsPassOf cell) (λ pass. IsFree (pass_view pass)) (λ pass is. is.free) front first-ones))

  as-many : length (pass_view last ∷ map pass_view front) ≡ passes_of cell
  as-many =
      let mapped = length-map front pass_view in
      let whole : length passes ≡ length front + 1 = ap length are ∙ length-append front (last ∷ []) in
      omega arith

  in-order : map pass_view front ++ pass_view last ∷ [] ≡ map pass_view passes
  in-order = sym (map-append pass_view front (last ∷ [])) ∙ ap (map pass_view) (sym are)

  pub closes_all : (words : List ℕ) (slots : List History) (id : ℕ) (me : MyMe) (history : History) → me ≡ (last.seat.me.0 ++ map pass_view front, []) →
      Final (Seen (IsCell cell.table.shared.key) id me.0) words slots → get_elem? slots 0 ≡ some history → IsClosedBy (opening_of cell) (map pass_view passes) history
  closes_all words slots id me history joined final at =
      let about = cell.table.shared.key in
      let whole = subst (λ (vs : List PassView). Final (Seen (IsCell about) id vs) words slots) (together me joined) final in
      let closed = closes about words slots id (pass_view last ∷ map pass_view front) history whole as-many free-all at in
      subst (λ (vs : List PassView). IsClosedBy (opening_of cell) vs history) in-order (last-first (opening_of cell) (pass_view last) (map pass_view front) history closed)

-- What a look or a meet says of its pass: it has seen a longer history, in which it knows all that it made.
use Rattle.std.proofs.Common.{◌≡◌, ◌∙◌, ◌⊎◌, ◌&&◌, ℕ, zero, suc, ◌+◌, ◌-◌, ◌<◌, cond, List, [], ◌∷◌, ◌++◌, map, filter, length}
use Rattle.std.proofs.Common.{length-append, nat_eq, nat_lt, lt-ltb, eq-eqb, append_assoc, append-nil, refl, sym, ap, ap₂, subst, subst₂, inl, inr, arith}
use Rattle.std.proofs.lemmas.Bool.{cases_lt}
use Rattle.std.proofs.lemmas.List.{get_or_append_left, get_or-append_right, map-append, append_cancel_left, append_cancel_right}
use Rattle.std.proofs.lemmas.List.Elements.{filter-append}
use Rattle.flowsheet.specs.Plant.{Origin}
use Rattle.relaxation.specs.Tube.{Tube}
use Rattle.relaxation.specs.Window.{Window}
use Rattle.relaxation.specs.History.{Version, History, Begins, no_version, numbered}
use Rattle.stream_cell.specs.declared.head.CellMet.{CellMet}
use Rattle.stream_cell.specs.declared.head.CellMet.TheVariants as met
use Rattle.stream_cell.specs.declared.head.Look.{Look}
use Rattle.stream_cell.specs.declared.head.Look.TheVariants as shown
use Rattle.stream_cell.specs.declared.head.Uses.{Uses}
use Rattle.stream_cell.specs.declared.view.PassView.{PassView}
use Rattle.stream_cell.specs.Histories.{IsHistoryOf, next_version}
use Rattle.stream_cell.specs.Passes.{IsOf, JudgesNow, LooksOrStays, MeetsOrStays, Stays, looked, made_by}
use Rattle.stream_cell.proofs.Passing.{begins_itself}
use Rattle.worker.specs.Knowing.{IsNextMade}
use Rattle.worker.proofs.Knows.{IsLater}

-- what a pass made of two parts of a history
made-append : (w : ℕ) (first rest : History) → made_by w (first ++ rest) ≡ made_by w first ++ made_by w rest
made-append w first rest =
    ap (map (λ (v : Version). v.number)) (filter-append (λ (v : Version). nat_lt 0 v.number && nat_eq v.maker w) first rest)
    ∙ map-append (λ (v : Version). v.number) (filter (λ (v : Version). nat_lt 0 v.number && nat_eq v.maker w) first)
    (filter (λ (v : Version). nat_lt 0 v.number && nat_eq v.maker w) rest)

made-own : (w : ℕ) (version : Version) → 0 < version.number → version.maker ≡ w → made_by w (version ∷ []) ≡ version.number ∷ []
made-own w version some own =
    ap (λ b. map (λ (v : Version). v.number) (cond b (version ∷ []) [])) (ap₂ (λ a b. a && b) (lt-ltb 0 version.number some) (eq-eqb version.maker w own))

nothing-behind : (a b : List ℕ) → a ++ b ≡ [] → b ≡ []
nothing-behind [] b e = e
nothing-behind (x ∷ a) b e = cc

-- where it made nothing, no version has it as its maker
made-none : (w : ℕ) (history : History) (j : ℕ) → made_by w history ≡ [] → j < length history → 0 < (numbered history j).number →
    (numbered history j).maker ≡ w → ⊥
made-none w [] j e l some own = omega arith
made-none w (version ∷ history) zero e l some own =
    let two : (version.number ∷ []) ++ made_by w history ≡ [] =
    ap (λ numbers. numbers ++ made_by w history) (sym (made-own w version some own)) ∙ sym (made-append w (version ∷ []) history) ∙ e in
    cc
made-none w (version ∷ history) (suc j) e l some own =
    made-none w history j
    (nothing-behind (made_by w (version ∷ [])) (made_by w history) (sym (made-append w (version ∷ []) history) ∙ e))
    (omega arith) some own

-- where a pass made as much of what it has seen as of a longer history, it has seen all versions that it made
made-below : (opening : Tube) (w : ℕ) (seen history : History) → Begins seen history → IsHistoryOf opening history →
    made_by w history ≡ made_by w seen → (k : ℕ) → k + 1 < length history → (numbered history (k + 1)).maker ≡ w → k + 1 < length seen
made-below opening w seen history begins is same k l own = elim (cases_lt (k + 1) (length seen)) [
  | inl m ↦ m
  | inr m ↦
      (let rest : History = begins.0 in
      let none : made_by w rest ≡ [] = append_cancel_left (made_by w seen) (made_by w rest) []
      (sym (made-append w seen rest) ∙ ap (made_by w) (sym begins.1) ∙ same ∙ sym (append-nil (made_by w seen))) in
      let at : numbered history (k + 1) ≡ numbered rest (k + 1 - length seen) =
      ap (λ (list : History). numbered list (k + 1)) begins.1 ∙ get_or-append_right seen rest (length seen) (k + 1) no_version refl m in
      let number : (numbered history (k + 1)).number ≡ k + 1 = is.ordered.numbers (k + 1) l in
      let long : length history ≡ length seen + length rest = ap length begins.1 ∙ length-append seen rest in
      let same_number : (numbered history (k + 1)).number ≡ (numbered rest (k + 1 - length seen)).number = ap (λ (v : Version). v.number) at in
      absurd (made-none w rest (k + 1 - length seen) none (omega arith) (omega arith) (ap (λ (v : Version). v.maker) (sym at) ∙ own)))
]

module _ (opening : Tube) (worker : ℕ) (old : PassView) (own : old.number ≡ worker) (of : IsOf old.seen old) where
  -- the same pass
  stays-of : (new : PassView) → Stays old new → IsOf new.seen new
  stays-of new stays =
      let made : made_by new.number new.seen ≡ new.made = ap₂ made_by stays.0 stays.1 ∙ of.made ∙ sym stays.2 in
      record {
        begins = begins_itself new.seen;
        some = subst (λ (seen : History). 0 < length seen) (sym stays.1) of.some;
        made = made;
        knows = made;
      }

  stays-later : (new : PassView) (IsMade : ℕ → Type 0) → IsHistoryOf opening old.seen → Stays old new →
      IsLater opening worker old new IsMade
  stays-later new IsMade is stays = record {
    number = stays.0 ∙ own;
    history = subst (IsHistoryOf opening) (sym stays.1) is;
    of = stays-of new stays;
    begins = subst (Begins old.seen) (sym stays.1) (begins_itself old.seen);
    made = λ k l e. inl (subst (λ (seen : History). k + 1 < length seen) stays.1 l);
  }

  -- the pass that has read a history
  module _ (new : PassView) (made : List ℕ) (is : new ≡ looked old new.seen made) where
    read-number : new.number ≡ old.number
    read-number = ap (λ (v : PassView). v.number) is

    read-made : IsOf new.seen new → made_by worker new.seen ≡ old.made ++ made
    read-made now = ap (λ w. made_by w new.seen) (sym (read-number ∙ own)) ∙ now.made ∙ ap (λ (v : PassView). v.made) is

  knows : made_by worker old.seen ≡ old.made
  knows = ap (λ w. made_by w old.seen) (sym own) ∙ of.knows

  -- and made nothing
  read-later : (new : PassView) (IsMade : ℕ → Type 0) → Begins old.seen new.seen → IsHistoryOf opening new.seen → IsOf new.seen new →
      new ≡ looked old new.seen [] → IsLater opening worker old new IsMade
  read-later new IsMade begins history now is = record {
    number = read-number new [] is ∙ own;
    history = history;
    of = now;
    begins = begins;
    made = λ k l e. inl (made-below opening worker old.seen new.seen begins history
        (read-made new [] is now ∙ append-nil old.made ∙ sym knows) k l e);
  }

  pub look-later : (answer : Look) (into shows : Tube) (new : PassView) (IsMade : ℕ → Type 0) → IsHistoryOf opening old.seen →
      LooksOrStays opening answer into old shows new → IsLater opening worker old new IsMade
  look-later shown.Busy into shows new IsMade is h = stays-later new IsMade is h.1
  look-later (shown.Seen number stamp) into shows new IsMade is h = read-later new IsMade h.0 h.1 h.2 h.3

  module _ (window : Window) (seen : List History) (origin : Origin) (renewal : Tube) (uses : Uses)
      (can : (history : History) → 0 < length history →
      IsNextMade window seen (history ++ next_version history worker renewal uses ∷ []) origin (length history - 1))
      (new : PassView) where
    -- and made one version, behind the last one
    module _ (history : History) (begins : Begins old.seen history) (was : IsHistoryOf opening history)
        (history_now : IsHistoryOf opening new.seen) (now : IsOf new.seen new) (number : ℕ) (is : new ≡ looked old new.seen (number ∷ []))
        (number_is : number ≡ length history) (pushed : new.seen ≡ history ++ next_version history worker renewal uses ∷ []) where
      abbrev next : Version
      next = next_version history worker renewal uses

      pushed-begins : Begins old.seen new.seen
      pushed-begins = (
        begins.0 ++ next ∷ [],
        pushed ∙ ap (λ (all : History). all ++ next ∷ []) begins.1 ∙ append_assoc old.seen begins.0 (next ∷ []),
      )

      pushed-made : made_by worker history ≡ made_by worker old.seen
      pushed-made = append_cancel_right (made_by worker history) (made_by worker old.seen) (length history ∷ [])
          (ap (λ numbers. made_by worker history ++ numbers) (sym (made-own worker next was.ordered.opened refl))
          ∙ sym (made-append worker history (next ∷ [])) ∙ ap (made_by worker) (sym pushed)
          ∙ read-made new (number ∷ []) is now ∙ ap₂ (λ (made : List ℕ) (n : ℕ). made ++ n ∷ []) (sym knows) number_is)

      pushed-stays : (k : ℕ) → k < length history → numbered new.seen k ≡ numbered history k
      pushed-stays k l = ap (λ (all : History). numbered all k) pushed ∙ get_or_append_left history (next ∷ []) no_version k l

      pushed-one : (k : ℕ) → k + 1 < length new.seen → (numbered new.seen (k + 1)).maker ≡ worker →
          (k + 1 < length old.seen) ⊎ IsNextMade window seen new.seen origin k
      pushed-one k l e = elim (cases_lt (k + 1) (length history)) [
        | inl m ↦ inl (made-below opening worker old.seen history begins was pushed-made k m
            (ap (λ (v : Version). v.maker) (sym (pushed-stays (k + 1) m)) ∙ e))
        | inr m ↦
            (let long : length new.seen ≡ length history + 1 = ap length pushed ∙ length-append history (next ∷ []) in
            let last : length history - 1 ≡ k = omega arith in
            inr (subst₂ (λ (all : History) (i : ℕ). IsNextMade window seen all origin i) (sym pushed) last (can history was.ordered.opened)))
      ]

      pushed-later : IsLater opening worker old new (IsNextMade window seen new.seen origin)
      pushed-later = record {
        number = read-number new (number ∷ []) is ∙ own;
        history = history_now;
        of = now;
        begins = pushed-begins;
        made = pushed-one;
      }

    judged-later : (answer : CellMet) → JudgesNow opening answer old renewal uses new →
        IsLater opening worker old new (IsNextMade window seen new.seen origin)
    judged-later met.Busy h = absurd h.3
    judged-later (met.Empty tick channel) h = read-later new (IsNextMade window seen new.seen origin)
        (subst (Begins old.seen) (sym h.3.1) h.1) h.4 h.5 h.6
    judged-later (met.Same number) h = read-later new (IsNextMade window seen new.seen origin)
        (subst (Begins old.seen) (sym h.3.3) h.1) h.4 h.5 h.6
    judged-later (met.Full number) h = read-later new (IsNextMade window seen new.seen origin)
        (subst (Begins old.seen) (sym h.3.4) h.1) h.4 h.5 h.6
    judged-later (met.Narrowed number stamp) h = pushed-later h.0 h.1 h.2 h.4 h.5 number h.6 h.3.3
        (h.3.5 ∙ ap (λ w. h.0 ++ next_version h.0 w renewal uses ∷ []) own)

    pub meet-later : (answer : CellMet) → IsHistoryOf opening old.seen → MeetsOrStays opening answer old renewal uses new →
        IsLater opening worker old new (IsNextMade window seen new.seen origin)
    meet-later answer is h = elim h [
      | inl busy ↦ stays-later new (IsNextMade window seen new.seen origin) is busy.1
      | inr judged ↦ judged-later answer judged
    ]

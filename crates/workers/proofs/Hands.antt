-- Hands that get a pass each, one after another, or give their last.
use Rattle.std.proofs.Common.{◌≡◌, ◌≢◌, ◌∙◌, ℕ, ◌+◌, ◌<◌, ◌≤◌, List, [], ◌∷◌, ◌++◌, drop, length, length-set, get_or-set_same, get_or-set_other, drop-cons, add-one, refl, sym, ap, subst, inl, inr, arith}
use Rattle.std.specs.Prelude.{slice_index_or, slice_set}
use Rattle.std.proofs.lemmas.Bool.{cases_eq}
use Rattle.std.proofs.lemmas.List.{get_or_append_left}
use Rattle.stream_cell.specs.declared.passes.CellPass.{CellPass}
use Rattle.worker.specs.declared.hand.Hand.{Hand}
use Rattle.workers.specs.Cells.{HaveOneMore, held_by}
use Rattle.workers.proofs.Opened.{last-at}

-- the first of the hands have one of the passes more than before, and the others are as before
pub record IsPartly (before : List Hand) (passes : List CellPass) (after : List Hand) (n : ℕ) : Type 0 where
  pub counted : length after ≡ length before
  pub first : (w : ℕ) (hand : Hand) (pass : CellPass) → w < n →
      held_by (slice_index_or after w hand) ≡ held_by (slice_index_or before w hand) ++ slice_index_or passes w pass ∷ []
  pub others : (w : ℕ) (hand : Hand) → n ≤ w → slice_index_or after w hand ≡ slice_index_or before w hand

-- none of them at first
pub none-yet : (hands : List Hand) (passes : List CellPass) → IsPartly hands passes hands 0
none-yet hands passes = record {
  counted = refl;
  first = λ w hand pass l. absurd (omega arith);
  others = λ w hand l. refl;
}

-- all of them at the end
pub all-now : (before : List Hand) (passes : List CellPass) (after : List Hand) (n : ℕ) → length passes ≡ length before → length before ≤ n →
    IsPartly before passes after n → HaveOneMore before passes after
all-now before passes after n paired l partly = record {
  counted = partly.counted;
  paired = paired;
  each = λ w hand pass m. partly.first w hand pass (omega arith);
}

-- the next pass, and those that are left then
pub next-pass : (passes rest : List CellPass) (n : ℕ) (pass : CellPass) → n < length passes → pass ∷ rest ≡ drop n passes →
    ((d : CellPass) → slice_index_or passes n d ≡ pass) × (rest ≡ drop (n + 1) passes)
next-pass passes rest n pass l is = (
  λ d. let split = is ∙ drop-cons passes n d l in cc,
  let split = is ∙ drop-cons passes n pass l in cc (add-one n),
)

-- a hand gets its pass
module _ (before : List Hand) (passes : List CellPass) (after : List Hand) (n : ℕ) (new : Hand) (given : CellPass)
    (inside : n < length before) (given-is : (d : CellPass) → slice_index_or passes n d ≡ given)
    (held : (hand : Hand) → held_by new ≡ held_by (slice_index_or after n hand) ++ given ∷ []) (partly : IsPartly before passes after n) where
  given-here : (hand : Hand) (pass : CellPass) →
      held_by (slice_index_or (slice_set after n new) n hand) ≡ held_by (slice_index_or before n hand) ++ slice_index_or passes n pass ∷ []
  given-here hand pass =
      let there : n < length after = subst (λ m. n < m) (sym partly.counted) inside in
      ap held_by (get_or-set_same after n new hand there)
      ∙ held hand
      ∙ ap (λ (one : Hand). held_by one ++ given ∷ []) (partly.others n hand (omega arith))
      ∙ ap (λ (one : CellPass). held_by (slice_index_or before n hand) ++ one ∷ []) (sym (given-is pass))

  given-first : (w : ℕ) (hand : Hand) (pass : CellPass) → w < n + 1 →
      held_by (slice_index_or (slice_set after n new) w hand) ≡ held_by (slice_index_or before w hand) ++ slice_index_or passes w pass ∷ []
  given-first w hand pass l = elim (cases_eq w n) [
    | inl e ↦ subst (λ v. held_by (slice_index_or (slice_set after n new) v hand)
        ≡ held_by (slice_index_or before v hand) ++ slice_index_or passes v pass ∷ []) (sym e) (given-here hand pass)
    | inr other ↦ ap held_by (get_or-set_other after n w new hand other) ∙ partly.first w hand pass (omega arith)
  ]

  pub one-given : IsPartly before passes (slice_set after n new) (n + 1)
  one-given = record {
    counted = length-set after n new ∙ partly.counted;
    first = given-first;
    others = λ w hand l. let other : w ≢ n = omega arith in get_or-set_other after n w new hand other ∙ partly.others w hand (omega arith);
  }

-- a hand gives its last pass
module _ (before : List Hand) (passes : List CellPass) (after : List Hand) (n : ℕ) (new : Hand) (given : CellPass)
    (inside : n < length after) (counted : length passes ≡ n)
    (held : (hand : Hand) → held_by (slice_index_or before n hand) ≡ held_by new ++ given ∷ []) (partly : IsPartly before passes after n) where
  abbrev all : List CellPass
  all = passes ++ given ∷ []

  taken-here : (hand : Hand) (pass : CellPass) →
      held_by (slice_index_or after n hand) ≡ held_by (slice_index_or (slice_set before n new) n hand) ++ slice_index_or all n pass ∷ []
  taken-here hand pass =
      let there : n < length before = subst (λ m. n < m) partly.counted inside in
      let last : slice_index_or all n pass ≡ given = ap (λ m. slice_index_or all m pass) (sym counted) ∙ last-at passes given pass in
      ap held_by (partly.others n hand (omega arith))
      ∙ held hand
      ∙ ap (λ (one : Hand). held_by one ++ given ∷ []) (sym (get_or-set_same before n new hand there))
      ∙ ap (λ (one : CellPass). held_by (slice_index_or (slice_set before n new) n hand) ++ one ∷ []) (sym last)

  taken-first : (w : ℕ) (hand : Hand) (pass : CellPass) → w < n + 1 →
      held_by (slice_index_or after w hand) ≡ held_by (slice_index_or (slice_set before n new) w hand) ++ slice_index_or all w pass ∷ []
  taken-first w hand pass l = elim (cases_eq w n) [
    | inl e ↦ subst (λ v. held_by (slice_index_or after v hand)
        ≡ held_by (slice_index_or (slice_set before n new) v hand) ++ slice_index_or all v pass ∷ []) (sym e) (taken-here hand pass)
    | inr other ↦ partly.first w hand pass (omega arith)
        ∙ ap (λ (one : Hand). held_by one ++ slice_index_or passes w pass ∷ []) (sym (get_or-set_other before n w new hand other))
        ∙ ap (λ (one : CellPass). held_by (slice_index_or (slice_set before n new) w hand) ++ one ∷ [])
        (sym (get_or_append_left passes (given ∷ []) pass w (omega arith)))
  ]

  taken-now : IsPartly (slice_set before n new) all after (n + 1)
  taken-now = record {
    counted = partly.counted ∙ sym (length-set before n new);
    first = taken-first;
    others = λ w hand l.
        let other : w ≢ n = omega arith in
        partly.others w hand (omega arith) ∙ sym (get_or-set_other before n w new hand other);
  }

  pub one-taken : (more : List CellPass) → more ≡ passes ++ given ∷ [] → IsPartly (slice_set before n new) more after (n + 1)
  one-taken more pushed = subst (λ (list : List CellPass). IsPartly (slice_set before n new) list after (n + 1)) (sym pushed) taken-now

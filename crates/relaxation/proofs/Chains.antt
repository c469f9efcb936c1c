-- The versions of one stream: each holds the run, and each is strictly narrower than the one before.
use Rattle.std.proofs.Common.{◌≡◌, ℕ, zero, suc, ◌+◌, ◌-◌, ◌<◌, ◌≤◌, List, [], ◌∷◌, ◌++◌, length, slice_index_or, sym, ap, ◌∙◌, subst, subst₂, arith, length-append, inl, inr}
use Rattle.std.proofs.lemmas.List.{get_or_append_left, get_or_push}
use Rattle.std.proofs.lemmas.Bool.{cases_lt}
use Rattle.relaxation.specs.Tube.{Tube, IsWithin, IsNarrower, HasNumbers, width}
use Rattle.relaxation.proofs.Meets.{within-itself, within-through, numbers-wider, width-falls}

-- the version with a number
abbrev pub tube_at : List Tube → ℕ → Tube
tube_at versions k = slice_index_or versions k []

-- and the last one
abbrev pub newest : List Tube → Tube
newest versions = tube_at versions (length versions - 1)

-- Versions of a stream with this run and this opening tube, which is their first. There are no more than the opening tube is wide.
pub record AreVersions (run opening : Tube) (versions : List Tube) : Type 0 where
  pub some : 0 < length versions
  pub holds : (k : ℕ) → k < length versions → IsWithin run (tube_at versions k)
  pub narrower : (k : ℕ) → k + 1 < length versions → IsNarrower (tube_at versions (k + 1)) (tube_at versions k)
  pub opened : IsWithin (newest versions) opening
  pub counted : length versions + width (newest versions) ≤ 1 + width opening

-- the opening tube alone
pub versions_open : (run opening : Tube) → IsWithin run opening → AreVersions run opening (opening ∷ [])
versions_open run opening h = record {
  some = omega arith;
  holds = λ k l. elim (cases_lt 0 k) [ inl m ↦ absurd (omega arith) | inr m ↦ (let e : k ≡ 0 = omega arith in subst (λ i. IsWithin run (tube_at (opening ∷ []) i)) (sym e) h) ];
  narrower = λ k l. absurd (omega arith);
  opened = within-itself opening;
  counted = omega arith;
}

-- a list with one more tube is longer by 1
push-length : (versions : List Tube) (T : Tube) → length (versions ++ T ∷ []) ≡ length versions + 1
push-length versions T = length-append versions (T ∷ [])

-- the old tubes stay where they were
pub push-old : (versions : List Tube) (T : Tube) (k : ℕ) → k < length versions → tube_at (versions ++ T ∷ []) k ≡ tube_at versions k
push-old versions T k h = get_or_append_left versions (T ∷ []) [] k h

-- and the new one comes after them
push-new : (versions : List Tube) (T : Tube) (k : ℕ) → length versions ≡ k → tube_at (versions ++ T ∷ []) k ≡ T
push-new versions T k e = get_or_push versions T [] k e

-- it is the newest
pub push-newest : (versions : List Tube) (T : Tube) → newest (versions ++ T ∷ []) ≡ T
push-newest versions T = push-new versions T (length (versions ++ T ∷ []) - 1) (omega (arith, push-length versions T))

-- one more version, which holds the run and is strictly narrower than the newest
pub versions_push : (run opening : Tube) (versions : List Tube) (T : Tube) → HasNumbers run → AreVersions run opening versions →
    IsWithin run T → IsNarrower T (newest versions) → AreVersions run opening (versions ++ T ∷ [])
versions_push run opening versions T numbers are h narrow = record {
  some = omega (arith, push-length versions T);
  holds = λ k l. elim (cases_lt k (length versions)) [
    | inl m ↦ subst (IsWithin run) (sym (push-old versions T k m)) (are.holds k m)
    | inr m ↦ subst (IsWithin run) (sym (push-new versions T k (omega (arith, push-length versions T)))) h
  ];
  narrower = λ k l. elim (cases_lt (k + 1) (length versions)) [
    | inl m ↦ subst₂ IsNarrower (sym (push-old versions T (k + 1) m)) (sym (push-old versions T k (omega arith))) (are.narrower k m)
    | inr m ↦
        let s : 0 < length versions = are.some in
        let e : length versions ≡ k + 1 = omega (arith, push-length versions T) in
        let g : length versions - 1 ≡ k = omega arith in
        subst₂ IsNarrower (sym (push-new versions T (k + 1) e)) (ap (tube_at versions) g ∙ sym (push-old versions T k (omega arith))) narrow
  ];
  opened = subst (λ X. IsWithin X opening) (sym (push-newest versions T)) (within-through T (newest versions) opening narrow.within are.opened);
  counted =
      let falls : width T < width (newest versions) = width-falls T (newest versions) (numbers-wider run T numbers h) narrow in
      let e : width (newest (versions ++ T ∷ [])) ≡ width T = ap width (push-newest versions T) in
      let c : length versions + width (newest versions) ≤ 1 + width opening = are.counted in
      omega (arith, push-length versions T);
}

-- versions d places later lie in earlier ones
later-within : (run opening : Tube) (versions : List Tube) → AreVersions run opening versions →
    (d k : ℕ) → k + d < length versions → IsWithin (tube_at versions (k + d)) (tube_at versions k)
later-within run opening versions are zero k l = subst (λ i. IsWithin (tube_at versions i) (tube_at versions k)) (omega arith) (within-itself (tube_at versions k))
later-within run opening versions are (suc d) k l =
    within-through (tube_at versions (k + suc d)) (tube_at versions (k + d)) (tube_at versions k)
    (subst (λ i. IsWithin (tube_at versions i) (tube_at versions (k + d))) (omega arith) (are.narrower (k + d) (omega arith)).within)
    (later-within run opening versions are d k (omega arith))

-- and so do all later ones
pub versions-fall : (run opening : Tube) (versions : List Tube) → AreVersions run opening versions →
    (k i : ℕ) → k ≤ i → i < length versions → IsWithin (tube_at versions i) (tube_at versions k)
versions-fall run opening versions are k i h l =
    subst (λ j. IsWithin (tube_at versions j) (tube_at versions k)) (omega arith) (later-within run opening versions are (i - k) k (omega arith))

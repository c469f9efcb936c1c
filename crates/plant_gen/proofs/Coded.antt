-- Names that are told apart by a number that can be read from each: its place.
use Rattle.std.proofs.Common.{ℕ, zero, suc, ◌+◌, ◌<◌, ◌≤◌, ◌≡◌, ◌≢◌, ◌==◌, ◌&&◌, Bool, true, false, List, [], ◌∷◌, ◌++◌, length, map}
use Rattle.std.proofs.Common.{Some}
use Rattle.std.proofs.Common.{arith, refl, ap, sym, subst, ◌∙◌, add-zero, zero-add, slice_index_or, Ok, take}
use Rattle.std.specs.Str.{bytes_eq}
use Rattle.std.specs.List.{list_any}
use Rattle.std.proofs.lemmas.Bool.Decides.{Decides-eqb}
use Rattle.std.proofs.lemmas.Slice.Eq.{bytes_eq-Decides}
use Rattle.std.proofs.lemmas.List.{length-map}
use Rattle.plant_streams.specs.Streams.{number_from}
use Rattle.plant_streams.specs.declared.streams.Stream.{Stream}
use Rattle.plant_checks.specs.Checks.{each, name_check}
use Rattle.plant_gen.proofs.Below.{both}

-- the code of each name is its place, counted from s
abbrev pub AreCoded : (List ℕ → ℕ) → ℕ → List (List ℕ) → Type 0
AreCoded code s [] = Unit {0}
AreCoded code s (name ∷ rest) = (code name ≡ s) × AreCoded code (suc s) rest

-- computed, of names before others
abbrev pub are_coded : (List ℕ → ℕ) → ℕ → List (List ℕ) → Bool
are_coded code s [] = true
are_coded code s (name ∷ rest) = (code name == s) && are_coded code (suc s) rest

pub are-coded : (code : List ℕ → ℕ) (s : ℕ) (names rest : List (List ℕ)) → are_coded code s names ≡ true →
    AreCoded code (length names + s) rest → AreCoded code s (names ++ rest)
are-coded code s [] rest e coded = subst (λ (n : ℕ). AreCoded code n rest) (zero-add s) coded
are-coded code s (name ∷ names) rest e coded =
    let b = both (code name == s) (are_coded code (suc s) names) e in
    let next : suc (length names) + s ≡ length names + suc s = omega arith in (
      (Decides-eqb (code name) s).0 b.0,
      are-coded code (suc s) names rest b.1 (subst (λ (n : ℕ). AreCoded code n rest) next coded),
    )

not-true : (b : Bool) → ¬ (b ≡ true) → b ≡ false
not-true true h = absurd (h refl)
not-true false h = refl

same : (a b : List ℕ) → a ≡ b → bytes_eq a b ≡ true
same a b e = (bytes_eq-Decides a b).1 e

differ : (code : List ℕ → ℕ) (a b : List ℕ) → code a ≢ code b → bytes_eq a b ≡ false
differ code a b h = not-true (bytes_eq a b) (λ e. h (ap code ((bytes_eq-Decides a b).0 e)))

code-at : (code : List ℕ → ℕ) (names : List (List ℕ)) (s k : ℕ) → AreCoded code s names → k < length names →
    code (slice_index_or names k []) ≡ s + k
code-at code [] s k c h = absurd (omega arith)
code-at code (name ∷ rest) s zero c h = c.0 ∙ sym (add-zero s)
code-at code (name ∷ rest) s (suc k) c h = omega (arith, code-at code rest (suc s) k c.1 (omega arith))

-- a stream is found by its name
pub found : (code : List ℕ → ℕ) (streams : List Stream) (s k : ℕ) (name : List ℕ) →
    AreCoded code s (map (λ stream. stream.name) streams) → k < length streams →
    slice_index_or (map (λ stream. stream.name) streams) k [] ≡ name → number_from s streams name ≡ Some (s + k)
found code [] s k name c h e = absurd (omega arith)
found code (stream ∷ rest) s zero name c h e = rw (same stream.name name e, add-zero) refl
found code (stream ∷ rest) s (suc k) name c h e =
    let names : List (List ℕ) = map (λ (x : Stream). x.name) rest in
    let there : k < length names = omega (arith, length-map rest (λ (x : Stream). x.name)) in
    let at : code name ≡ suc s + k = ap code (sym e) ∙ code-at code names (suc s) k c.1 there in
    let here : code stream.name ≡ s = c.0 in
    let other : code stream.name ≢ code name = omega arith in
    let shifted : s + suc k ≡ suc s + k = omega arith in
    rw (differ code stream.name name other, shifted) (found code rest (suc s) k name c.1 (omega arith) e)

-- each name is another than those before it
none-like : (code : List ℕ → ℕ) (s i : ℕ) (names : List (List ℕ)) (name : List ℕ) → AreCoded code s names →
    s + i ≤ code name → list_any (bytes_eq name) (take i names) ≡ false
none-like code s zero names name c h = refl
none-like code s (suc i) [] name c h = refl
none-like code s (suc i) (x ∷ rest) name c h =
    let here : code x ≡ s = c.0 in
    let other : code name ≢ code x = omega arith in
    rw (differ code name x other) (none-like code (suc s) i rest name c.1 (omega arith))

pub names-pass : (code : List ℕ → ℕ) (names rest : List (List ℕ)) (i : ℕ) → AreCoded code 0 names →
    AreCoded code i rest → each (name_check names) i rest ≡ Ok tt
unfolding name_check
names-pass code names [] i c d = refl
names-pass code names (name ∷ rest) i c d =
    rw (none-like code 0 i names name c (omega (arith, d.0))) (names-pass code names rest (suc i) c d.1)

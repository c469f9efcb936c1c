-- What the code of a kind's methods gives: its calls, one in another, and its rows.
use Rattle.std.proofs.Common.{◌≡◌, ℕ, ◌<◌, ℤ, pos, FitsSigned, to_z, of_z, List, [], ◌∷◌, ◌++◌, ◌+◌, suc, length, get_or, refl, sym, ap, subst, ◌∙◌, arith}
use Rattle.std.proofs.lemmas.Int.{ints, clamps, to_z-of_z}
use Rattle.std.proofs.lemmas.List.{get_or_default, drop_all, append-nil}
use Rattle.std.proofs.lemmas.List.Edits.{sets, sets-eq}
use Rattle.std.specs.Int.{w64}
use Rattle.std.specs.Prelude.{slice_index_or}
use Rattle.quant.specs.Interval.{Interval, Holds, IsBand, IsInside, AllHold, AllInside, point}
use Rattle.quant.specs.Hull.{hull1}
use Rattle.quant.specs.Operation.{clamp}
use Rattle.quant.proofs.Hulls.{inside-holds}
use Rattle.quant.proofs.Terms.{place-holds}

-- what is clamped lies in the limits
pub clamped-inside : (limits A : Interval) → IsBand limits → IsInside (hull1 (clamp limits) A) limits
unfolding clamp
clamped-inside limits A b = record { above = omega (arith, ints, clamps); below = omega (arith, ints, clamps) }

-- the first interval lies in the third
pub inside-trans : (A B C : Interval) → IsInside A B → IsInside B C → IsInside A C
inside-trans A B C h k = record { above = omega (arith, ints); below = omega (arith, ints) }

-- a number that lies in the limits of its place lies where these do
pub place-held : (As : List Interval) (zs : List ℤ) (n : ℕ) (B : Interval) → AllHold As zs →
    IsInside (slice_index_or As n (point (pos 0))) B →
    Holds B (slice_index_or zs n (pos 0))
place-held As zs n B h k = inside-holds _ B _ k (place-holds As zs n h)

-- rows are as long as their limits
pub held-length : (As : List Interval) (zs : List ℤ) → AllHold As zs → length zs ≡ length As
held-length [] [] h = refl
held-length [] (z ∷ zs) h = absurd h
held-length (A ∷ As) [] h = absurd h
held-length (A ∷ As) (z ∷ zs) h = ap suc (held-length As zs h.1)

pub inside-length : (As Bs : List Interval) → AllInside As Bs → length As ≡ length Bs
inside-length [] [] h = refl
inside-length [] (B ∷ Bs) h = absurd h
inside-length (A ∷ As) [] h = absurd h
inside-length (A ∷ As) (B ∷ Bs) h = ap suc (inside-length As Bs h.1)

-- a call's result, from what its arguments are
pub given1 : (f : ℤ → ℤ) (u r a : ℤ) → FitsSigned w64 r → r ≡ f u → u ≡ a → to_z w64 (of_z w64 r) ≡ f a
given1 f u r a h e d = to_z-of_z w64 r h ∙ (e ∙ ap f d)

pub given2 : (f : ℤ → ℤ → ℤ) (u v r a b : ℤ) → FitsSigned w64 r → r ≡ f u v → u ≡ a → v ≡ b →
    to_z w64 (of_z w64 r) ≡ f a b
given2 f u v r a b h e d g = given1 (f u) v r b h e g ∙ ap (λ (t : ℤ). f t b) d

pub given4 : (f : ℤ → ℤ → ℤ → ℤ → ℤ) (u v w x r a b c d : ℤ) → FitsSigned w64 r → r ≡ f u v w x → u ≡ a → v ≡ b →
    w ≡ c → x ≡ d →
    to_z w64 (of_z w64 r) ≡ f a b c d
given4 f u v w x r a b c d h e i j k l = given2 (f u v) w x r c d h e k l ∙
    (ap (λ (t : ℤ). f u t c d) j ∙ ap (λ (t : ℤ). f t b c d) i)

pub given7 : (f : ℤ → ℤ → ℤ → ℤ → ℤ → ℤ → ℤ → ℤ) (u v w x y z t r a b c d e g i : ℤ) → FitsSigned w64 r →
    r ≡ f u v w x y z t →
    u ≡ a → v ≡ b → w ≡ c → x ≡ d → y ≡ e → z ≡ g → t ≡ i → to_z w64 (of_z w64 r) ≡ f a b c d e g i
given7 f u v w x y z t r a b c d e g i h q j k l m n o p =
    given4 (f u v w) x y z t r d e g i h q m n o p
    ∙ (ap (λ (s : ℤ). f u v s d e g i) l ∙ (ap (λ (s : ℤ). f u s c d e g i) k ∙ ap (λ (s : ℤ). f s b c d e g i) j))

-- the same on bands, which have no casts
pub hulled2 : (f : Interval → Interval → Interval) (U V R A B : Interval) → R ≡ f U V → U ≡ A → V ≡ B → R ≡ f A B
hulled2 f U V R A B e d g = e ∙ (ap (f U) g ∙ ap (λ (t : Interval). f t B) d)

pub hulled4 : (f : Interval → Interval → Interval → Interval → Interval) (U V W X R A B C D : Interval) →
    R ≡ f U V W X → U ≡ A → V ≡ B → W ≡ C → X ≡ D →
    R ≡ f A B C D
hulled4 f U V W X R A B C D e i j k l = hulled2 (f U V) W X R C D e k l ∙
    (ap (λ (t : Interval). f U t C D) j ∙ ap (λ (t : Interval). f t B C D) i)

-- what is read from a row of bands
pub read : (As : List Interval) (n : ℕ) (r : Interval) → n < length As → r ≡ get_or As n r →
    r ≡ slice_index_or As n (point (pos 0))
read As n r h e = e ∙ get_or_default As n r (point (pos 0)) h

pub read-inside : (As : List Interval) (n : ℕ) (r B : Interval) → n < length As → r ≡ get_or As n r →
    IsInside (slice_index_or As n (point (pos 0))) B → IsInside r B
read-inside As n r B h e k = subst (λ (R : Interval). IsInside R B) (sym (read As n r h e)) k

-- a row that is written from its head to its end
pub filled : {A : Type 0} (row items : List A) → length row ≡ length items → sets row 0 items ≡ items
filled row items h =
    sets-eq items row 0 (omega arith) ∙
    (ap (λ t. items ++ t) (drop_all (0 + length items) row (omega arith)) ∙ append-nil items)

-- equal heads and equal rests make equal lists
pub same_cons : {A : Type 0} (a b : A) (xs ys : List A) → a ≡ b → xs ≡ ys → a ∷ xs ≡ b ∷ ys
same_cons a b xs ys e d = ap (λ t. t ∷ xs) e ∙ ap (λ ts. b ∷ ts) d

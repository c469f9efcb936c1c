-- Tests of the numbers below a number, which are computed.
use Rattle.std.proofs.Common.{ℕ, zero, suc, ◌<◌, ◌≡◌, Bool, true, false, ◌&&◌, ⊎_elim, arith, refl, subst}
use Rattle.std.proofs.lemmas.Bool.{cases_lt}

-- each number below n passes the test
abbrev pub all_below : (ℕ → Bool) → ℕ → Bool
all_below test zero = true
all_below test (suc n) = test n && all_below test n

pub both : (a b : Bool) → (a && b) ≡ true → (a ≡ true) × (b ≡ true)
both true b e = (refl, e)
both false b e = absurd cc

pub passes-below : (test : ℕ → Bool) (n i : ℕ) → all_below test n ≡ true → i < n → test i ≡ true
passes-below test zero i e h = absurd (omega arith)
passes-below test (suc n) i e h =
    let b = both (test n) (all_below test n) e in
    ⊎_elim
    (λ l. passes-below test n i b.1 l)
    (λ l. subst (λ (k : ℕ). test k ≡ true) (omega arith) b.0)
    (cases_lt i n)

-- The worked window, by computation.
use Rattle.std.proofs.Common.{◌≡◌, ℕ, zero, suc, ◌<◌, [], ◌∷◌, true, false, slice_index, map, fold, max, Contains, pos, refl, subst, arith}
use Rattle.std.proofs.lemmas.Int.{ints}
use Rattle.quant.specs.Rounding.{quotient}
use Rattle.quant.specs.Operation.{share, keep, blend, clamp}
use Rattle.std.specs.Int.Signed.{≤ℤ_refl}
use Rattle.std.proofs.lemmas.Bool.{false≢true}
use Rattle.quant.specs.Interval.{AllBands, IsBand, point}
use Rattle.flowsheet.specs.Plant.{IsRanked, unit_at, origin_of, rank_of, IsOrigin, feed}
use Rattle.relaxation.specs.Tube.{IsWithin, tube_of}
use Rattle.relaxation.specs.Window.{IsOpen, run_tube, renewal}
use Rattle.relaxation.specs.Core.{Versions, last_of, opening_versions, reached, IsQuiet, AreLegal}
use Rattle.relaxation.proofs.Meets.{within-yes, within-test}
use Rattle.relaxation.specs.Worked.{plant, window, outflow_step, level_step}

worked-reads : (u s : ℕ) → u < 1 → Contains (unit_at plant u).reads s → s < 4
worked-reads zero s l (zero, k, e) = omega arith
worked-reads zero s l (suc zero, k, e) = omega arith
worked-reads zero s l (suc (suc n), k, e) = absurd (omega arith)
worked-reads (suc u) s l c = absurd (omega arith)

worked-origins : (s : ℕ) → s < 4 → IsOrigin plant (origin_of plant s)
worked-origins zero l = tt
worked-origins (suc zero) l = tt
worked-origins (suc (suc zero)) l = (omega arith, omega arith)
worked-origins (suc (suc (suc zero))) l = (omega arith, omega arith)
worked-origins (suc (suc (suc (suc s)))) l = absurd (omega arith)

worked-registers : (u : ℕ) → u < 1 → (unit_at plant u).instant ≡ false → slice_index plant.ranks u ≡ 0
worked-registers zero l e = refl
worked-registers (suc u) l e = absurd (omega arith)

worked-instants : (u : ℕ) → u < 1 → (unit_at plant u).instant ≡ true →
    slice_index plant.ranks u ≡ suc (fold max 0 (map (rank_of plant) (unit_at plant u).reads))
worked-instants zero l e = search e
worked-instants (suc u) l e = absurd (omega arith)

worked-ranked : IsRanked plant
worked-ranked = record { counted = refl; reads = worked-reads; origins = worked-origins; registers = worked-registers; instants = worked-instants; top = refl }

one-number : (n : ℕ) → IsBand (point (pos n))
one-number n = record { ordered = ≤ℤ_refl (pos n) }

worked-carried : (u : ℕ) → AllBands (window.carried u)
worked-carried zero = (one-number 1000, (one-number 10, (one-number 0, (one-number 300000, tt))))
worked-carried (suc u) = tt

worked-fed : (t f : ℕ) → AllBands (window.feeds t f)
worked-fed t zero = (record { ordered = omega (arith, ints) }, (one-number 100, (one-number 300000, tt)))
worked-fed t (suc zero) = (one-number 1000000, tt)
worked-fed t (suc (suc f)) = tt

worked-holds : (s : ℕ) → s < 4 → IsWithin (run_tube window s) (window.opening s)
unfolding quotient share keep blend clamp
worked-holds zero l = within-yes (run_tube window 0) (window.opening 0) refl
worked-holds (suc zero) l = within-yes (run_tube window 1) (window.opening 1) refl
worked-holds (suc (suc zero)) l = within-yes (run_tube window 2) (window.opening 2) refl
worked-holds (suc (suc (suc zero))) l = within-yes (run_tube window 3) (window.opening 3) refl
worked-holds (suc (suc (suc (suc s)))) l = absurd (omega arith)

worked-opening : (s f : ℕ) → s < 4 → origin_of plant s ≡ feed f → window.opening s ≡ tube_of (λ t. window.feeds t f) 2
worked-opening zero f l e = let k : 0 ≡ f = cc e in subst (λ n. window.opening 0 ≡ tube_of (λ t. window.feeds t n) 2) k refl
worked-opening (suc zero) f l e = let k : 1 ≡ f = cc e in subst (λ n. window.opening 1 ≡ tube_of (λ t. window.feeds t n) 2) k refl
worked-opening (suc (suc zero)) f l e = absurd (cc e)
worked-opening (suc (suc (suc zero))) f l e = absurd (cc e)
worked-opening (suc (suc (suc (suc s)))) f l e = absurd (omega arith)

pub worked-open : IsOpen window
worked-open = record {
  ranked = worked-ranked;
  bands = record { states = λ u l. worked-carried u; fed = λ t s f m l e. worked-fed t f };
  holds = worked-holds;
  fed = worked-opening;
}

-- the versions after both steps
abbrev pub settled : Versions
settled = reached window (outflow_step ∷ level_step ∷ [])

pub worked-quiet : IsQuiet window (reached window (outflow_step ∷ level_step ∷ []))
unfolding quotient share keep blend clamp
worked-quiet zero l = tt
worked-quiet (suc zero) l = tt
worked-quiet (suc (suc zero)) l = within-yes (last_of settled 2) (renewal window 0 0 (map (last_of settled) (0 ∷ 1 ∷ []))) refl
worked-quiet (suc (suc (suc zero))) l = within-yes (last_of settled 3) (renewal window 0 1 (map (last_of settled) (0 ∷ 1 ∷ []))) refl
worked-quiet (suc (suc (suc (suc s)))) l = absurd (omega arith)

pub worked-restless : IsQuiet window (opening_versions window) → ⊥
unfolding quotient share keep blend clamp
worked-restless h =
    false≢true (within-test (last_of (opening_versions window) 2) (renewal window 0 0 (map (last_of (opening_versions window)) (0 ∷ 1 ∷ []))) (h 2 (omega arith)))

pub worked-legal : AreLegal window (opening_versions window) (outflow_step ∷ level_step ∷ [])
unfolding quotient share keep blend clamp
worked-legal = (
  record { stream = omega arith; inputs = (omega arith, (omega arith, tt)) },
  (record { stream = omega arith; inputs = (omega arith, (omega arith, tt)) }, tt),
)

-- The two steps of the worked window as a sweep.
use Rattle.std.proofs.Common.{◌⊎◌, ◌==◌, ℕ, zero, suc, ◌<◌, ◌≤◌, [], ◌∷◌, map, Contains, refl, inl, inr, arith, ne_eqb}
use Rattle.std.specs.Prelude.{count_by}
use Rattle.std.proofs.lemmas.Bool.{false≢true}
use Rattle.quant.specs.Rounding.{quotient}
use Rattle.quant.specs.Operation.{share, keep, blend, clamp}
use Rattle.flowsheet.specs.Plant.{origin_of}
use Rattle.relaxation.specs.Window.{renewal}
use Rattle.relaxation.specs.Core.{Step, last_of, opening_versions, IsSettled}
use Rattle.relaxation.specs.Sweep.{ReadsNewest, IsSweep}
use Rattle.relaxation.specs.Worked.{plant, window, outflow_step, level_step}
use Rattle.relaxation.proofs.Meets.{within-test}
use Rattle.relaxation.proofs.Worked.{worked-legal}

-- both steps read the feeds' newest versions
steps-newest : (step : Step) → Contains (outflow_step ∷ level_step ∷ []) step →
    ReadsNewest window (opening_versions window) step.inputs (origin_of plant step.stream)
steps-newest step (zero, l, e) = rw (← e) (omega arith, (omega arith, tt))
steps-newest step (suc zero, l, e) = rw (← e) (omega arith, (omega arith, tt))
steps-newest step (suc (suc k), l, e) = absurd (omega arith)

-- each of another stream
steps-once : (s : ℕ) → count_by (λ (step : Step). step.stream == s) (outflow_step ∷ level_step ∷ []) ≤ 1
steps-once zero = omega arith
steps-once (suc zero) = omega arith
steps-once (suc (suc zero)) = omega arith
steps-once (suc (suc (suc zero))) = omega arith
steps-once (suc (suc (suc (suc s)))) =
    rw (ne_eqb 2 (suc (suc (suc (suc s)))) (λ e. omega arith), ne_eqb 3 (suc (suc (suc (suc s)))) (λ e. omega arith)) (omega arith)

-- the feeds are settled, and the others renewed
steps-cover : (s : ℕ) → s < 4 → Contains (map (λ (step : Step). step.stream) (outflow_step ∷ level_step ∷ [])) s
    ⊎ IsSettled window (opening_versions window) s (origin_of plant s)
steps-cover zero l = inr tt
steps-cover (suc zero) l = inr tt
steps-cover (suc (suc zero)) l = inl (0, omega arith, refl)
steps-cover (suc (suc (suc zero))) l = inl (1, omega arith, refl)
steps-cover (suc (suc (suc (suc s)))) l = absurd (omega arith)

pub steps-sweep : IsSweep window (opening_versions window) (outflow_step ∷ level_step ∷ [])
steps-sweep = record { legal = worked-legal; newest = steps-newest; once = steps-once; covers = steps-cover }

-- the level is not settled at the opening
level-restless : IsSettled window (opening_versions window) 3 (origin_of plant 3) → ⊥
unfolding quotient share keep blend clamp
level-restless h = false≢true (within-test (last_of (opening_versions window) 3)
    (renewal window 0 1 (map (last_of (opening_versions window)) (0 ∷ 1 ∷ []))) h)

-- and the outflow's step does not renew it
level-left : Contains {X = ℕ} (2 ∷ []) 3 → ⊥
level-left (zero, l, e) = cc
level-left (suc k, l, e) = absurd (omega arith)

pub outflow-sweep : IsSweep window (opening_versions window) (outflow_step ∷ []) → ⊥
outflow-sweep sweep = elim (sweep.covers 3 (omega arith)) [ inl c ↦ level-left c | inr h ↦ level-restless h ]

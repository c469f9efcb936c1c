-- The equations of a mixer, and what it may be given.
use Rattle.std.specs.Prelude.{ℕ, zero, suc, ◌+◌, ◌-◌, ◌*◌, ◌≤◌, pos, List, [], ◌∷◌}
use Rattle.quant.specs.Interval.{Interval, wide}
use Rattle.quant.specs.Limits.{AreLimits, wide_from}
use Rattle.quant.specs.Ports.{stream_limits}
use Rattle.quant.specs.Term.{Term, input, sum, mix_of, clamped}
use Rattle.basic_units.specs.declared.mixer.Mixer.{Mixer}

-- the flow of the first stream and n further ones
abbrev pub flow_of : ℕ → Term
flow_of zero = input 0
flow_of (suc n) = sum (flow_of n) (input (3 * suc n))

-- their conc, which is channel 1 of each, or temp, which is channel 2: each further stream is mixed in by its flow
abbrev pub content_of : ℕ → ℕ → Term
content_of channel zero = input channel
content_of channel (suc n) = mix_of (content_of channel n) (input (3 * suc n + channel)) (flow_of n) (input (3 * suc n))

-- its output
abbrev pub now_terms : Mixer → List (List Term)
now_terms mixer =
    let further = mixer.inputs - 1 in
    (clamped mixer.limits.flow (flow_of further) ∷ clamped mixer.limits.conc (content_of 1 further)
    ∷ clamped mixer.limits.temp (content_of 2 further) ∷ [])
    ∷ []

abbrev pub output_limits : Mixer → List (List Interval)
output_limits mixer = stream_limits mixer.limits ∷ []

-- where the channels of n streams may lie: no flow is negative
abbrev pub streams : ℕ → List Interval
streams zero = []
streams (suc n) = wide_from (pos 0) ∷ wide ∷ wide ∷ streams n

-- 2 to 8 streams flow in, and the limits are limits
pub record IsSound (mixer : Mixer) : Type 0 where
  pub some : 2 ≤ mixer.inputs
  pub few : mixer.inputs ≤ 8
  pub limits : AreLimits mixer.limits

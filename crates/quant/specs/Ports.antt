-- The ports of a unit.
use Rattle.std.specs.Prelude.{ℕ, ◌+◌, List, [], ◌∷◌, flat_map}
use Rattle.quant.specs.declared.limits.Limits.{Limits}
use Rattle.quant.specs.Interval.{Interval}
use Rattle.quant.specs.Term.{Term, input}

-- the channels of its outputs, one output after another
abbrev pub outputs : {A : Type 0} → List (List A) → List A
outputs ports = flat_map (λ channels. channels) ports

-- the channels of a stream
pub record Stream : Type 0 where
  pub flow : Term
  pub conc : Term
  pub temp : Term

-- the stream that comes in at this input and the two behind it
abbrev pub stream_at : ℕ → Stream
stream_at n = record { flow = input n; conc = input (n + 1); temp = input (n + 2) }

-- the limits of the channels of a stream
abbrev pub stream_limits : Limits → List Interval
stream_limits limits = limits.flow ∷ limits.conc ∷ limits.temp ∷ []

-- The equations of a splitter, and what it may be given.
use Rattle.std.specs.Prelude.{pos, List, [], ◌∷◌}
use Rattle.quant.specs.Interval.{Interval, Holds, wide}
use Rattle.quant.specs.Operation.{ppm}
use Rattle.quant.specs.Limits.{AreLimits, wide_from}
use Rattle.quant.specs.Ports.{stream_limits}
use Rattle.quant.specs.Term.{Term, number, share_of, rest_of, clamped}
use Rattle.basic_units.specs.Stream.{inflow}
use Rattle.basic_units.specs.declared.splitter.Splitter.{Splitter}

-- an output of this flow
abbrev pub part_of : Splitter → Term → List Term
part_of splitter flow = clamped splitter.limits.flow flow ∷ clamped splitter.limits.conc inflow.conc
    ∷ clamped splitter.limits.temp inflow.temp ∷ []

-- its outputs: the first takes its share of the flow, and the second the rest
abbrev pub now_terms : Splitter → List (List Term)
now_terms splitter =
    part_of splitter (share_of inflow.flow (number splitter.share)) ∷ part_of splitter
    (rest_of inflow.flow (number splitter.share)) ∷ []

abbrev pub output_limits : Splitter → List (List Interval)
output_limits splitter = stream_limits splitter.limits ∷ stream_limits splitter.limits ∷ []

-- where its inputs may lie: the flow is not negative
abbrev pub input_limits : List Interval
input_limits = wide_from (pos 0) ∷ wide ∷ wide ∷ []

-- the first takes at most the whole flow, and the limits are limits
pub record IsSound (splitter : Splitter) : Type 0 where
  pub share : Holds ppm splitter.share
  pub limits : AreLimits splitter.limits

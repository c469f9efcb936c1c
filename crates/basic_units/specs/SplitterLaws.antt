-- A splitter keeps its limits.
use Rattle.std.specs.Prelude.{List, []}
use Rattle.quant.specs.Interval.{Interval, AllInside}
use Rattle.quant.specs.Rounding.{Floor}
use Rattle.quant.specs.Term.{intervals, number, share_of, rest_of}
use Rattle.basic_units.specs.declared.splitter.Splitter.{Splitter}
use Rattle.quant.specs.Ports.{outputs, stream_limits}
use Rattle.basic_units.specs.Splitter.{IsSound, part_of, now_terms, output_limits}
use Rattle.basic_units.specs.Stream.{inflow}
use Rattle.basic_units.specs.Limited.{stream-limited}

-- each channel is clamped by its limits
pub now-limited : (splitter : Splitter) (inputs : List Interval) → IsSound splitter →
    AllInside (intervals Floor (outputs (now_terms splitter)) [] inputs) (outputs (output_limits splitter))
now-limited splitter inputs sound =
    let first = share_of inflow.flow (number splitter.share) in
    let second = rest_of inflow.flow (number splitter.share) in
    stream-limited splitter.limits [] inputs first inflow.conc inflow.temp
    (intervals Floor (part_of splitter second) [] inputs) (stream_limits splitter.limits)
    sound.limits (stream-limited splitter.limits [] inputs second inflow.conc inflow.temp [] [] sound.limits tt)

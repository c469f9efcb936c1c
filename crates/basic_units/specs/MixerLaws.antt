-- A mixer keeps its limits.
use Rattle.std.specs.Prelude.{◌-◌, List, []}
use Rattle.quant.specs.Interval.{Interval, AllInside}
use Rattle.quant.specs.Rounding.{Floor}
use Rattle.quant.specs.Term.{intervals}
use Rattle.basic_units.specs.declared.mixer.Mixer.{Mixer}
use Rattle.quant.specs.Ports.{outputs}
use Rattle.basic_units.specs.Mixer.{IsSound, flow_of, content_of, now_terms, output_limits}
use Rattle.basic_units.specs.Limited.{stream-limited}

-- each channel is clamped by its limits
pub now-limited : (mixer : Mixer) (inputs : List Interval) → IsSound mixer →
    AllInside (intervals Floor (outputs (now_terms mixer)) [] inputs) (outputs (output_limits mixer))
now-limited mixer inputs sound =
    let further = mixer.inputs - 1 in
    stream-limited mixer.limits [] inputs (flow_of further) (content_of 1 further)
    (content_of 2 further) [] [] sound.limits tt

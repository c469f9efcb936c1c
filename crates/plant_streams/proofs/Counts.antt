-- How many streams a plant has.
use Rattle.std.proofs.Common.{◌≤◌, length, arith, ◌≡◌, List, ap, map, sym, ◌∙◌, ℕ, suc, [], ◌∷◌, refl, ◌*◌}
use Rattle.std.proofs.Common.{length-append}
use Rattle.std.proofs.lemmas.List.{length-map}
use Rattle.parts.specs.declared.units.KindPart.{KindPart}
use Rattle.parts.specs.declared.units.KindPart.TheVariants as part
use Rattle.parts.specs.declared.feeds.FeedPart.{FeedPart}
use Rattle.parts.specs.declared.units.UnitPart.{UnitPart}
use Rattle.parts.specs.Parts.{FileParts}
use Rattle.plant_streams.specs.Streams.{ports_of, Port, feed_streams, port_streams, unit_streams, streams_of}
use Rattle.plant_streams.specs.declared.ports.Port as code
use Rattle.plant_streams.specs.Seen.{port_seen}

pub few_ports : (kind : KindPart) → length (ports_of kind) ≤ 3
unfolding ports_of
few_ports (part.Tank input valve k volume flow conc temp) = omega arith
few_ports (part.Reactor input valve jacket k rate heat ua volume flow conc temp) = omega arith
few_ports (part.Column liquid vapour stages holdup slope x liquid_flow liquid_temp vapour_flow vapour_temp) =
    omega arith
few_ports (part.Controller set measured kp ki bias integral_limits integral out) = omega arith
few_ports (part.Mixer input) = omega arith
few_ports (part.Splitter input share) = omega arith

-- the code lists as many ports
pub ports_are : (listed : List code.Port) (kind : KindPart) → map port_seen listed ≡ ports_of kind →
    length listed ≡ length (ports_of kind)
ports_are listed kind same = sym (length-map listed port_seen) ∙ ap length same

pub length-feed_streams : (f : ℕ) (feeds : List FeedPart) → length (feed_streams f feeds) ≡ length feeds
length-feed_streams f [] = refl
length-feed_streams f (feed ∷ rest) = ap suc (length-feed_streams (suc f) rest)

pub length-port_streams : (name : List ℕ) (u p : ℕ) (ports : List Port) →
    length (port_streams name u p ports) ≡ length ports
length-port_streams name u p [] = refl
length-port_streams name u p (port ∷ rest) = ap suc (length-port_streams name u (suc p) rest)

few_outputs : (u : ℕ) (units : List UnitPart) → length (unit_streams u units) ≤ 3 * length units
few_outputs u [] = omega arith
few_outputs u (unit ∷ rest) =
    omega (
      arith,
      length-append (port_streams unit.name u 0 (ports_of unit.kind)) (unit_streams (suc u) rest),
      length-port_streams unit.name u 0 (ports_of unit.kind),
      few_ports unit.kind,
      few_outputs (suc u) rest,
    )

pub few_streams : (parts : FileParts) → length parts.feeds ≤ 256 → length parts.units ≤ 256 →
    length (streams_of parts) ≤ 1024
unfolding streams_of
few_streams parts feeds units =
    omega (
      arith,
      length-append (feed_streams 0 parts.feeds) (unit_streams 0 parts.units),
      length-feed_streams 0 parts.feeds,
      few_outputs 0 parts.units,
    )

-- The streams of a plant: its feeds in the order of the file, and then the outputs of each unit in turn.
use Rattle.std.specs.Prelude.{ℕ, Bool, false, List, map, Option, Some, None, slice_index_or, true, [], ◌∷◌, codes}
use Rattle.std.specs.Prelude.{suc, ◌++◌, bytes_eq, if◌then◌else◌, decimal}
use Rattle.parts.specs.declared.units.KindPart.{KindPart}
use Rattle.parts.specs.declared.units.KindPart.TheVariants as part
use Rattle.parts.specs.declared.feeds.FeedKind.{FeedKind}
use Rattle.parts.specs.declared.feeds.FeedKind.TheVariants as feed_kind
use Rattle.parts.specs.declared.feeds.FeedPart.{FeedPart}
use Rattle.parts.specs.declared.units.UnitPart.{UnitPart}
use Rattle.parts.specs.Parts.{FileParts}
use Rattle.plant_streams.specs.declared.streams.Stream.{Stream}
use Rattle.plant_streams.specs.declared.streams.StreamSource.TheVariants as source

-- an output port: its name, and whether it gives a signal
pub record Port : Type 0 where
  pub name : List ℕ
  pub signal : Bool

abbrev pub material : List ℕ → Port
material name = record { name = name; signal = false }

abbrev pub signal : List ℕ → Port
signal name = record { name = name; signal = true }

-- the outputs of each kind of unit
unfoldable pub ports_of : KindPart → List Port
ports_of (part.Tank input valve k volume flow conc temp) = material (codes "out") ∷ signal (codes "level") ∷ []
ports_of (part.Reactor input valve jacket k rate heat ua volume flow conc temp) =
    material (codes "out") ∷ signal (codes "level") ∷ signal (codes "temp") ∷ []
ports_of (part.Column liquid vapour stages holdup slope x liquid_flow liquid_temp vapour_flow vapour_temp) =
    material (codes "liquid") ∷ material (codes "vapour") ∷ []
ports_of (part.Controller set measured kp ki bias integral_limits integral out) = signal (codes "out") ∷ []
ports_of (part.Mixer input) = material (codes "out") ∷ []
ports_of (part.Splitter input share) = material (codes "first") ∷ material (codes "second") ∷ []

abbrev pub is_signal : FeedKind → Bool
is_signal (feed_kind.Material flow conc temp) = false
is_signal (feed_kind.Signal value) = true

-- the streams of the feeds from number f on
abbrev pub feed_streams : ℕ → List FeedPart → List Stream
feed_streams f [] = []
feed_streams f (feed ∷ rest) =
    record { name = feed.name; source = source.Feed f; signal = is_signal feed.kind } ∷ feed_streams (suc f) rest

-- the streams of a unit's outputs from number p on
abbrev pub port_streams : List ℕ → ℕ → ℕ → List Port → List Stream
port_streams unit u p [] = []
port_streams unit u p (port ∷ rest) =
    record { name = unit ++ codes "." ++ port.name; source = source.Port u p; signal = port.signal }
    ∷ port_streams unit u (suc p) rest

-- the streams of the units from number u on
abbrev pub unit_streams : ℕ → List UnitPart → List Stream
unit_streams u [] = []
unit_streams u (unit ∷ rest) = port_streams unit.name u 0 (ports_of unit.kind) ++ unit_streams (suc u) rest

unfoldable pub streams_of : FileParts → List Stream
streams_of parts = feed_streams 0 parts.feeds ++ unit_streams 0 parts.units

-- the number of the stream with this name, among those from number s on
abbrev pub number_from : ℕ → List Stream → List ℕ → Option ℕ
number_from s [] name = None
number_from s (stream ∷ rest) name = if bytes_eq stream.name name then Some s else number_from (suc s) rest name

abbrev pub number_of : List Stream → List ℕ → Option ℕ
number_of streams name = number_from 0 streams name

-- a reference of a unit: its key, with an index among the inputs of a mixer; what it names; and whether it needs a
-- signal
pub record Reference : Type 0 where
  pub key : List ℕ
  pub name : List ℕ
  pub signal : Bool

abbrev pub needs : Bool → List ℕ → List ℕ → Reference
needs signal key name = record { key = key; name = name; signal = signal }

abbrev pub needs_material : List ℕ → List ℕ → Reference
needs_material = needs false

abbrev pub needs_signal : List ℕ → List ℕ → Reference
needs_signal = needs true

-- the inputs of a mixer from number i on
abbrev pub mixer_references : ℕ → List (List ℕ) → List Reference
mixer_references i [] = []
mixer_references i (name ∷ rest) =
    needs_material (codes "in[" ++ decimal i ++ codes "]") name ∷ mixer_references (suc i) rest

-- what each kind of unit reads, in the order of its input ports
unfoldable pub references_of : KindPart → List Reference
references_of (part.Tank input valve k volume flow conc temp) =
    needs_material (codes "in") input ∷ needs_signal (codes "valve") valve ∷ []
references_of (part.Reactor input valve jacket k rate heat ua volume flow conc temp) =
    needs_material (codes "in") input ∷ needs_signal (codes "valve") valve ∷ needs_signal (codes "jacket") jacket ∷ []
references_of (part.Column liquid vapour stages holdup slope x liquid_flow liquid_temp vapour_flow vapour_temp) =
    needs_material (codes "liquid") liquid ∷ needs_material (codes "vapour") vapour ∷ []
references_of (part.Controller set measured kp ki bias integral_limits integral out) =
    needs_signal (codes "set") set ∷ needs_signal (codes "measured") measured ∷ []
references_of (part.Mixer input) = mixer_references 0 input
references_of (part.Splitter input share) = needs_material (codes "in") input ∷ []

-- whether there is such a stream, and it is a signal
abbrev pub gives_signal : List Stream → Option ℕ → Bool
gives_signal streams None = false
gives_signal streams (Some s) = slice_index_or (map (λ stream. stream.signal) streams) s false

-- The units of a plant, with the numbers of their streams, their limits and their opening bands.
use Rattle.std.specs.Prelude.{◌≤◌, length, ℕ, List, map, unwrap_or, ◌++◌, replicate, ◌+◌, [], ◌∷◌, codes, true, Bool}
use Rattle.std.specs.Prelude.{false}
use Rattle.std.specs.List.{range_with_len}
use Rattle.quant.specs.Table.{IsTable}
use Rattle.quant.specs.declared.limits.Limits.{Limits}
use Rattle.quant.specs.Interval.{Interval, AllInside}
use Rattle.quant.specs.Term.{Term}
use Rattle.basic_units.specs.Tank as tanks
use Rattle.basic_units.specs.Reactor as reactors
use Rattle.basic_units.specs.Mixer as mixers
use Rattle.basic_units.specs.Splitter as splitters
use Rattle.column_section.specs.Column as columns
use Rattle.controllers.specs.Controller as controllers
use Rattle.flowsheet.specs.Plant as sheet
use Rattle.parts.specs.declared.units.KindPart.{KindPart}
use Rattle.parts.specs.declared.units.KindPart.TheVariants as part
use Rattle.parts.specs.Parts.{FileParts}
use Rattle.parts.specs.declared.units.UnitPart.{UnitPart}
use Rattle.plant_streams.specs.declared.streams.Stream.{Stream}
use Rattle.plant_streams.specs.Streams.{number_of, references_of, streams_of, ports_of}
use Rattle.plant_streams.specs.Limits.{limits_in}
use Rattle.plant_units.specs.declared.units.Ends.{Ends}
use Rattle.plant_units.specs.declared.units.Unit.{Unit}
use Rattle.plant_units.specs.declared.units.Unit.TheVariants as unit

-- the numbers of the streams that a unit reads
abbrev pub inputs_of : List Stream → KindPart → List ℕ
inputs_of streams kind = map (λ reference. unwrap_or (number_of streams reference.name) 0) (references_of kind)

-- what a unit of each kind needs to be made: the points of a reactor's rates are a table, and a mixer has few inputs
abbrev pub IsMakeable : KindPart → Type 0
IsMakeable (part.Reactor input valve jacket k rate heat ua volume flow conc temp) = IsTable rate
IsMakeable (part.Mixer input) = length input ≤ 8
IsMakeable _ = Prim.Unit {0}

-- the bands of the states of a unit of each kind at the first tick: the stages of a column open alike
abbrev pub opening_bands : KindPart → List Interval
opening_bands (part.Tank input valve k volume flow conc temp) = volume ∷ flow ∷ conc ∷ temp ∷ []
opening_bands (part.Reactor input valve jacket k rate heat ua volume flow conc temp) = volume ∷ flow ∷ conc ∷ temp ∷ []
opening_bands (part.Column liquid vapour stages holdup slope x liquid_flow liquid_temp vapour_flow vapour_temp) =
    replicate stages x ++ liquid_flow ∷ liquid_temp ∷ vapour_flow ∷ vapour_temp ∷ []
opening_bands (part.Controller set measured kp ki bias integral_limits integral out) = integral ∷ out ∷ []
opening_bands (part.Mixer input) = []
opening_bands (part.Splitter input share) = []

-- a unit of each kind, under these limits
abbrev pub kind_made : Limits → KindPart → Ends → Unit
kind_made limits (part.Tank input valve k volume flow conc temp) = unit.Tank (record { k = k; limits = limits })
kind_made limits (part.Reactor input valve jacket k rate heat ua volume flow conc temp) =
    unit.Reactor (record { k = k; rate = rate; heat = heat; ua = ua; limits = limits })
kind_made limits (part.Column liquid vapour stages holdup slope x liquid_flow liquid_temp vapour_flow vapour_temp) =
    unit.Column (record { stages = stages; holdup = holdup; slope = slope; limits = limits })
kind_made limits (part.Controller set measured kp ki bias integral_limits integral out) =
    unit.Controller (record { kp = kp; ki = ki; bias = bias; integral_limits = integral_limits; limits = limits })
kind_made limits (part.Mixer input) = unit.Mixer (record { inputs = length input; limits = limits })
kind_made limits (part.Splitter input share) = unit.Splitter (record { share = share; limits = limits })

-- a unit of each kind, with this name and these numbers of its streams
unfoldable pub made_unit : List ℕ → Limits → List ℕ → List ℕ → KindPart → Unit
made_unit name limits inputs outputs kind =
    kind_made limits kind (record { name = name; inputs = inputs; outputs = outputs; opening = opening_bands kind })

-- a unit whose first output has this number among the streams
unfoldable pub unit_from : FileParts → ℕ → UnitPart → Unit
unit_from parts first unit_part =
    made_unit unit_part.name (limits_in parts.limits unit_part.limits) (inputs_of (streams_of parts) unit_part.kind)
    (range_with_len first (length (ports_of unit_part.kind))) unit_part.kind

abbrev pub units_from : FileParts → ℕ → List UnitPart → List Unit
units_from parts first [] = []
units_from parts first (unit_part ∷ rest) =
    unit_from parts first unit_part ∷ units_from parts (first + length (ports_of unit_part.kind)) rest

unfoldable pub units_of : FileParts → List Unit
units_of parts = units_from parts (length parts.feeds) parts.units

-- what it has beside the parameters of its kind
abbrev pub ends_of : Unit → Ends
ends_of (unit.Tank tank ends) = ends
ends_of (unit.Reactor reactor ends) = ends
ends_of (unit.Column column ends) = ends
ends_of (unit.Controller controller ends) = ends
ends_of (unit.Mixer mixer ends) = ends
ends_of (unit.Splitter splitter ends) = ends

-- its name, and the name of its kind in a plant file
abbrev pub name_of : Unit → List ℕ
name_of x = (ends_of x).name

unfoldable pub kind_of : Unit → List ℕ
kind_of (unit.Tank tank ends) = codes "tank"
kind_of (unit.Reactor reactor ends) = codes "reactor"
kind_of (unit.Column column ends) = codes "column"
kind_of (unit.Controller controller ends) = codes "controller"
kind_of (unit.Mixer mixer ends) = codes "mixer"
kind_of (unit.Splitter splitter ends) = codes "splitter"

-- the numbers of the streams that a unit reads and gives, and its bands at the first tick
abbrev pub reads_of : Unit → List ℕ
reads_of x = (ends_of x).inputs

abbrev pub gives_of : Unit → List ℕ
gives_of x = (ends_of x).outputs

abbrev pub opening_of : Unit → List Interval
opening_of x = (ends_of x).opening

-- mixers and splitters hold nothing back
abbrev pub is_instant : Unit → Bool
is_instant (unit.Mixer mixer ends) = true
is_instant (unit.Splitter splitter ends) = true
is_instant _ = false

-- the equations and the limits of each kind of unit
abbrev pub next_of : Unit → List Term
next_of (unit.Tank tank ends) = tanks.next_terms tank
next_of (unit.Reactor reactor ends) = reactors.next_terms reactor
next_of (unit.Column column ends) = columns.next_terms column
next_of (unit.Controller controller ends) = controllers.next_terms controller
next_of (unit.Mixer mixer ends) = []
next_of (unit.Splitter splitter ends) = []

abbrev pub view_of : Unit → List (List Term)
view_of (unit.Tank tank ends) = tanks.view_terms tank
view_of (unit.Reactor reactor ends) = reactors.view_terms reactor
view_of (unit.Column column ends) = columns.view_terms column
view_of (unit.Controller controller ends) = controllers.view_terms ∷ []
view_of (unit.Mixer mixer ends) = mixers.now_terms mixer
view_of (unit.Splitter splitter ends) = splitters.now_terms splitter

abbrev pub state_limits_of : Unit → List Interval
state_limits_of (unit.Tank tank ends) = tanks.state_limits tank
state_limits_of (unit.Reactor reactor ends) = reactors.state_limits reactor
state_limits_of (unit.Column column ends) = columns.state_limits column
state_limits_of (unit.Controller controller ends) = controllers.state_limits controller
state_limits_of (unit.Mixer mixer ends) = []
state_limits_of (unit.Splitter splitter ends) = []

abbrev pub output_limits_of : Unit → List (List Interval)
output_limits_of (unit.Tank tank ends) = tanks.output_limits tank
output_limits_of (unit.Reactor reactor ends) = reactors.output_limits reactor
output_limits_of (unit.Column column ends) = columns.output_limits column
output_limits_of (unit.Controller controller ends) = controllers.output_limits controller ∷ []
output_limits_of (unit.Mixer mixer ends) = mixers.output_limits mixer
output_limits_of (unit.Splitter splitter ends) = splitters.output_limits splitter

-- its parameters are in range, and its limits are limits
abbrev pub IsUnitSound : Unit → Type 0
IsUnitSound (unit.Tank tank ends) = tanks.IsSound tank
IsUnitSound (unit.Reactor reactor ends) = reactors.IsSound reactor
IsUnitSound (unit.Column column ends) = columns.IsSound column
IsUnitSound (unit.Controller controller ends) = controllers.IsSound controller
IsUnitSound (unit.Mixer mixer ends) = mixers.IsSound mixer
IsUnitSound (unit.Splitter splitter ends) = splitters.IsSound splitter

-- the bands of inputs that it may have
abbrev pub MayTake : Unit → List Interval → Type 0
MayTake (unit.Tank tank ends) bands = AllInside bands tanks.input_limits
MayTake (unit.Reactor reactor ends) bands = AllInside bands reactors.input_limits
MayTake (unit.Column column ends) bands = columns.MayTakeBands column bands
MayTake (unit.Controller controller ends) bands = AllInside bands controllers.input_limits
MayTake (unit.Mixer mixer ends) bands = AllInside bands (mixers.streams mixer.inputs)
MayTake (unit.Splitter splitter ends) bands = AllInside bands splitters.input_limits

-- what a unit is in the definitions of plants and their runs
unfoldable pub sheet_unit : Unit → sheet.PlantUnit
sheet_unit x = record {
  instant = is_instant x;
  reads = reads_of x;
  next = next_of x;
  view = view_of x;
  state_limits = state_limits_of x;
  output_limits = output_limits_of x;
}

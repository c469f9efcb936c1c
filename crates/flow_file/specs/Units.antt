-- The units of a plant text.
use Rattle.std.specs.Prelude.{◌&&◌, ℤ, Bool, if◌then◌else◌}
use Rattle.std.specs.Prelude.{List, [], ◌∷◌, bytes_eq, codes, Option, Some, None, Ok, unwrap_or}
use Rattle.quant.specs.Interval.{wide}
use Rattle.quant.specs.Operation.{ppm, gains, holdups, slopes}
use Rattle.parts.specs.InRange.{most_rate_points, most_stages, fewest_inputs, most_inputs}
use Rattle.parts.specs.InRange.{OwnLimits}
use Rattle.parts.specs.declared.units.KindPart.{KindPart}
use Rattle.parts.specs.declared.units.KindPart.TheVariants as part
use Rattle.parts.specs.declared.units.UnitPart.{UnitPart}
use Rattle.toml.specs.Data.{Data, as_array}
use Rattle.flow_file.specs.declared.fault.TextFault.TheVariants as fault
use Rattle.flow_file.specs.declared.units.UnitKind.{UnitKind}
use Rattle.flow_file.specs.declared.units.UnitKind.TheVariants as kind
use Rattle.flow_file.specs.declared.kinds.Contents.{Contents}
use Rattle.flow_file.specs.declared.kinds.Reaction.{Reaction}
use Rattle.flow_file.specs.declared.kinds.Stages.{Stages}
use Rattle.flow_file.specs.declared.kinds.Opening.{Opening}
use Rattle.flow_file.specs.declared.kinds.Settings.{Settings}
use Rattle.flow_file.specs.Read.{Reading, ◌>>=◌}
use Rattle.flow_file.specs.Value.{Bytes, or_fault, when, Section, table_of, at_key, at_optional, no_others}
use Rattle.flow_file.specs.Value.{both_at, channels_of, quantities_of}
use Rattle.flow_file.specs.Value.{is_in, number_in, count_in, band_of, pair_of, word_of, name_of, reference_of, list_of}

-- a part of a whole, and a gain
abbrev pub ppm_in : Bytes → Data → Reading ℤ
ppm_in = number_in ppm

abbrev pub gain_in : Bytes → Data → Reading ℤ
gain_in = number_in gains

-- a point of a rate table: a temperature, and a rate
abbrev pub is_rate_point : ℤ × ℤ → Bool
is_rate_point point = is_in wide point.0 && is_in ppm point.1

unfoldable pub rate_point_of : Bytes → Data → Reading (ℤ × ℤ)
rate_point_of place node = do
  array ← or_fault (as_array node) (fault.WrongType place)
  point ← or_fault (pair_of array) (fault.WrongType place)
  when (is_rate_point point) point (fault.OutOfRange place)

-- what a tank or a reactor holds at the first tick
unfoldable pub contents_of : Section → Reading Contents
contents_of section = do
  volume ← at_key band_of section (codes "volume")
  stream ← channels_of (at_key band_of) section
  Ok (record { volume = volume; flow = stream.flow; conc = stream.conc; temp = stream.temp })

unfoldable pub tank_of : Section → Reading KindPart
tank_of section = do
  reads ← both_at reference_of section (codes "in") (codes "valve")
  k ← at_key ppm_in section (codes "k")
  held ← contents_of section
  Ok (part.Tank reads.0 reads.1 k held.volume held.flow held.conc held.temp)

-- what a reactor's contents do, and what they are at the first tick
unfoldable pub reaction_of : Section → Reading Reaction
reaction_of section = do
  k ← at_key ppm_in section (codes "k")
  rate ← at_key (list_of rate_point_of 1 most_rate_points) section (codes "rate")
  heat ← at_key gain_in section (codes "heat")
  ua ← at_key ppm_in section (codes "ua")
  held ← contents_of section
  Ok (record { k = k; rate = rate; heat = heat; ua = ua; held = held })

unfoldable pub reactor_of : Section → Reading KindPart
reactor_of section = do
  reads ← both_at reference_of section (codes "in") (codes "valve")
  jacket ← at_key reference_of section (codes "jacket")
  its ← reaction_of section
  Ok (part.Reactor reads.0 reads.1 jacket
      its.k its.rate its.heat its.ua its.held.volume its.held.flow its.held.conc its.held.temp)

-- what a column starts from
unfoldable pub opening_of : Section → Reading Opening
opening_of section = do
  x ← at_key band_of section (codes "x")
  liquid ← both_at band_of section (codes "liquid_flow") (codes "liquid_temp")
  vapour ← both_at band_of section (codes "vapour_flow") (codes "vapour_temp")
  Ok (record { x = x; liquid_flow = liquid.0; liquid_temp = liquid.1; vapour_flow = vapour.0; vapour_temp = vapour.1 })

-- the stages of a column, and what each holds and lets go
unfoldable pub stages_of : Section → Reading Stages
stages_of section = do
  stages ← at_key (count_in 1 most_stages) section (codes "stages")
  holdup ← at_key (number_in holdups) section (codes "holdup")
  slope ← at_key (number_in slopes) section (codes "slope")
  Ok (record { stages = stages; holdup = holdup; slope = slope })

unfoldable pub column_of : Section → Reading KindPart
column_of section = do
  reads ← both_at reference_of section (codes "liquid") (codes "vapour")
  its ← stages_of section
  held ← opening_of section
  Ok (part.Column reads.0 reads.1
      its.stages its.holdup its.slope held.x held.liquid_flow held.liquid_temp held.vapour_flow held.vapour_temp)

-- the numbers and the bands of a controller
unfoldable pub settings_of : Section → Reading Settings
settings_of section = do
  gains ← both_at gain_in section (codes "kp") (codes "ki")
  bias ← at_key (number_in wide) section (codes "bias")
  integral_limits ← at_key band_of section (codes "integral_limits")
  starts ← both_at band_of section (codes "integral") (codes "out")
  Ok (record {
    kp = gains.0;
    ki = gains.1;
    bias = bias;
    integral_limits = integral_limits;
    integral = starts.0;
    out = starts.1;
  })

unfoldable pub controller_of : Section → Reading KindPart
controller_of section = do
  reads ← both_at reference_of section (codes "set") (codes "measured")
  its ← settings_of section
  Ok (part.Controller reads.0 reads.1 its.kp its.ki its.bias its.integral_limits its.integral its.out)

unfoldable pub mixer_of : Section → Reading KindPart
mixer_of section = do
  input ← at_key (list_of reference_of fewest_inputs most_inputs) section (codes "in")
  Ok (part.Mixer input)

unfoldable pub splitter_of : Section → Reading KindPart
splitter_of section = do
  input ← at_key reference_of section (codes "in")
  share ← at_key ppm_in section (codes "share")
  Ok (part.Splitter input share)

-- the kinds of units, by their names
abbrev pub kind_named : Bytes → Option UnitKind
kind_named text =
    if bytes_eq text (codes "tank") then Some kind.Tank
    else if bytes_eq text (codes "reactor") then Some kind.Reactor
    else if bytes_eq text (codes "column") then Some kind.Column
    else if bytes_eq text (codes "controller") then Some kind.Controller
    else if bytes_eq text (codes "mixer") then Some kind.Mixer
    else if bytes_eq text (codes "splitter") then Some kind.Splitter
    else None

abbrev pub unit_kind_of : Bytes → Data → Reading UnitKind
unit_kind_of = word_of kind_named

-- the keys of each kind
unfoldable pub keys_of : UnitKind → List Bytes
keys_of kind.Tank =
    codes "in" ∷ codes "valve" ∷ codes "k" ∷ codes "volume" ∷ codes "flow" ∷ codes "conc" ∷ codes "temp" ∷ []
keys_of kind.Reactor =
    codes "in" ∷ codes "valve" ∷ codes "jacket" ∷ codes "k" ∷ codes "rate" ∷ codes "heat" ∷ codes "ua"
    ∷ codes "volume" ∷ codes "flow" ∷ codes "conc" ∷ codes "temp" ∷ []
keys_of kind.Column =
    codes "liquid" ∷ codes "vapour" ∷ codes "stages" ∷ codes "holdup" ∷ codes "slope" ∷ codes "x"
    ∷ codes "liquid_flow" ∷ codes "liquid_temp" ∷ codes "vapour_flow" ∷ codes "vapour_temp" ∷ []
keys_of kind.Controller =
    codes "set" ∷ codes "measured" ∷ codes "kp" ∷ codes "ki" ∷ codes "bias" ∷ codes "integral_limits" ∷ codes "integral"
    ∷ codes "out" ∷ []
keys_of kind.Mixer = codes "in" ∷ []
keys_of kind.Splitter = codes "in" ∷ codes "share" ∷ []

-- what a unit of each kind says
unfoldable pub part_of : UnitKind → Section → Reading KindPart
part_of kind.Tank section = tank_of section
part_of kind.Reactor section = reactor_of section
part_of kind.Column section = column_of section
part_of kind.Controller section = controller_of section
part_of kind.Mixer section = mixer_of section
part_of kind.Splitter section = splitter_of section

-- the limits that are a unit's own
abbrev pub own_limits_of : Section → Reading OwnLimits
own_limits_of = quantities_of (at_optional band_of)

abbrev pub no_limits : OwnLimits
no_limits = record { flow = None; conc = None; temp = None; volume = None; signal = None }

-- the limits of a unit, its own or none, behind which it has no other keys
unfoldable pub last_limits_of : UnitKind → Section → Reading OwnLimits
last_limits_of kind section = do
  limits ← at_optional (table_of own_limits_of) section (codes "limits")
  others ← no_others (codes "name" ∷ codes "kind" ∷ codes "limits" ∷ keys_of kind) section
  Ok (unwrap_or limits no_limits)

-- a unit: its name, its kind, the keys of its kind, and its limits
unfoldable pub unit_of : Section → Reading UnitPart
unit_of section = do
  name ← at_key name_of section (codes "name")
  kind ← at_key unit_kind_of section (codes "kind")
  part ← part_of kind section
  limits ← last_limits_of kind section
  Ok (record { name = name; kind = part; limits = limits })

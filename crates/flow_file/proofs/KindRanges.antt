-- The ranges of what a unit of each kind says.
use Rattle.std.proofs.Common.{◌≡◌, ℤ, true, arith}
use Rattle.std.proofs.lemmas.Int.{ints}
use Rattle.quant.specs.Interval.{Holds, wide}
use Rattle.quant.specs.Operation.{ppm, gains, holdups, slopes}
use Rattle.parts.specs.InRange.{most_rate_points, most_stages, fewest_inputs, most_inputs}
use Rattle.parts.specs.InRange.{IsRatePoint, AreContents, AreColumnBands, IsKindPart}
use Rattle.toml.specs.Data.{as_array}
use Rattle.flow_file.specs.declared.fault.TextFault.TheVariants as fault
use Rattle.flow_file.specs.declared.units.UnitKind.{UnitKind}
use Rattle.flow_file.specs.declared.units.UnitKind.TheVariants as kind
use Rattle.flow_file.specs.Value.{or_fault, pair_of, Section}
use Rattle.flow_file.specs.Units.{ppm_in, gain_in, is_rate_point, rate_point_of, contents_of}
use Rattle.flow_file.specs.Units.{opening_of}
use Rattle.flow_file.specs.Units.{tank_of, reaction_of, reactor_of, stages_of, column_of, settings_of, controller_of}
use Rattle.flow_file.specs.Units.{mixer_of, splitter_of, part_of}
use Rattle.flow_file.specs.Within.{IsReaction, AreStages, AreSettings}
use Rattle.flow_file.proofs.Yields.{Yields, Reads, given, anything, after, tested, required}
use Rattle.flow_file.proofs.ValueRanges.{number, count, band, reference}
use Rattle.flow_file.proofs.ListRanges.{list}
use Rattle.flow_file.proofs.KeyRanges.{both, channels}

ratio : Reads (Holds ppm) ppm_in
ratio = number ppm

gain : Reads (Holds gains) gain_in
gain = number gains

point_is : (point : ℤ × ℤ) → is_rate_point point ≡ true → IsRatePoint point
point_is point passed = (
  record { above = grind (arith, ints); below = grind (arith, ints) },
  record { above = grind (arith, ints); below = grind (arith, ints) },
)

rate_point : Reads IsRatePoint rate_point_of
unfolding rate_point_of
rate_point place node =
    after (anything (or_fault (as_array node) (fault.WrongType place))) (λ array _.
    after (anything (or_fault (pair_of array) (fault.WrongType place))) (λ point _.
    tested _ _ _ (point_is point)))

-- what a tank or a reactor holds at the first tick
contents : (section : Section) →
    Yields (λ held. AreContents held.volume held.flow held.conc held.temp) (contents_of section)
unfolding contents_of
contents section =
    after (required band section _) (λ volume volume_is.
    after (channels (required band) section) (λ stream stream_is.
    given (volume_is, stream_is.0, stream_is.1, stream_is.2)))

tank : (section : Section) → Yields IsKindPart (tank_of section)
unfolding tank_of
tank section =
    after (both reference section _ _) (λ reads reads_are.
    after (required ratio section _) (λ k k_is.
    after (contents section) (λ held held_are.
    given (reads_are.0, reads_are.1, k_is, held_are))))

reaction : (section : Section) → Yields IsReaction (reaction_of section)
unfolding reaction_of
reaction section =
    after (required ratio section _) (λ k k_is.
    after (required (list rate_point 1 most_rate_points) section _) (λ rate rate_are.
    after (required gain section _) (λ heat heat_is.
    after (required ratio section _) (λ ua ua_is.
    after (contents section) (λ held held_are.
    given (record { k = k_is; rate = rate_are; heat = heat_is; ua = ua_is; held = held_are }))))))

reactor : (section : Section) → Yields IsKindPart (reactor_of section)
unfolding reactor_of
reactor section =
    after (both reference section _ _) (λ reads reads_are.
    after (required reference section _) (λ jacket jacket_is.
    after (reaction section) (λ its are.
    given (reads_are.0, reads_are.1, jacket_is, are.k, are.rate, are.heat, are.ua, are.held))))

-- what a column starts from
opening : (section : Section) →
    Yields (λ held. AreColumnBands held.x held.liquid_flow held.liquid_temp held.vapour_flow held.vapour_temp)
    (opening_of section)
unfolding opening_of
opening section =
    after (required band section _) (λ x x_is.
    after (both band section _ _) (λ liquid liquid_are.
    after (both band section _ _) (λ vapour vapour_are.
    given (x_is, liquid_are.0, liquid_are.1, vapour_are.0, vapour_are.1))))

stages : (section : Section) → Yields AreStages (stages_of section)
unfolding stages_of
stages section =
    after (required (count 1 most_stages) section _) (λ stages stages_are.
    after (required (number holdups) section _) (λ holdup holdup_is.
    after (required (number slopes) section _) (λ slope slope_is.
    given (record { stages = stages_are; holdup = holdup_is; slope = slope_is }))))

column : (section : Section) → Yields IsKindPart (column_of section)
unfolding column_of
column section =
    after (both reference section _ _) (λ reads reads_are.
    after (stages section) (λ its are.
    after (opening section) (λ held held_are.
    given (reads_are.0, reads_are.1, are.stages.0, are.stages.1, are.holdup, are.slope, held_are))))

settings : (section : Section) → Yields AreSettings (settings_of section)
unfolding settings_of
settings section =
    after (both gain section _ _) (λ gains gains_are.
    after (required (number wide) section _) (λ bias bias_is.
    after (required band section _) (λ limits limits_are.
    after (both band section _ _) (λ starts starts_are.
    given (record {
      kp = gains_are.0;
      ki = gains_are.1;
      bias = bias_is;
      integral_limits = limits_are;
      integral = starts_are.0;
      out = starts_are.1;
    })))))

controller : (section : Section) → Yields IsKindPart (controller_of section)
unfolding controller_of
controller section =
    after (both reference section _ _) (λ reads reads_are.
    after (settings section) (λ its are.
    given (reads_are.0, reads_are.1, are.kp, are.ki, are.bias, are.integral_limits, are.integral, are.out)))

mixer : (section : Section) → Yields IsKindPart (mixer_of section)
unfolding mixer_of
mixer section = after (required (list reference fewest_inputs most_inputs) section _)
    (λ input input_are. given input_are)

splitter : (section : Section) → Yields IsKindPart (splitter_of section)
unfolding splitter_of
splitter section =
    after (required reference section _) (λ input input_is.
    after (required ratio section _) (λ share share_is.
    given (input_is, share_is)))

-- a unit of each kind
pub part : (kind : UnitKind) (section : Section) → Yields IsKindPart (part_of kind section)
unfolding part_of
part kind.Tank section = tank section
part kind.Reactor section = reactor section
part kind.Column section = column section
part kind.Controller section = controller section
part kind.Mixer section = mixer section
part kind.Splitter section = splitter section

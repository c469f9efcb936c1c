-- The ranges of what a whole plant text says.
use Rattle.std.proofs.Common.{◌≡◌, ℕ, List, Ok, arith}
use Rattle.std.specs.Prelude.{[]}
use Rattle.quant.specs.Interval.{Holds}
use Rattle.parts.specs.Parts.{FileParts}
use Rattle.parts.specs.InRange.{most_ticks, longest_window, most_units, widths, AreWidths, AreWideLimits, AreOwnLimits}
use Rattle.parts.specs.InRange.{IsBetween, IsUnitPart, AreFeeds, AreInRange}
use Rattle.flow_file.specs.declared.plant.Frame.{Frame}
use Rattle.flow_file.specs.declared.units.UnitKind.{UnitKind}
use Rattle.flow_file.specs.Value.{Section, at_key, no_others, tree_of}
use Rattle.flow_file.specs.Units.{unit_kind_of, own_limits_of, no_limits, last_limits_of, unit_of}
use Rattle.flow_file.specs.Plant.{format_of, run_of, limits_of, width_in, widths_of, no_widths}
use Rattle.flow_file.specs.Plant.{widths_at, feeds_at, frame_of, parts_at, parts_of, parts_in}
use Rattle.flow_file.proofs.Yields.{Yields, Reads, given, anything, after, table, required, optional, or_else}
use Rattle.flow_file.proofs.ValueRanges.{number, count, band, name}
use Rattle.flow_file.proofs.ListRanges.{list}
use Rattle.flow_file.proofs.KeyRanges.{channels, quantities}
use Rattle.flow_file.proofs.FeedRanges.{feeds}
use Rattle.flow_file.proofs.KindRanges.{part}

-- a unit's own limits, and the unit
own_limits : (section : Section) → Yields AreOwnLimits (own_limits_of section)
own_limits = quantities (optional band)

no_limits_are : AreOwnLimits no_limits
no_limits_are = record { flow = tt; conc = tt; temp = tt; volume = tt; signal = tt }

last_limits : (kind : UnitKind) (section : Section) → Yields AreOwnLimits (last_limits_of kind section)
unfolding last_limits_of
last_limits kind section =
    after (optional (table own_limits) section _) (λ limits limits_are.
    after (anything (no_others _ section)) (λ _ _.
    given (or_else AreOwnLimits limits no_limits limits_are no_limits_are)))

unit : (section : Section) → Yields IsUnitPart (unit_of section)
unfolding unit_of
unit section =
    after (required name section _) (λ name name_is.
    after (anything (at_key unit_kind_of section _)) (λ kind _.
    after (part kind section) (λ part part_is.
    after (last_limits kind section) (λ limits limits_are.
    given (record { name = name_is; kind = part_is; limits = limits_are })))))

-- what stands before the feeds and the units
run : (section : Section) →
    Yields (λ run. IsBetween 1 most_ticks run.0 × IsBetween 1 longest_window run.1) (run_of section)
unfolding run_of
run section =
    after (required (count 1 most_ticks) section _) (λ ticks ticks_are.
    after (required (count 1 longest_window) section _) (λ window window_is.
    after (anything (no_others _ section)) (λ _ _.
    given (ticks_are, window_is))))

limits : (top : Section) → Yields AreWideLimits (limits_of top)
unfolding limits_of
limits top =
    after (required (table (quantities (required band))) top _) (λ limit are.
    given (record { flow = are.flow; conc = are.conc; temp = are.temp; volume = are.volume; signal = are.signal }))

width : Reads (Holds widths) width_in
width = number widths

asked_widths : (section : Section) → Yields AreWidths (widths_of section)
unfolding widths_of
asked_widths section =
    after (channels (optional width) section) (λ stream are.
    after (optional width section _) (λ signal signal_is.
    after (anything (no_others _ section)) (λ _ _.
    given (record { flow = are.0; conc = are.1; temp = are.2; signal = signal_is }))))

no_widths_are : AreWidths no_widths
no_widths_are = record { flow = tt; conc = tt; temp = tt; signal = tt }

all_widths : (top : Section) → Yields AreWidths (widths_at top)
unfolding widths_at
all_widths top =
    after (optional (table asked_widths) top _) (λ found found_are.
    given (or_else AreWidths found no_widths found_are no_widths_are))

record IsFrame (frame : Frame) : Type 0 where
  pub ticks : IsBetween 1 most_ticks frame.ticks
  pub window : IsBetween 1 longest_window frame.window
  pub limits : AreWideLimits frame.limits
  pub width : AreWidths frame.width

frame : (top : Section) → Yields IsFrame (frame_of top)
unfolding frame_of
frame top =
    after (anything (at_key format_of top _)) (λ _ _.
    after (required (table run) top _) (λ run run_is.
    after (limits top) (λ limits limits_are.
    after (all_widths top) (λ width width_are.
    given (record { ticks = run_is.0; window = run_is.1; limits = limits_are; width = width_are })))))

-- the feeds, and the whole
all_feeds : (top : Section) → Yields AreFeeds (feeds_at top)
unfolding feeds_at
all_feeds top =
    after (optional feeds top _) (λ found found_are.
    given (or_else AreFeeds found [] found_are (omega arith, tt)))

parts : (top : Section) → Yields AreInRange (parts_at top)
unfolding parts_at
parts top =
    after (frame top) (λ frame frame_is.
    after (all_feeds top) (λ feeds feeds_are.
    after (required (list (table unit) 1 most_units) top _) (λ units units_are.
    after (anything (no_others _ top)) (λ _ _.
    given (record {
      ticks = frame_is.ticks;
      window = frame_is.window;
      limits = frame_is.limits;
      width = frame_is.width;
      feeds = feeds_are;
      units = units_are;
    })))))

pub in_range : (bytes : List ℕ) (parts : FileParts) → parts_in bytes ≡ Ok parts → AreInRange parts
unfolding parts_in parts_of
in_range bytes =
    (after (anything (tree_of bytes)) (λ members _. parts (record { prefix = []; members = members }))).value

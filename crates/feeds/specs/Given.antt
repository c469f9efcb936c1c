-- The bands that are given to a plant's feeds, as its file says and as records say, and the first record that is refused.
use Rattle.std.specs.Prelude.{ℕ, ◌+◌, ◌&&◌, ◌||◌, ◌==◌, nat_le, nat_lt, Bool, List, [], ◌∷◌, length, map, slice_set, Option, Some, None, if◌then◌else◌}
use Rattle.std.specs.List.{list_all}
use Rattle.quant.specs.Interval.{Interval}
use Rattle.std.specs.List.{range_with_len}
use Rattle.relaxation.specs.Tube.{Tube, tube_of}
use Rattle.parts.specs.Parts.{FileParts}
use Rattle.parts.specs.Given.{given_bands}
use Rattle.plant_units.specs.Units.{units_of}
use Rattle.plant.specs.Rows.{states_of_run}
use Rattle.renewal.specs.Plan.{PlanOf}
use Rattle.feeds.specs.declared.record.Record.{Record}
use Rattle.feeds.specs.Records.{records_in}
use Rattle.feeds.specs.declared.reader.FeedFault.{FeedFault}

-- The bands of a feed at a tick, after records: each of them whose tick is not above this one puts its band in the place of what its
-- channel had before.
abbrev pub recorded : List Record → ℕ → ℕ → List Interval → List Interval
recorded [] tick f bands = bands
recorded (first ∷ rest) tick f bands = recorded rest tick f
    (if (first.place.feed == f) && nat_le first.tick tick then slice_set bands first.place.channel first.band else bands)

-- the bands of the feed with this number at a tick: the plant file's, and from its tick on a record's, where there is a text of records
abbrev pub given_by : FileParts → Option (List ℕ) → ℕ → ℕ → List Interval
given_by parts None tick f = given_bands parts tick f
given_by parts (Some text) tick f = recorded (records_in parts text).records tick f (given_bands parts tick f)

-- these records have ticks before this one alone
abbrev pub are_before : ℕ → List Record → Bool
are_before end records = list_all (λ one. nat_lt one.tick end) records

-- The refused record that a window takes which ends before this tick. Records are taken in their order up to the first that begins at
-- this tick or later; and all of them by the window that ends with the run.
abbrev pub refusal_by : FileParts → Option (List ℕ) → ℕ → Option FeedFault
refusal_by parts None end = None
refusal_by parts (Some text) end =
    if nat_le parts.ticks end || are_before end (records_in parts text).records then (records_in parts text).refusal
    else None

-- of each feed, these bands at n ticks from a first one
abbrev pub fed_tubes : FileParts → (ℕ → ℕ → List Interval) → ℕ → ℕ → List Tube
fed_tubes parts given first n =
    map (λ f. tube_of (λ t. given (first + t) f) n) (range_with_len 0 (length parts.feeds))

-- those that the plant file gives
abbrev pub given_tubes : FileParts → ℕ → ℕ → List Tube
given_tubes parts = fed_tubes parts (given_bands parts)

-- those that are given after records too
abbrev pub tubes_by : FileParts → Option (List ℕ) → ℕ → ℕ → List Tube
tubes_by parts records = fed_tubes parts (given_by parts records)

-- the window of n ticks from a first one, which is given these bands, and into which the states of their interval run are carried
abbrev pub run_plan : FileParts → (ℕ → ℕ → List Interval) → ℕ → ℕ → PlanOf
run_plan parts given first n = record {
  parts = parts;
  first = first;
  ticks = n;
  carried = map (states_of_run parts given first) (range_with_len 0 (length (units_of parts)));
  feeds = fed_tubes parts given first n;
}

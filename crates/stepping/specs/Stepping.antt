-- Words of the proofs: a reader of the contracts needs none of them.
-- A plant that is stepped through a window, tick by tick.
use Rattle.std.specs.Prelude.{◌≡◌, ◌⊎◌, ℕ, ◌+◌, ◌<◌, List, [], length, slice_index_or, None}
use Rattle.quant.specs.Interval.{Interval, AllInside}
use Rattle.flowsheet.specs.Reading.{on_bands}
use Rattle.flowsheet.specs.Run.{run_states}
use Rattle.relaxation.specs.Tube.{Tube, at}
use Rattle.parts.specs.Parts.{FileParts}
use Rattle.plant_streams.specs.Limits.{limits_at}
use Rattle.plant_units.specs.Units.{units_of}
use Rattle.plant.specs.PlantOf.{plant_of}
use Rattle.plant.specs.Rows.{RowBands, IsRow, states_in, stream_in}
use Rattle.tables.specs.Output.{rows_of}
use Rattle.renewal.specs.Plan.{PlanOf, IsPlan, carried_into, window_of}
use Rattle.renewal.specs.Carrying.{states_after}
use Rattle.report.specs.Output.{labels_of}
use Rattle.window_accept.specs.declared.end.WindowEnd.{WindowEnd}
use Rattle.window_accept.specs.declared.end.WindowEnd.TheVariants.{Wide, NoMemory}
use Rattle.window_accept.specs.Session.{SessionOf, IsSession, next_ticks, bands_of_plan}
use Rattle.window_accept.specs.Wide.{AreNarrowEnough, IsFirstWide}

-- a stepper: the session that it stands for, and a row of the plant
pub record IsStepper (session : SessionOf) (row : RowBands) : Type 0 where
  pub session_is : IsSession session
  pub row_is : IsRow session.parts row

-- the bands of a row, at whatever tick it stands
abbrev pub bands_of_row : RowBands → ℕ → ℕ → List Interval
bands_of_row row t s = stream_in row s

-- the states of a plan's run
abbrev pub states_of_plan : PlanOf → ℕ → ℕ → List Interval
states_of_plan plan =
    run_states (on_bands (plant_of plan.parts)) (plant_of plan.parts) (carried_into plan) (window_of plan).feeds

-- A plan's window was stepped up to one of its ticks: a row has the run's states there, a text the rows of the ticks before, and no band
-- at these is wider than was asked.
pub record HasStepped (plan : PlanOf) (t : ℕ) (row : RowBands) (text : List ℕ) : Type 0 where
  pub row_is : IsRow plan.parts row
  pub states : (u : ℕ) → u < length (units_of plan.parts) → states_in row u ≡ states_of_plan plan t u
  pub rows : text ≡ rows_of (labels_of plan.parts) (bands_of_plan plan) plan.first t
  pub narrow : AreNarrowEnough plan.parts (bands_of_plan plan) plan.first t

-- the whole window was, and the row stands at the tick after it
pub record IsStepped (plan : PlanOf) (text : List ℕ) (row : RowBands) : Type 0 where
  pub plan_is : IsPlan plan
  pub rows : text ≡ rows_of (labels_of plan.parts) (bands_of_plan plan) plan.first plan.ticks
  pub narrow : AreNarrowEnough plan.parts (bands_of_plan plan) plan.first plan.ticks
  pub states : row.states ≡ states_after plan
  pub row_is : IsRow plan.parts row

-- a band at these ticks is wider than was asked, first at the place that the end has
abbrev pub IsWideEnd : FileParts → (ℕ → ℕ → List Interval) → ℕ → ℕ → WindowEnd → Type 0
IsWideEnd parts bands first n (Wide place) = IsFirstWide parts bands first n place
IsWideEnd parts bands first n end = ⊥

-- memory ran out, or a band at these ticks is wider than was asked
abbrev pub IsEndOf : FileParts → (ℕ → ℕ → List Interval) → ℕ → ℕ → WindowEnd → Type 0
IsEndOf parts bands first n end = (end ≡ NoMemory) ⊎ IsWideEnd parts bands first n end

-- so it is with a plan's run
abbrev pub IsPlanEnd : PlanOf → WindowEnd → Type 0
IsPlanEnd plan end = IsEndOf plan.parts (bands_of_plan plan) plan.first plan.ticks end

-- the session after a window, with these states
abbrev pub stepped_on : SessionOf → RowBands → SessionOf
stepped_on session row = record {
  parts = session.parts;
  tick = session.tick + next_ticks session;
  carried = row.states;
  end = None;
}

abbrev pub tube_at : List Tube → ℕ → Tube
tube_at tubes s = slice_index_or tubes s []

-- the plan of a window into which a row's states are carried
abbrev pub plan_from : FileParts → ℕ → ℕ → RowBands → List Tube → PlanOf
plan_from parts first n row feeds = record {
  parts = parts;
  first = first;
  ticks = n;
  carried = row.states;
  feeds = feeds;
}

-- of each feed, bands inside its limits at a tick
pub record AreFeedsAt (parts : FileParts) (t : ℕ) (feeds : List Tube) : Type 0 where
  pub counted : length feeds ≡ length parts.feeds
  pub there : (f : ℕ) → f < length parts.feeds → t < length (tube_at feeds f)
  pub inside : (f : ℕ) → f < length parts.feeds → AllInside (at (tube_at feeds f) t) (limits_at parts f)

-- the row has the bands of the feeds below n at a tick
pub record HaveFed (parts : FileParts) (t n : ℕ) (feeds : List Tube) (before after : RowBands) : Type 0 where
  pub row : IsRow parts after
  pub states : after.states ≡ before.states
  pub fed : (f : ℕ) → f < length parts.feeds → f < n → stream_in after f ≡ at (tube_at feeds f) t

-- A session: the windows of a plant, one after another, until its last tick or until one has a band that is wider than was asked.
use Rattle.std.specs.Prelude.{◌≡◌, ◌⊎◌, ℕ, ◌+◌, ◌-◌, ◌<◌, ◌≤◌, min, Bool, true, false, List, [], map, length, slice_index_or, Option, Some, None, Result, Ok, Err}
use Rattle.std.specs.List.{range_with_len}
use Rattle.quant.specs.Interval.{Interval}
use Rattle.relaxation.specs.Tube.{Tube, at}
use Rattle.relaxation.specs.Window.{run_tube}
use Rattle.parts.specs.Parts.{FileParts}
use Rattle.plant_streams.specs.Streams.{streams_of}
use Rattle.plant_units.specs.Units.{units_of, opening_of}
use Rattle.plant.specs.Rows.{states_of_run, streams_of_run}
use Rattle.plant.specs.Sound.{IsPlant}
use Rattle.renewal.specs.Plan.{PlanOf, window_of, AreCarried}
use Rattle.renewal.specs.Carrying.{states_after}
use Rattle.feeds.specs.declared.reader.FeedFault.{FeedFault}
use Rattle.feeds.specs.declared.reader.FeedFault.TheVariants as feed
use Rattle.feeds.specs.Given.{given_by}
use Rattle.feeds.specs.ReaderOf.{ReaderOf, Feeding}
use Rattle.feeds.specs.Reader.{Gives}
use Rattle.feeds.specs.Standing.{Stands, IsReaderFor}
use Rattle.relax_core.specs.Settled.{WindowOf, IsWindow, Settles}
use Rattle.window_accept.specs.declared.wide.TooWide.{TooWide}
use Rattle.window_accept.specs.Wide.{AreNarrowEnough, IsFirstWide}
use Rattle.window_accept.specs.declared.end.WindowEnd.{WindowEnd}
use Rattle.window_accept.specs.declared.end.WindowEnd.TheVariants.{Finished, Feed, Wide, NoMemory}

pub record SessionOf : Type 0 where
  pub parts : FileParts
  -- the first tick of its next window
  pub tick : ℕ
  -- the bands of each unit's states there
  pub carried : List (List Interval)
  -- what it answers from now on, where it has ended
  pub end : Option WindowEnd

-- the end that a reader's fault is
abbrev pub end_by : FeedFault → WindowEnd
end_by feed.NoMemory = NoMemory
end_by fault = Feed fault

-- before the first window
abbrev pub opening_session : FileParts → SessionOf
opening_session parts = record { parts = parts; tick = 0; carried = map opening_of (units_of parts); end = None }

-- the ticks of a window from this one on: as many as the file says, and of the last window what is left of the run
abbrev pub ticks_from : FileParts → ℕ → ℕ
ticks_from parts tick = min parts.window (parts.ticks - tick)

abbrev pub next_ticks : SessionOf → ℕ
next_ticks session = ticks_from session.parts session.tick

-- the plan of its next window, with these tubes of the feeds
abbrev pub next_plan : SessionOf → List Tube → PlanOf
next_plan session feeds = record {
  parts = session.parts;
  first = session.tick;
  ticks = next_ticks session;
  carried = session.carried;
  feeds = feeds;
}

-- the session after that window, into whose next one the states of its run are carried
abbrev pub moved_on : SessionOf → List Tube → SessionOf
moved_on session feeds = record {
  parts = session.parts;
  tick = session.tick + next_ticks session;
  carried = states_after (next_plan session feeds);
  end = None;
}

-- it answers this end from now on
abbrev pub ended_by : SessionOf → WindowEnd → SessionOf
ended_by session end =
    record { parts = session.parts; tick = session.tick; carried = session.carried; end = Some end }

-- The plant is one, its next window begins at one of its ticks or at their end, and bands inside the limits are carried into it.
pub record IsSession (session : SessionOf) : Type 0 where
  pub plant : IsPlant session.parts
  pub tick : session.tick ≤ session.parts.ticks
  pub carried : AreCarried session.parts session.carried

-- the bands of the streams of a plan's run at a tick of the plant
abbrev pub bands_of_plan : PlanOf → ℕ → ℕ → List Interval
bands_of_plan plan tick s = at (run_tube (window_of plan) s) (tick - plan.first)

-- the window has the plan's ticks, and the tubes are its run
pub record HasRunOf (plan : PlanOf) (window : WindowOf) : Type 0 where
  pub window_is : IsWindow plan.parts window
  pub first : window.first ≡ plan.first
  pub ticks : window.ticks ≡ plan.ticks
  pub tubes : window.tubes ≡ map (run_tube (window_of plan)) (range_with_len 0 (length (streams_of plan.parts)))

-- it has not ended, and there is a tick left
pub record IsGoingOn (session : SessionOf) : Type 0 where
  pub unended : session.end ≡ None
  pub left : session.tick < session.parts.ticks

-- the reader was asked for the tubes of the session's next window, and answered this
abbrev pub Asks : SessionOf → Feeding → Feeding → Result (List Tube) FeedFault → Type 0
Asks session reader read answer = Gives session.parts session.tick (next_ticks session) reader read answer

-- how a window was made: by relaxing, and then its steps settle it; or by stepping the plant, and then there are none
abbrev pub IsMadeBy : Bool → PlanOf → WindowOf → Type 0
IsMadeBy true plan window = Settles (window_of plan) window.steps
IsMadeBy false plan window = window.steps ≡ []

-- What a session answers that relaxes its windows, or steps them, with its reader and that one's source before and after. The reader is
-- asked once, and only where there is a window to be made.
pub data NextWindow (relaxes : Bool) (old new : SessionOf) (reader read : Feeding) :
    Result WindowOf WindowEnd → Type 0 where
  -- the run of its next window, in which no band is wider than was asked
  given : (feeds : List Tube) (window : WindowOf) → IsGoingOn old → Asks old reader read (Ok feeds) →
      HasRunOf (next_plan old feeds) window → IsMadeBy relaxes (next_plan old feeds) window →
      AreNarrowEnough old.parts (bands_of_plan (next_plan old feeds)) old.tick (next_ticks old) →
      new ≡ moved_on old feeds → NextWindow relaxes old new reader read (Ok window)
  -- all ticks were given
  finished : old.end ≡ None → old.tick ≡ old.parts.ticks → read ≡ reader → new ≡ ended_by old Finished →
      NextWindow relaxes old new reader read (Err Finished)
  -- the feeds have no tubes
  unfed : (fault : FeedFault) → IsGoingOn old → Asks old reader read (Err fault) → (fault ≡ feed.NoMemory → ⊥) →
      new ≡ ended_by old (Feed fault) → NextWindow relaxes old new reader read (Err (Feed fault))
  -- a band is wider than was asked, first at this place
  wide : (feeds : List Tube) (place : TooWide) → IsGoingOn old → Asks old reader read (Ok feeds) →
      IsFirstWide old.parts (bands_of_plan (next_plan old feeds)) old.tick (next_ticks old) place →
      new ≡ ended_by old (Wide place) → NextWindow relaxes old new reader read (Err (Wide place))
  -- memory ran out, before the reader was asked or after
  starved : IsGoingOn old → (read ≡ reader) ⊎ ((answer : Result (List Tube) FeedFault) × Asks old reader read answer) →
      new ≡ ended_by old NoMemory → NextWindow relaxes old new reader read (Err NoMemory)
  -- the end that it answered before
  again : (end : WindowEnd) → old.end ≡ Some end → read ≡ reader → new ≡ old →
      NextWindow relaxes old new reader read (Err end)

-- the states of the plant's interval run at its next tick are carried into its next window, where these records give its feeds
abbrev pub FollowsRun : Option (List ℕ) → SessionOf → Type 0
FollowsRun records session = session.carried
    ≡ map (states_of_run session.parts (given_by session.parts records) session.tick) (range_with_len 0 (length (units_of session.parts)))

-- the reader was opened for the session's plant and, where the session has not ended, asked no further than it is
pub record IsReady (session : SessionOf) (reader : ReaderOf) : Type 0 where
  pub reader_is : IsReaderFor session.parts reader
  pub later : session.end ≡ None → reader.asked ≤ session.tick

-- A session that has not ended follows the run by these records, and its reader stands in them, asked no further than the session is.
pub record IsAlong (records : Option (List ℕ)) (session : SessionOf) (feeds : Feeding) : Type 0 where
  pub session_is : IsSession session
  pub follows : FollowsRun records session
  pub unended : session.end ≡ None
  pub ready : IsReady session feeds.reader
  pub faultless : feeds.reader.fault ≡ None
  pub stands : Stands session.parts records feeds

-- the window has n ticks of the plant from a first one, and the bands of the plant's interval run at them
pub record HasRunAt (parts : FileParts) (records : Option (List ℕ)) (first n : ℕ) (window : WindowOf) : Type 0 where
  pub window_is : IsWindow parts window
  pub first_is : window.first ≡ first
  pub ticks_are : window.ticks ≡ n
  pub run : (t s : ℕ) → t < n → s < length (streams_of parts) →
      at (slice_index_or window.tubes s []) t ≡ streams_of_run parts (given_by parts records) (first + t) s

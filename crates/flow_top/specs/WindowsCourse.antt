-- The course of `run` and of `direct`: the rows of the interval run of a plant, by records where there are any, window by window, up to
-- the first window that takes a record that is refused, or has a band that is wider than was asked; and beside them, where windows are
-- relaxed, a trace of the steps that settled each.
use Rattle.std.specs.Prelude.{◌≡◌, ℕ, ◌+◌, ◌*◌, ◌<◌, ◌≤◌, List, [], slice_index_or, Option, Some, None}
use Rattle.quant.specs.Interval.{Interval}
use Rattle.parts.specs.Parts.{FileParts}
use Rattle.plant.specs.Rows.{streams_of_run}
use Rattle.tables.specs.Output.{header, rows_of, channels}
use Rattle.report.specs.Output.{labels_of}
use Rattle.report.specs.Trace.{names_of}
use Rattle.report.specs.declared.fault.TopFault.{TopFault}
use Rattle.report.specs.declared.fault.TopFault.TheVariants.{Wide}
use Rattle.renewal.specs.Plan.{window_of}
use Rattle.feeds.specs.Given.{run_plan, given_by, refusal_by}
use Rattle.feeds.specs.declared.reader.FeedFault.{FeedFault}
use Rattle.window_accept.specs.declared.wide.TooWide.{TooWide}
use Rattle.window_accept.specs.Session.{ticks_from}
use Rattle.window_accept.specs.Wide.{is_signal, AreNarrowEnough, IsFirstWide}
use Rattle.flow_top.specs.declared.words.Command.{Command}
use Rattle.flow_top.specs.declared.words.Command.TheVariants.{Run, Direct}
use Rattle.flow_top.specs.declared.fault.Stop.{Stop}
use Rattle.flow_top.specs.Faults.{stop_by, fault_of_feeds}
use Rattle.flow_top.specs.Course.{Traced, Course}

-- a window begins where those before it end, each as long as the file says; the last has what is left of the run's ticks
abbrev pub first_tick : FileParts → ℕ → ℕ
first_tick parts w = w * parts.window

abbrev pub ticks_in : FileParts → ℕ → ℕ
ticks_in parts w = ticks_from parts (first_tick parts w)

abbrev pub end_of : FileParts → ℕ → ℕ
end_of parts w = first_tick parts w + ticks_in parts w

-- the interval run of a plant by records, where there are any: the bands of each stream at a tick
abbrev pub bands_by : FileParts → Option (List ℕ) → ℕ → ℕ → List Interval
bands_by parts records = streams_of_run parts (given_by parts records)

-- the rows of a window: those of its ticks of the interval run
abbrev pub window_rows : FileParts → Option (List ℕ) → ℕ → List ℕ
window_rows parts records w = rows_of (labels_of parts) (bands_by parts records) (first_tick parts w) (ticks_in parts w)

-- the trace is of these windows, each with the states of the interval run carried into it
abbrev pub traced_in : FileParts → Option (List ℕ) → Traced
traced_in parts records = record {
  names = names_of parts;
  window = λ w. window_of (run_plan parts (given_by parts records) (first_tick parts w) (ticks_in parts w));
}

-- the rows of every tick
abbrev pub all_rows : FileParts → Option (List ℕ) → List ℕ
all_rows parts records = rows_of (labels_of parts) (bands_by parts records) 0 parts.ticks

-- the least number of windows that have all ticks
pub record IsWindowCount (parts : FileParts) (k : ℕ) : Type 0 where
  pub enough : parts.ticks ≤ k * parts.window
  pub least : (fewer : ℕ) → parts.ticks ≤ fewer * parts.window → k ≤ fewer

-- no record that a window takes is refused, and no band of it in the interval run is wider than was asked
pub record IsAccepted (parts : FileParts) (records : Option (List ℕ)) (w : ℕ) : Type 0 where
  pub taken : refusal_by parts records (end_of parts w) ≡ None
  pub narrow : AreNarrowEnough parts (bands_by parts records) (first_tick parts w) (ticks_in parts w)

-- the fault of a band that is wider than was asked, with the names of its stream and channel
abbrev pub wide_fault : FileParts → TooWide → TopFault
wide_fault parts wide = Wide (slice_index_or (names_of parts) wide.stream [])
    (slice_index_or (channels (is_signal parts wide.stream)) wide.channel []) wide.tick wide.width wide.limit

-- Why no window follows the first k: they have all ticks; or the next one begins at a tick of the run, and takes this record, which is
-- refused; or takes none that is refused, and has a band that is wider than was asked, first at this place.
pub data StopsAfter (command : Command) (parts : FileParts) (records : Option (List ℕ)) (k : ℕ) : Option Stop → Type 0 where
  all : IsWindowCount parts k → StopsAfter command parts records k None
  refused : (record_fault : FeedFault) (fault : TopFault) → first_tick parts k < parts.ticks →
      refusal_by parts records (end_of parts k) ≡ Some record_fault → fault_of_feeds record_fault ≡ Some fault →
      StopsAfter command parts records k (Some (stop_by command fault))
  wide : (place : TooWide) → first_tick parts k < parts.ticks → refusal_by parts records (end_of parts k) ≡ None →
      IsFirstWide parts (bands_by parts records) (first_tick parts k) (ticks_in parts k) place →
      StopsAfter command parts records k (Some (stop_by command (wide_fault parts place)))

-- the course of a command that writes the windows of the interval run, with this trace
pub record WritesWindows (command : Command) (traced : Option Traced) (parts : FileParts) (records : Option (List ℕ))
    (course : Course) : Type 0 where
  pub header : course.header ≡ header
  pub rows : (w : ℕ) → w < course.windows → course.rows w ≡ window_rows parts records w
  pub accepted : (w : ℕ) → w < course.windows → IsAccepted parts records w
  pub stop : StopsAfter command parts records course.windows course.stop
  pub trace : course.trace ≡ traced

abbrev pub IsRunCourse : FileParts → Option (List ℕ) → Course → Type 0
IsRunCourse parts records course = WritesWindows Run (Some (traced_in parts records)) parts records course

-- nothing goes to the trace
abbrev pub IsDirectCourse : FileParts → Option (List ℕ) → Course → Type 0
IsDirectCourse parts records course = WritesWindows Direct None parts records course

-- A course: what a command does on a plant. It writes a header and then the rows of one window after another, up to its stop, and
-- beside them, where it relaxes, a trace of the steps.
use Rattle.std.specs.Prelude.{◌≡◌, ℕ, zero, suc, ◌++◌, List, Option, None}
use Rattle.relaxation.specs.Window.{Window}
use Rattle.flow_top.specs.declared.fault.Stop.{Stop}

-- what a trace is of: the names of the streams, and each window by its number from 0
pub record Traced : Type 0 where
  pub names : List (List ℕ)
  pub window : ℕ → Window

pub record Course : Type 0 where
  pub header : List ℕ
  -- how many windows are written, and the rows of each by its number from 0
  pub windows : ℕ
  pub rows : ℕ → List ℕ
  -- none, where nothing goes to the trace
  pub trace : Option Traced
  -- the fault that ends it after these windows, with its status; or none, where the windows are all
  pub stop : Option Stop

-- all rows are one window, which nothing stops, and there is no trace
pub record WritesOnce (header rows : List ℕ) (course : Course) : Type 0 where
  pub header_is : course.header ≡ header
  pub windows : course.windows ≡ 1
  pub rows_are : course.rows 0 ≡ rows
  pub trace : course.trace ≡ None
  pub stop : course.stop ≡ None

-- the header and the rows of the first k windows
abbrev pub written : Course → ℕ → List ℕ
written course zero = course.header
written course (suc k) = written course k ++ course.rows k

-- the whole text
abbrev pub text_of : Course → List ℕ
text_of course = written course course.windows

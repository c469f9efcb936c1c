-- The windows of a run together are the run.
use Rattle.std.proofs.Common.{◌≡◌, ℕ, zero, suc, ◌+◌, ◌-◌, ◌*◌, ◌<◌, ◌≤◌, min, List, ◌++◌, sym, ap, ◌∙◌, append_assoc}
use Rattle.std.proofs.Common.{arith, append-nil, Option, Some, None}
use Rattle.quant.specs.Interval.{Interval}
use Rattle.parts.specs.Parts.{FileParts}
use Rattle.tables.specs.Output.{Label, header, rows_of, tick_rows}
use Rattle.flow_top.specs.Course.{Traced, Course, written, text_of}
use Rattle.report.specs.Output.{labels_of}
use Rattle.flow_top.specs.declared.words.Command.{Command}
use Rattle.flow_top.specs.declared.words.Command.TheVariants.{Run, Direct, Check, Demo}
use Rattle.flow_top.specs.declared.fault.Stop.{Stop}
use Rattle.flow_top.specs.Courses.{IsCourse, WritesRun}
use Rattle.plant.specs.Sound.{IsPlant}
use Rattle.flow_top.specs.WindowsCourse.{bands_by, all_rows, first_tick, ticks_in, window_rows, traced_in, IsWindowCount, StopsAfter, all, refused, wide, WritesWindows}
use Rattle.flow_top.proofs.Courses.{began}

-- the rows of some ticks and of those after them
rows-joined : (labels : List Label) (bands : ℕ → ℕ → List Interval) (first n m : ℕ) →
    rows_of labels bands first (n + m) ≡ rows_of labels bands first n ++ rows_of labels bands (first + n) m
rows-joined labels bands first zero m =
    ap (rows_of labels bands first) (omega arith) ∙ ap (λ f. rows_of labels bands f m) (omega arith)
rows-joined labels bands first (suc n) m =
    let more : suc n + m ≡ suc (n + m) = omega arith in
    let later : first + 1 + n ≡ first + suc n = omega arith in
    let rest = rows_of labels bands (first + 1) n in
    ap (rows_of labels bands first) more
    ∙ ap (λ text. tick_rows labels bands first ++ text) (rows-joined labels bands (first + 1) n m)
    ∙ sym (append_assoc (tick_rows labels bands first) rest (rows_of labels bands (first + 1 + n) m))
    ∙ ap (λ f. (tick_rows labels bands first ++ rest) ++ rows_of labels bands f m) later

-- how many ticks the first windows have
pub one-more : (k window : ℕ) → suc k * window ≡ k * window + window
one-more k window = grind arith

ticks-so-far : (before window ticks : ℕ) → before < ticks →
    (min before ticks ≡ before) × (before + min window (ticks - before) ≡ min (before + window) ticks)
ticks-so-far before window ticks h = (omega arith, omega arith)

whole : (ticks most : ℕ) → ticks ≤ most → min most ticks ≡ ticks
whole ticks most h = omega arith

-- where nothing stops them, the windows have all ticks
pub counted : (command : Command) (parts : FileParts) (records : Option (List ℕ)) (n : ℕ) (stop : Option Stop) →
    StopsAfter command parts records n stop → stop ≡ None → IsWindowCount parts n
counted command parts records n stop (all count) e = count
counted command parts records n stop (refused found fault left taken is) e = absurd (cc e)
counted command parts records n stop (wide place left taken first) e = absurd (cc e)

-- what the first k windows have written
module _ (command : Command) (trace : Option Traced) (parts : FileParts) (records : Option (List ℕ)) (course : Course)
    (runs : WritesWindows command trace parts records course) where
  pub first-windows : (k : ℕ) → k ≤ course.windows →
      written course k ≡ header ++ rows_of (labels_of parts) (bands_by parts records) 0 (min (k * parts.window) parts.ticks)
  first-windows zero h =
      let none : min (0 * parts.window) parts.ticks ≡ 0 = omega arith in
      runs.header ∙ sym (append-nil header)
      ∙ ap (λ n. header ++ rows_of (labels_of parts) (bands_by parts records) 0 n) (sym none)
  first-windows (suc k) h =
      let labels = labels_of parts in
      let bands = bands_by parts records in
      let first = k * parts.window in
      let begun : first < parts.ticks = began command parts records course.windows course.stop runs.stop k h in
      let counts = ticks-so-far first parts.window parts.ticks begun in
      let so_far = rows_of labels bands 0 (min first parts.ticks) in
      let joined : first + ticks_in parts k ≡ min (suc k * parts.window) parts.ticks =
      counts.1 ∙ ap (λ n. min n parts.ticks) (sym (one-more k parts.window)) in
      ap (λ text. text ++ course.rows k) (first-windows k (omega (arith, h)))
      ∙ ap (λ rows. (header ++ so_far) ++ rows) (runs.rows k (omega (arith, h)))
      ∙ append_assoc header so_far (window_rows parts records k)
      ∙ ap (λ n. header ++ (rows_of labels bands 0 n ++ window_rows parts records k)) counts.0
      ∙ ap (λ f. header ++ (rows_of labels bands 0 first ++ rows_of labels bands f (ticks_in parts k))) (omega arith)
      ∙ ap (λ rows. header ++ rows) (sym (rows-joined labels bands 0 first (ticks_in parts k)))
      ∙ ap (λ n. header ++ rows_of labels bands 0 n) joined

  -- the whole text of a run that nothing stops
  pub runs-text : course.stop ≡ None → text_of course ≡ header ++ all_rows parts records
  runs-text whole_run =
      let count : IsWindowCount parts course.windows = counted command parts records course.windows course.stop runs.stop whole_run in
      let most : min (course.windows * parts.window) parts.ticks ≡ parts.ticks =
      whole parts.ticks (course.windows * parts.window) count.enough in
      first-windows course.windows (omega arith)
      ∙ ap (λ n. header ++ rows_of (labels_of parts) (bands_by parts records) 0 n) most

-- of `run` and of `direct`
pub work-windows : (command : Command) (parts : FileParts) (records : Option (List ℕ)) (course : Course) → WritesRun command →
    IsCourse command parts records course → (k : ℕ) → k ≤ course.windows →
    written course k ≡ header ++ rows_of (labels_of parts) (bands_by parts records) 0 (min (k * parts.window) parts.ticks)
work-windows Run parts records course w is k h = first-windows Run (Some (traced_in parts records)) parts records course is k h
work-windows Direct parts records course w is k h = first-windows Direct None parts records course is k h
work-windows Check parts records course w is k h = absurd w
work-windows (Demo stages) parts records course w is k h = absurd w

pub work-text : (command : Command) (parts : FileParts) (records : Option (List ℕ)) (course : Course) → WritesRun command →
    IsCourse command parts records course → course.stop ≡ None → text_of course ≡ header ++ all_rows parts records
work-text Run parts records course w is e = runs-text Run (Some (traced_in parts records)) parts records course is e
work-text Direct parts records course w is e = runs-text Direct None parts records course is e
work-text Check parts records course w is e = absurd w
work-text (Demo stages) parts records course w is e = absurd w

-- a window that is there has ticks of the plant's, few of them
inside_of : (first window ticks : ℕ) → 1 ≤ window → window ≤ 64 → first < ticks →
    (1 ≤ min window (ticks - first)) × (min window (ticks - first) ≤ 64) × (first + min window (ticks - first) ≤ ticks)
inside_of first window ticks some few begun = (omega arith, omega arith, omega arith)

pub window-inside : (command : Command) (trace : Option Traced) (parts : FileParts) (records : Option (List ℕ)) (course : Course) →
    IsPlant parts → WritesWindows command trace parts records course → (w : ℕ) → w < course.windows →
    (1 ≤ ticks_in parts w) × (ticks_in parts w ≤ 64) × (first_tick parts w + ticks_in parts w ≤ parts.ticks)
window-inside command trace parts records course plant runs w h =
    inside_of (first_tick parts w) parts.window parts.ticks plant.ranges.window.0 plant.ranges.window.1
    (began command parts records course.windows course.stop runs.stop w (omega (arith, h)))

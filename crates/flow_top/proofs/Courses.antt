-- The courses of the commands.
use Rattle.std.proofs.Common.{◌≡◌, ◌≢◌, ◌⊎◌, inl, inr, ℕ, zero, suc, ◌+◌, ◌*◌, ◌<◌, ◌≤◌, ◌++◌, refl, sym, ap, subst, ◌∙◌}
use Rattle.std.proofs.Common.{List, [], ◌∷◌, Option, Some, None, arith}
use Rattle.quant.specs.Interval.{Interval}
use Rattle.parts.specs.Parts.{FileParts}
use Rattle.plant.specs.Sound.{IsPlant}
use Rattle.tables.specs.Output.{header, rank_header}
use Rattle.window_accept.specs.declared.wide.TooWide.{TooWide}
use Rattle.window_accept.specs.Wide.{IsFirstWide, FindsWide}
use Rattle.flow_edge.specs.declared.status.Status.TheVariants as status
use Rattle.flow_top.specs.declared.fault.Stop.{Stop}
use Rattle.feeds.specs.Given.{refusal_by}
use Rattle.feeds.specs.declared.reader.FeedFault.{FeedFault}
use Rattle.report.specs.declared.fault.TopFault.{TopFault}
use Rattle.flow_top.specs.Faults.{fault_of_feeds, own_status, status_of, stop_by}
use Rattle.flow_top.specs.declared.words.Command.{Command}
use Rattle.flow_top.specs.declared.words.Command.TheVariants.{Run, Direct, Check, Demo}
use Rattle.flow_top.specs.Course.{Traced, Course, WritesOnce, written, text_of}
use Rattle.flow_top.specs.Courses.{IsCourse, IsWork}
use Rattle.flow_top.specs.WindowsCourse.{bands_by, window_rows, traced_in, first_tick, ticks_in, end_of, wide_fault, IsAccepted, StopsAfter, all, refused, wide, WritesWindows}
use Rattle.demo.specs.Summary.{summary}
use Rattle.report.specs.Ranks.{rank_rows}
use Rattle.flow_top.proofs.Refusals.{feed-stops, record-refused}

-- a header and rows as one window
abbrev pub once : List ℕ → List ℕ → Course
once header rows = record { header = header; windows = 1; rows = λ w. rows; trace = None; stop = None }

writes-once : (header rows : List ℕ) → WritesOnce header rows (once header rows)
writes-once header rows = record { header_is = refl; windows = refl; rows_are = refl; trace = refl; stop = refl }

abbrev pub check_course : FileParts → Course
check_course parts = once rank_header (rank_rows parts)

pub check-work : (parts : FileParts) (records : Option (List ℕ)) → IsPlant parts → IsWork Check parts records (check_course parts)
check-work parts records plant = record { plant = plant; follows = writes-once rank_header (rank_rows parts) }

abbrev pub demo_course : ℕ → Course
demo_course stages = once [] (summary stages)

pub demo-work : (stages : ℕ) (parts : FileParts) (records : Option (List ℕ)) → IsPlant parts →
    IsWork (Demo stages) parts records (demo_course stages)
demo-work stages parts records plant = record { plant = plant; follows = writes-once [] (summary stages) }

-- a header is not empty
pub run-header : header ≢ []
unfolding header
run-header e = cc e

pub check-header : rank_header ≢ []
unfolding rank_header
check-header e = cc e

pub check-writes : (rows : List ℕ) → rank_header ++ rows ≢ []
unfolding rank_header
check-writes rows e = cc e

pub summary-written : (stages : ℕ) → summary stages ≢ []
unfolding summary
summary-written stages e = cc e

-- what begins with a text that is not empty is not empty
longer : (text rest : List ℕ) → text ≢ [] → text ++ rest ≢ []
longer [] rest some e = absurd (some refl)
longer (byte ∷ text) rest some e = cc e

pub written-full : (course : Course) → course.header ≡ header → (k : ℕ) → written course k ≢ []
written-full course same zero e = run-header (sym same ∙ e)
written-full course same (suc k) e = longer (written course k) (course.rows k) (written-full course same k) e

-- a band that is wider than was asked has its status, whatever the command
pub wide_status : (command : Command) (parts : FileParts) (place : TooWide) → status_of command (wide_fault parts place) ≡ status.Wide
unfolding status_of own_status
wide_status Run parts place = refl
wide_status Direct parts place = refl
wide_status Check parts place = refl
wide_status (Demo stages) parts place = refl

wide_stops : (one other : Command) (parts : FileParts) (place : TooWide) →
    stop_by one (wide_fault parts place) ≡ stop_by other (wide_fault parts place)
wide_stops one other parts place =
    ap (λ s. record { fault = wide_fault parts place; status = s }) (wide_status one parts place ∙ sym (wide_status other parts place))

some-same : (a b : TopFault) → Some a ≡ Some b → a ≡ b
some-same a b e = cc e

-- windows begin one after another
begin-later : (v w window : ℕ) → v ≤ w → v * window ≤ w * window
begin-later v w window h = grind (arith, h)

too-many : (k windows : ℕ) → suc k ≤ windows → windows ≤ k → ⊥
too-many k windows h l = omega arith

not-more : (a b c : ℕ) → a ≤ b → b ≤ c → c < a → ⊥
not-more a b c h l m = omega arith

pub compare_le : (a b : ℕ) → (a ≤ b) ⊎ (b < a)
compare_le a b = search arith

-- a window that is there begins before the last tick
pub began : (command : Command) (parts : FileParts) (records : Option (List ℕ)) (n : ℕ) (stop : Option Stop) →
    StopsAfter command parts records n stop → (k : ℕ) → suc k ≤ n → first_tick parts k < parts.ticks
began command parts records n stop (all count) k h = elim (compare_le parts.ticks (first_tick parts k)) [
  | inl l ↦ absurd (too-many k n h (count.least k l))
  | inr l ↦ l
]
began command parts records n stop (refused found fault left taken is) k h =
    let l : first_tick parts k ≤ first_tick parts n = begin-later k n parts.window (omega arith) in omega (arith, l, left)
began command parts records n stop (wide place left taken first) k h =
    let l : first_tick parts k ≤ first_tick parts n = begin-later k n parts.window (omega arith) in omega (arith, l, left)

-- no window follows where they stop
pub stops-there : (command : Command) (parts : FileParts) (records : Option (List ℕ)) (n : ℕ) (stop : Option Stop) →
    StopsAfter command parts records n stop → first_tick parts n < parts.ticks → IsAccepted parts records n → ⊥
stops-there command parts records n stop (all count) left accepted = not-more parts.ticks (first_tick parts n) (first_tick parts n) count.enough (omega arith) left
stops-there command parts records n stop (refused found fault l taken is) left accepted = absurd (cc (taken, accepted.taken))
stops-there command parts records n stop (wide place l taken first) left accepted = accepted.narrow place first.among first.wide_is

-- the first windows of the run, each of which is accepted, and why no other follows
pub record Stops (command : Command) (parts : FileParts) (records : Option (List ℕ)) (n : ℕ) (stop : Option Stop) : Type 0 where
  pub stop_is : StopsAfter command parts records n stop
  pub accepted : (w : ℕ) → w < n → IsAccepted parts records w

no-less : (one other : Command) (parts : FileParts) (records : Option (List ℕ)) (a b : ℕ) (s t : Option Stop) →
    Stops one parts records a s → Stops other parts records b t → a < b → ⊥
no-less one other parts records a b s t p q h =
    stops-there one parts records a s p.stop_is (began other parts records b t q.stop_is a (omega arith)) (q.accepted a h)

same-number : (a b : ℕ) → (a < b → ⊥) → (b < a → ⊥) → a ≡ b
same-number a b h l = elim (compare_le a b) [
  | inl m ↦ elim (compare_le b a) [ inl n ↦ omega (arith, m, n) | inr n ↦ absurd (h n) ]
  | inr m ↦ absurd (l m)
]

-- first places at which a band is wider than was asked are one
abbrev pub AreOne : Type 0
AreOne = (parts : FileParts) (bands : ℕ → ℕ → List Interval) (first n : ℕ) (one other : TooWide) →
    IsFirstWide parts bands first n one → IsFirstWide parts bands first n other → one ≡ other

pub same-stop : AreOne → (one other : Command) (parts : FileParts) (records : Option (List ℕ)) (n : ℕ) (s t : Option Stop) →
    StopsAfter one parts records n s → StopsAfter other parts records n t → s ≡ t
same-stop unique one other parts records n s t (all count) (all again) = refl
same-stop unique one other parts records n s t (all count) (refused found fault left taken is) =
    absurd (not-more parts.ticks (first_tick parts n) (first_tick parts n) count.enough (omega arith) left)
same-stop unique one other parts records n s t (all count) (wide place left taken first) =
    absurd (not-more parts.ticks (first_tick parts n) (first_tick parts n) count.enough (omega arith) left)
same-stop unique one other parts records n s t (refused found fault left taken is) (all count) =
    absurd (not-more parts.ticks (first_tick parts n) (first_tick parts n) count.enough (omega arith) left)
same-stop unique one other parts records n s t (refused found fault left taken is) (refused found_b fault_b left_b taken_b is_b) =
    let one_record : found ≡ found_b = cc (taken, taken_b) in
    let same : fault ≡ fault_b = some-same fault fault_b (sym is ∙ ap fault_of_feeds one_record ∙ is_b) in
    ap (λ f. Some (stop_by one f)) same ∙ ap Some (feed-stops one other found_b fault_b is_b)
same-stop unique one other parts records n s t (refused found fault left taken is) (wide place left_b taken_b first) =
    absurd (cc (taken, taken_b))
same-stop unique one other parts records n s t (wide place left taken first) (all count) =
    absurd (not-more parts.ticks (first_tick parts n) (first_tick parts n) count.enough (omega arith) left)
same-stop unique one other parts records n s t (wide place left taken first) (refused found fault left_b taken_b is) =
    absurd (cc (taken, taken_b))
same-stop unique one other parts records n s t (wide place left taken first) (wide place_b left_b taken_b first_b) =
    let same = unique parts (bands_by parts records) (first_tick parts n) (ticks_in parts n) place place_b first first_b in
    ap (λ p. Some (stop_by one (wide_fault parts p))) same ∙ ap Some (wide_stops one other parts place_b)

-- courses with the same header and rows have written the same
written-agree : (a b : Course) → a.header ≡ b.header → (n : ℕ) → ((w : ℕ) → w < n → a.rows w ≡ b.rows w) → (k : ℕ) → k ≤ n →
    written a k ≡ written b k
written-agree a b header n rows zero h = header
written-agree a b header n rows (suc k) h =
    ap (λ text. text ++ a.rows k) (written-agree a b header n rows k (omega (arith, h)))
    ∙ ap (λ r. written b k ++ r) (rows k (omega (arith, h)))

-- two courses write the same windows, and stop alike
pub record Agree (a b : Course) : Type 0 where
  pub windows : a.windows ≡ b.windows
  pub text : (k : ℕ) → k ≤ a.windows → written a k ≡ written b k
  pub stop : a.stop ≡ b.stop

below : (w n m : ℕ) → w < n → n ≡ m → w < m
below w n m h e = omega arith

as-stops : (command : Command) (trace : Option Traced) (parts : FileParts) (records : Option (List ℕ)) (course : Course) →
    WritesWindows command trace parts records course → Stops command parts records course.windows course.stop
as-stops command trace parts records course is = record { stop_is = is.stop; accepted = is.accepted }

pub windows-agree : AreOne → (one other : Command) (first second : Option Traced) (parts : FileParts) (records : Option (List ℕ))
    (a b : Course) → WritesWindows one first parts records a → WritesWindows other second parts records b → Agree a b
windows-agree unique one other first second parts records a b r s =
    let p = as-stops one first parts records a r in
    let q = as-stops other second parts records b s in
    let same : a.windows ≡ b.windows =
    same-number a.windows b.windows (no-less one other parts records a.windows b.windows a.stop b.stop p q)
    (no-less other one parts records b.windows a.windows b.stop a.stop q p) in
    record {
      windows = same;
      text = written-agree a b (r.header ∙ sym s.header) a.windows
          (λ w h. r.rows w h ∙ sym (s.rows w (below w a.windows b.windows h same)));
      stop = same-stop unique one other parts records b.windows a.stop b.stop
          (subst (λ n. StopsAfter one parts records n a.stop) same r.stop) s.stop;
    }

only-zero : (w n : ℕ) → w < n → n ≡ 1 → w ≡ 0
only-zero w n h e = omega arith

once-agrees : (header rows : List ℕ) (a b : Course) → WritesOnce header rows a → WritesOnce header rows b → Agree a b
once-agrees header rows a b r s =
    record {
      windows = r.windows ∙ sym s.windows;
      text = written-agree a b (r.header_is ∙ sym s.header_is) a.windows
          (λ w h. ap a.rows (only-zero w a.windows h r.windows) ∙ r.rows_are ∙ sym s.rows_are
          ∙ sym (ap b.rows (only-zero w a.windows h r.windows)));
      stop = r.stop ∙ sym s.stop;
    }

pub work-agrees : AreOne → (command : Command) (parts : FileParts) (records : Option (List ℕ)) (a b : Course) →
    IsCourse command parts records a → IsCourse command parts records b → Agree a b
work-agrees unique Run parts records a b r s =
    windows-agree unique Run Run (Some (traced_in parts records)) (Some (traced_in parts records)) parts records a b r s
work-agrees unique Direct parts records a b r s = windows-agree unique Direct Direct None None parts records a b r s
work-agrees unique Check parts records a b r s = once-agrees rank_header (rank_rows parts) a b r s
work-agrees unique (Demo stages) parts records a b r s = once-agrees [] (summary stages) a b r s

pub traces-agree : (command : Command) (parts : FileParts) (records : Option (List ℕ)) (a b : Course) →
    IsCourse command parts records a → IsCourse command parts records b → a.trace ≡ b.trace
traces-agree Run parts records a b r s = r.trace ∙ sym s.trace
traces-agree Direct parts records a b r s = r.trace ∙ sym s.trace
traces-agree Check parts records a b r s = r.trace ∙ sym s.trace
traces-agree (Demo stages) parts records a b r s = r.trace ∙ sym s.trace

-- a window takes a record that is refused, by this stop
pub record StopsByRecord (command : Command) (parts : FileParts) (records : Option (List ℕ)) (w : ℕ) (stop : Stop) : Type 0 where
  pub found : FeedFault
  pub fault : TopFault
  pub left : first_tick parts w < parts.ticks
  pub taken : refusal_by parts records (end_of parts w) ≡ Some found
  pub fault_is : fault_of_feeds found ≡ Some fault
  pub stop_is : stop ≡ stop_by command fault

-- a window takes none, and has a band that is wider than was asked, by this stop
pub record StopsByWidth (command : Command) (parts : FileParts) (records : Option (List ℕ)) (w : ℕ) (stop : Stop) : Type 0 where
  pub place : TooWide
  pub left : first_tick parts w < parts.ticks
  pub taken : refusal_by parts records (end_of parts w) ≡ None
  pub first : IsFirstWide parts (bands_by parts records) (first_tick parts w) (ticks_in parts w) place
  pub stop_is : stop ≡ stop_by command (wide_fault parts place)

-- a course that stops does so by one of these
abbrev pub StopsBy : Command → FileParts → Option (List ℕ) → ℕ → Stop → Type 0
StopsBy command parts records w stop =
    StopsByRecord command parts records w stop ⊎ StopsByWidth command parts records w stop

pub stops-by : (command : Command) (parts : FileParts) (records : Option (List ℕ)) (w : ℕ) (found : Option Stop) (stop : Stop) →
    StopsAfter command parts records w found → found ≡ Some stop → StopsBy command parts records w stop
stops-by command parts records w found stop (all count) e = absurd (cc e)
stops-by command parts records w found stop (refused record_fault fault left taken is) e = inl (record {
  found = record_fault;
  fault = fault;
  left = left;
  taken = taken;
  fault_is = is;
  stop_is = cc e;
})
stops-by command parts records w found stop (wide place left taken first) e =
    inr (record { place = place; left = left; taken = taken; first = first; stop_is = cc e })

pub course-stops : (command : Command) (parts : FileParts) (records : Option (List ℕ)) (course : Course) (stop : Stop) →
    IsCourse command parts records course → course.stop ≡ Some stop → StopsBy command parts records course.windows stop
course-stops Run parts records course stop r e = stops-by Run parts records course.windows course.stop stop r.stop e
course-stops Direct parts records course stop r e = stops-by Direct parts records course.windows course.stop stop r.stop e
course-stops Check parts records course stop r e = absurd (cc (r.stop, e))
course-stops (Demo stages) parts records course stop r e = absurd (cc (r.stop, e))

-- the windows are looked through one after another, of which there are no more than ticks
abbrev pub AreFound : Type 0
AreFound = (parts : FileParts) (bands : ℕ → ℕ → List Interval) (first n : ℕ) →
    (found : Option TooWide) × FindsWide found parts bands first n

enough-windows : (ticks window : ℕ) → 1 ≤ window → ticks ≤ ticks * window
enough-windows ticks window h = grind (arith, h)

one-more : (P : ℕ → Type 0) (w v : ℕ) → ((u : ℕ) → u < w → P u) → P w → v < suc w → P v
one-more P w v h p l = elim (compare_le w v) [
  | inl m ↦ subst P (omega (arith, m, l)) p
  | inr m ↦ h v m
]

least-count : (parts : FileParts) (w : ℕ) → ((v : ℕ) → v < w → first_tick parts v < parts.ticks) →
    (fewer : ℕ) → parts.ticks ≤ fewer * parts.window → w ≤ fewer
least-count parts w begun fewer h = elim (compare_le w fewer) [
  | inl l ↦ l
  | inr l ↦ let b = begun fewer l in absurd (not-more parts.ticks (fewer * parts.window) (fewer * parts.window) h (omega arith) b)
]

-- what stops a run at a window that is not accepted
judged-window : (command : Command) (parts : FileParts) (records : Option (List ℕ)) (w : ℕ) → first_tick parts w < parts.ticks →
    (record_fault : Option FeedFault) → refusal_by parts records (end_of parts w) ≡ record_fault → (found : Option TooWide) →
    FindsWide found parts (bands_by parts records) (first_tick parts w) (ticks_in parts w) →
    IsAccepted parts records w ⊎ ((stop : Stop) × StopsAfter command parts records w (Some stop))
judged-window command parts records w left (Some record_fault) taken found finds =
    let known = record-refused parts records (end_of parts w) record_fault taken in
    inr (stop_by command known.fault, refused record_fault known.fault left taken known.same)
judged-window command parts records w left None taken None finds = inl (record { taken = taken; narrow = finds })
judged-window command parts records w left None taken (Some place) finds =
    inr (stop_by command (wide_fault parts place), wide place left taken finds)

abbrev pub StopsSomewhere : Command → FileParts → Option (List ℕ) → Type 0
StopsSomewhere command parts records = (n : ℕ) × (stop : Option Stop) × Stops command parts records n stop

look-through : AreFound → (command : Command) (parts : FileParts) (records : Option (List ℕ)) → 1 ≤ parts.window →
    (d w : ℕ) → w + d ≡ parts.ticks → ((v : ℕ) → v < w → IsAccepted parts records v) →
    ((v : ℕ) → v < w → first_tick parts v < parts.ticks) → StopsSomewhere command parts records
look-through find command parts records some zero w e accepted begun =
    let most : parts.ticks ≤ first_tick parts w =
    subst (λ n. parts.ticks ≤ n * parts.window) (omega (arith, e)) (enough-windows parts.ticks parts.window some) in
    (w, None, record { stop_is = all (record { enough = most; least = least-count parts w begun }); accepted = accepted })
look-through find command parts records some (suc d) w e accepted begun = elim (compare_le parts.ticks (first_tick parts w)) [
  | inl l ↦ (w, None, record { stop_is = all (record { enough = l; least = least-count parts w begun }); accepted = accepted })
  | inr l ↦ let found = find parts (bands_by parts records) (first_tick parts w) (ticks_in parts w) in
      elim (judged-window command parts records w l (refusal_by parts records (end_of parts w)) refl found.0 found.1) [
        | inl here ↦ look-through find command parts records some d (suc w) (omega (arith, e))
            (λ v m. one-more (λ v. IsAccepted parts records v) w v accepted here m)
            (λ v m. one-more (λ v. first_tick parts v < parts.ticks) w v begun l m)
        | inr stops ↦ (w, Some stops.0, record { stop_is = stops.1; accepted = accepted })
      ]
]

none-below : (v : ℕ) → v < 0 → ⊥
none-below v l = omega arith

stops-exist : AreFound → (command : Command) (parts : FileParts) (records : Option (List ℕ)) → IsPlant parts →
    StopsSomewhere command parts records
stops-exist find command parts records plant =
    look-through find command parts records plant.ranges.window.0 parts.ticks 0 (omega arith)
    (λ v l. absurd (none-below v l)) (λ v l. absurd (none-below v l))

-- each command has a course on a plant
abbrev pub windows_course : Option Traced → FileParts → Option (List ℕ) → ℕ → Option Stop → Course
windows_course trace parts records n stop =
    record { header = header; windows = n; rows = λ w. window_rows parts records w; trace = trace; stop = stop }

pub windows-exist : AreFound → (command : Command) (trace : Option Traced) (parts : FileParts) (records : Option (List ℕ)) →
    IsPlant parts → (course : Course) × WritesWindows command trace parts records course
windows-exist find command trace parts records plant =
    let found = stops-exist find command parts records plant in (
      windows_course trace parts records found.0 found.1,
      record {
        header = refl;
        rows = λ w h. refl;
        accepted = found.2.accepted;
        stop = found.2.stop_is;
        trace = refl;
      },
    )

pub work-exists : AreFound → (command : Command) (parts : FileParts) (records : Option (List ℕ)) → IsPlant parts →
    (course : Course) × IsWork command parts records course
work-exists find Run parts records plant =
    let c = windows-exist find Run (Some (traced_in parts records)) parts records plant in
    (c.0, record { plant = plant; follows = c.1 })
work-exists find Direct parts records plant =
    let c = windows-exist find Direct None parts records plant in (c.0, record { plant = plant; follows = c.1 })
work-exists find Check parts records plant = (check_course parts, check-work parts records plant)
work-exists find (Demo stages) parts records plant = (demo_course stages, demo-work stages parts records plant)

-- what is printed as one window
pub once-printed : (header rows : List ℕ) (course : Course) → WritesOnce header rows course → text_of course ≡ header ++ rows
once-printed header rows course is =
    ap (written course) is.windows ∙ ap (λ text. text ++ course.rows 0) is.header_is ∙ ap (λ rows. header ++ rows) is.rows_are

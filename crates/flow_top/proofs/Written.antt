-- How writing the windows of a run ends, from what their texts gave.
use Rattle.std.proofs.Common.{◌≡◌, ◌⊎◌, inl, inr, refl, sym, ap, ◌∙◌, subst, ℕ, suc, ◌+◌, ◌<◌, ◌≤◌, min, Bool, true, false}
use Rattle.std.proofs.Common.{List, [], Option, Some, None, IfSome, Result, Ok, Err, IsErrAnd, arith}
use Rattle.parts.specs.Parts.{FileParts}
use Rattle.plant.specs.Sound.{IsPlant}
use Rattle.tables.specs.Output.{header}
use Rattle.report.specs.declared.fault.TopFault.{TopFault}
use Rattle.feeds.specs.ReaderOf.{ReaderOf, Feeding}
use Rattle.feeds.specs.Standing.{Stands}
use Rattle.window_accept.specs.Session.{SessionOf, IsSession, opening_session, FollowsRun, IsAlong}
use Rattle.flow_top.specs.declared.words.Command.{Command}
use Rattle.flow_top.specs.declared.words.Command.TheVariants.{Run, Direct, Check, Demo}
use Rattle.flow_top.specs.declared.fault.Stop.{Stop}
use Rattle.flow_top.specs.declared.fault.End.{End}
use Rattle.flow_top.specs.declared.fault.End.TheVariants.{Stopped, NoMemory}
use Rattle.flow_top.specs.Faults.{stop_by}
use Rattle.flow_top.specs.Course.{Traced, Course}
use Rattle.flow_top.specs.Courses.{IsCourse, IsWork}
use Rattle.flow_top.specs.WindowsCourse.{traced_in, first_tick, IsWindowCount, IsAccepted, StopsAfter, all, refused, wide, WritesWindows}
use Rattle.flow_top.specs.Uses.{SourceUse, Sinks}
use Rattle.flow_top.specs.Ended.{WorkEnded, through, unread, broken, within, course_end, Stood, BrokeOff}
use Rattle.flow_top.specs.Steps.{PairEnded, AreCounted, header_of_steps, WritesBy, AreSteps, AreTexts, IsOpened, IsBefore, HasMoved, IsReadWith, HasTexts, IsUnread, TextsEnded}
use Rattle.flow_top.specs.declared.making.Texts.{Texts}
use Rattle.flow_top.proofs.Courses.{AreFound, AreOne, windows-exist, began, stops-there, same-stop, compare_le, written-full, run-header}
use Rattle.flow_top.proofs.RunRows.{counted}
use Rattle.flow_top.proofs.Pairs.{both_sinks, IsNext, StepsFor, header_for, pair-memory, opened, opened-broke, went-on, went-broke}
use Rattle.flow_top.proofs.Writes.{rose-later}
use Rattle.flow_top.proofs.Work.{this-end}

-- the trace of a command that relaxes its windows, or steps them
abbrev pub trace_for : Bool → FileParts → Option (List ℕ) → Option Traced
trace_for true parts records = Some (traced_in parts records)
trace_for false parts records = None

-- a command's header of steps is that of its trace
header-same : (command : Command) (relaxes : Bool) (parts : FileParts) (records : Option (List ℕ)) → WritesBy command relaxes →
    header_of_steps command ≡ header_for (trace_for relaxes parts records)
header-same Run relaxes parts records w = subst (λ r. header_of_steps Run ≡ header_for (trace_for r parts records)) (sym w) refl
header-same Direct relaxes parts records w = subst (λ r. header_of_steps Direct ≡ header_for (trace_for r parts records)) (sym w) refl
header-same Check relaxes parts records w = absurd w
header-same (Demo stages) relaxes parts records w = absurd w

-- such a command writes windows
as-course : (command : Command) (relaxes : Bool) (parts : FileParts) (records : Option (List ℕ)) (course : Course) →
    WritesBy command relaxes → WritesWindows command (trace_for relaxes parts records) parts records course →
    IsCourse command parts records course
as-course Run relaxes parts records course w is =
    subst (λ r. WritesWindows Run (trace_for r parts records) parts records course) w is
as-course Direct relaxes parts records course w is =
    subst (λ r. WritesWindows Direct (trace_for r parts records) parts records course) w is
as-course Check relaxes parts records course w is = absurd w
as-course (Demo stages) relaxes parts records course w is = absurd w

-- the text of a window's steps
as-steps : (relaxes : Bool) (parts : FileParts) (records : Option (List ℕ)) (k : ℕ) (steps : Option (List ℕ)) →
    AreSteps relaxes parts records k steps → StepsFor (trace_for relaxes parts records) k steps
as-steps true parts records k None s = s
as-steps true parts records k (Some text) s = s
as-steps false parts records k steps s = s

reach : (a b : ℕ) → a ≤ b → (a < b → ⊥) → b ≡ a
reach a b h l = grind (arith, h, l)

not-more : (a b c : ℕ) → a ≤ b → b ≤ c → c < a → ⊥
not-more a b c h l m = omega arith

more-or : (a b : ℕ) → a ≤ b → (b ≡ a → ⊥) → a < b
more-or a b h l = grind (arith, h, l)

-- a course that nothing stops has all ticks
ended-early : (parts : FileParts) (n : ℕ) → IsWindowCount parts n → first_tick parts n < parts.ticks → ⊥
ended-early parts n count left = not-more parts.ticks (first_tick parts n) (first_tick parts n) count.enough (omega arith) left

-- where all ticks are had, nothing stops it
whole-so : (command : Command) (parts : FileParts) (records : Option (List ℕ)) (n : ℕ) (stop : Option Stop) →
    StopsAfter command parts records n stop → (count : ℕ) → IsWindowCount parts count → n ≡ count → stop ≡ None
whole-so command parts records n stop (all c) count least at = refl
whole-so command parts records n stop (refused found fault left taken is) count least at =
    absurd (ended-early parts count least (subst (λ n. first_tick parts n < parts.ticks) at left))
whole-so command parts records n stop (wide place left taken first) count least at =
    absurd (ended-early parts count least (subst (λ n. first_tick parts n < parts.ticks) at left))

-- a window of these begins before the last tick
pub left-over : (parts : FileParts) (count w : ℕ) → IsWindowCount parts count → w < count → first_tick parts w < parts.ticks
left-over parts count w least more = elim (compare_le parts.ticks (first_tick parts w)) [
  | inl l ↦ absurd (not-more count w w (least.least w l) (omega arith) more)
  | inr l ↦ l
]

-- no window that is accepted stops a course
no-stop : (command : Command) (parts : FileParts) (records : Option (List ℕ)) (w : ℕ) (found : Option Stop) (stop : Stop) →
    StopsAfter command parts records w found → found ≡ Some stop → IsAccepted parts records w → ⊥
no-stop command parts records w found stop (all count) e accepted = absurd (cc e)
no-stop command parts records w found stop (refused record_fault fault left taken is) e accepted = cc (taken, accepted.taken)
no-stop command parts records w found stop (wide place left taken first) e accepted =
    accepted.narrow place first.among first.wide_is

-- why the texts of a window were not made
abbrev pub StopsOrStarved : Command → FileParts → Option (List ℕ) → ℕ → ℕ → ℕ → End → Type 0
StopsOrStarved command parts records w before now (Stopped stop) =
    StopsAfter command parts records w (Some stop) ⊎ IsUnread command before now stop
StopsOrStarved command parts records w before now NoMemory = Unit {0}

as-stop : (command : Command) (relaxes : Bool) (parts : FileParts) (records : Option (List ℕ)) (w : ℕ) (end : End) (other : SessionOf)
    (feeds read : Feeding) → TextsEnded command relaxes parts records w other feeds read (Err end) →
    StopsOrStarved command parts records w feeds.faults read.faults end
as-stop command relaxes parts records w (Stopped stop) other feeds read e = e
as-stop command relaxes parts records w NoMemory other feeds read e = tt

module _ (command : Command) (relaxes : Bool) (parts : FileParts) (records : Option (List ℕ)) (plant : IsPlant parts)
    (writes : WritesBy command relaxes) (unique : AreOne) (course : Course)
    (is : WritesWindows command (trace_for relaxes parts records) parts records course) where
  work : IsWork command parts records course
  work = record { plant = plant; follows = as-course command relaxes parts records course writes is }

  -- a window that begins before the last tick and is accepted is one of the course's
  one-of : (w : ℕ) → w ≤ course.windows → first_tick parts w < parts.ticks → IsAccepted parts records w → w < course.windows
  one-of w few left accepted = more-or w course.windows few (λ e.
      stops-there command parts records w course.stop
      (subst (λ n. StopsAfter command parts records n course.stop) e is.stop) left accepted)

  -- one that begins before the last tick is one of a course that nothing stops
  one-of-all : (w : ℕ) → w ≤ course.windows → first_tick parts w < parts.ticks → course.stop ≡ None → w < course.windows
  one-of-all w few left none = more-or w course.windows few (λ e.
      ended-early parts course.windows (counted command parts records course.windows course.stop is.stop none)
      (subst (λ n. first_tick parts n < parts.ticks) (sym e) left))

  breaks : (extra : SourceUse) (sinks : Sinks) (stop : Stop) →
      (fault : TopFault) × BrokeOff course sinks fault × (stop ≡ stop_by command fault) →
      WorkEnded command parts records extra sinks (Err (Stopped stop))
  breaks extra sinks stop broke = broken course broke.0 work (written-full course is.header course.windows) broke.1
      (ap (λ s. Err (Stopped s)) broke.2)

  as_headers : (sinks : Sinks) (result : Result (Unit {0}) End) →
      PairEnded command sinks header (header_for (trace_for relaxes parts records)) result →
      PairEnded command sinks course.header (header_for course.trace) result
  as_headers sinks result e =
      subst (λ t. PairEnded command sinks course.header (header_for t) result) (sym is.trace)
      (subst (λ h. PairEnded command sinks h (header_for (trace_for relaxes parts records)) result) (sym is.header) e)

  -- the headers
  pub headers-stand : (sinks : Sinks) → PairEnded command sinks header (header_for (trace_for relaxes parts records)) (Ok tt) →
      Stood course 0 sinks
  headers-stand sinks e = opened command course sinks (λ none. run-header (sym is.header ∙ none)) (as_headers sinks (Ok tt) e)

  headers_end : (extra : SourceUse) (sinks : Sinks) (end : End) →
      PairEnded command sinks header (header_for (trace_for relaxes parts records)) (Err end) →
      WorkEnded command parts records extra sinks (Err end)
  headers_end extra sinks (Stopped stop) e =
      breaks extra sinks stop (opened-broke command course sinks stop (as_headers sinks (Err (Stopped stop)) e))
  headers_end extra sinks NoMemory e = absurd (pair-memory command sinks _ _ (Err NoMemory) e refl)

  pub headers-broke : (extra : SourceUse) (sinks : Sinks) (result : Result (Unit {0}) End) (end : End) → IsErrAnd result (λ e. e ≡ end) →
      PairEnded command sinks header (header_for (trace_for relaxes parts records)) (Err end) →
      WorkEnded command parts records extra sinks result
  headers-broke extra sinks result end h e =
      subst (WorkEnded command parts records extra sinks) (sym (this-end result end h)) (headers_end extra sinks end e)

  -- the texts of the next window could not be made
  texts_end : (w mid : ℕ) (extra : SourceUse) (sinks : Sinks) (end : End) → extra.before ≤ mid → Stood course w sinks →
      first_tick parts w < parts.ticks → StopsOrStarved command parts records w mid extra.now end →
      WorkEnded command parts records extra sinks (Err end)
  texts_end w mid extra sinks (Stopped stop) more stood left (inl e) =
      let at : course.windows ≡ w = reach w course.windows stood.few (λ more.
      no-stop command parts records w (Some stop) stop e refl (is.accepted w more)) in
      let same : course.stop ≡ Some stop = same-stop unique command command parts records w course.stop (Some stop)
      (subst (λ n. StopsAfter command parts records n course.stop) at is.stop) e in
      through course work (subst (λ n. Stood course n sinks) (sym at) stood) (λ none. absurd (cc (none, same)))
      (ap course_end (sym same))
  texts_end w mid extra sinks (Stopped stop) more stood left (inr failed) =
      unread course w work stood (one-of-all w stood.few left) (rose-later extra.before mid extra.now more failed.rose)
      (ap (λ s. Err (Stopped s)) failed.stop_is)
  texts_end w mid extra sinks NoMemory more stood left e = within course w work stood (one-of-all w stood.few left) refl

  pub texts-ended : (w mid : ℕ) (extra : SourceUse) (sinks : Sinks) (result : Result (Unit {0}) End) (end : End) →
      IsErrAnd result (λ e. e ≡ end) → extra.before ≤ mid → Stood course w sinks → first_tick parts w < parts.ticks →
      StopsOrStarved command parts records w mid extra.now end → WorkEnded command parts records extra sinks result
  texts-ended w mid extra sinks result end h more stood left e =
      subst (WorkEnded command parts records extra sinks) (sym (this-end result end h)) (texts_end w mid extra sinks end more stood left e)

  -- all windows stand
  pub all-stand : (count : ℕ) (extra : SourceUse) (sinks : Sinks) → IsWindowCount parts count → Stood course count sinks →
      IfSome records (λ _. extra.left ≡ Some []) → WorkEnded command parts records extra sinks (Ok tt)
  all-stand count extra sinks least stood read =
      let at : course.windows ≡ count = reach count course.windows stood.few (λ more.
      let left = began command parts records course.windows course.stop is.stop count (omega (arith, more)) in
      ended-early parts count least left) in
      let none : course.stop ≡ None = whole-so command parts records course.windows course.stop is.stop count least at in
      through course work (subst (λ n. Stood course n sinks) (sym at) stood) (λ _. read) (ap course_end (sym none))

  module _ (w : ℕ) (texts : Texts) (are : AreTexts relaxes parts records w texts) (accepted : IsAccepted parts records w)
      (left : first_tick parts w < parts.ticks) (first second : Sinks) (stood : Stood course w first) (counted_first : AreCounted first)
      (out_next : IsNext first.out second.out) (trace_next : IsNext first.trace second.trace) where
    more : w < course.windows
    more = one-of w stood.few left accepted

    of_course : (result : Result (Unit {0}) End) → PairEnded command second texts.rows texts.steps result →
        PairEnded command second (course.rows w) texts.steps result
    of_course result e = subst (λ r. PairEnded command second r texts.steps result) (are.rows_are ∙ sym (is.rows w more)) e

    steps_of : StepsFor course.trace w texts.steps
    steps_of = subst (λ t. StepsFor t w texts.steps) (sym is.trace) (as-steps relaxes parts records w texts.steps are.steps_are)

    -- one window more stands
    pub window-stands : PairEnded command second texts.rows texts.steps (Ok tt) → Stood course (suc w) (both_sinks first second)
    window-stands e =
        went-on command course w more texts.steps steps_of first second stood counted_first out_next trace_next
        (written-full course is.header (suc w)) (of_course (Ok tt) e)

    window_end : (extra : SourceUse) (end : End) → PairEnded command second texts.rows texts.steps (Err end) →
        WorkEnded command parts records extra (both_sinks first second) (Err end)
    window_end extra (Stopped stop) e =
        breaks extra (both_sinks first second) stop
        (went-broke command course w more texts.steps steps_of first second stood counted_first out_next trace_next stop
        (of_course (Err (Stopped stop)) e))
    window_end extra NoMemory e = absurd (pair-memory command second _ _ (Err NoMemory) e refl)

    pub window-broke : (extra : SourceUse) (result : Result (Unit {0}) End) (end : End) → IsErrAnd result (λ e. e ≡ end) →
        PairEnded command second texts.rows texts.steps (Err end) →
        WorkEnded command parts records extra (both_sinks first second) result
    window-broke extra result end h e =
        subst (WorkEnded command parts records extra (both_sinks first second)) (sym (this-end result end h)) (window_end extra end e)

-- the first windows of the run by these records were written
pub record HasWritten (command : Command) (relaxes : Bool) (parts : FileParts) (records : Option (List ℕ)) (w : ℕ) (session : SessionOf)
    (feeds : Feeding) (sinks : Sinks) : Type 0 where
  pub along : IsAlong records session feeds
  pub read_up : IsReadWith parts records session feeds
  pub course : Course
  pub is : WritesWindows command (trace_for relaxes parts records) parts records course
  pub stood : Stood course w sinks

-- whatever the records say, session and reader are before window w; and by the records in which the reader stood, those before it
-- were written
pub record IsWriting (command : Command) (relaxes : Bool) (parts : FileParts) (count w : ℕ) (session : SessionOf) (first now : Feeding)
    (sinks : Sinks) : Type 0 where
  pub same : session.parts ≡ parts
  pub before : IsBefore w session now.reader
  pub counted_sinks : AreCounted sinks
  pub counted_feeds : first.faults ≤ now.faults
  pub least : IsWindowCount parts count
  pub by : (records : Option (List ℕ)) → Stands parts records first → HasWritten command relaxes parts records w session now sinks

at-zero : (parts : FileParts) → 0 ≡ min (first_tick parts 0) parts.ticks
at-zero parts = omega arith

all-ticks : (ticks most : ℕ) → ticks ≤ most → min most ticks ≡ ticks
all-ticks ticks most h = omega arith

-- before the first window
pub opening-before : (session : SessionOf) (reader : ReaderOf) → session ≡ opening_session session.parts →
    IsOpened session.parts reader → IsBefore 0 session reader
opening-before session reader e opened = record {
  tick = ap (λ (s : SessionOf). s.tick) e ∙ at-zero session.parts;
  unended = ap (λ (s : SessionOf). s.end) e;
  ready = record {
    reader_is = opened.reader_is;
    later = λ _. subst (λ n. n ≤ session.tick) (sym opened.asked) (omega arith);
  };
  faultless = opened.faultless;
}

opening-along : (session : SessionOf) (records : Option (List ℕ)) (feeds : Feeding) → IsSession session →
    session ≡ opening_session session.parts → IsOpened session.parts feeds.reader → Stands session.parts records feeds →
    FollowsRun records (opening_session session.parts) → IsAlong records session feeds
opening-along session records feeds is e opened stands follows =
    let before = opening-before session feeds.reader e opened in
    record {
      session_is = is;
      follows = subst (FollowsRun records) (sym e) follows;
      unended = before.unended;
      ready = before.ready;
      faultless = before.faultless;
      stands = stands;
    }

no-ticks : (tick ticks : ℕ) → tick ≡ 0 → 1 ≤ ticks → tick ≡ ticks → ⊥
no-ticks tick ticks e h d = omega arith

module _ (command : Command) (relaxes : Bool) (parts : FileParts) (plant : IsPlant parts) (writes : WritesBy command relaxes)
    (unique : AreOne) (find : AreFound) where
  -- the headers
  pub open-broke : (extra : SourceUse) (sinks : Sinks) (result : Result (Unit {0}) End) (end : End) → IsErrAnd result (λ e. e ≡ end) →
      PairEnded command sinks header (header_of_steps command) (Err end) → (records : Option (List ℕ)) →
      WorkEnded command parts records extra sinks result
  open-broke extra sinks result end h e records =
      let course = windows-exist find command (trace_for relaxes parts records) parts records plant in
      headers-broke command relaxes parts records plant writes unique course.0 course.1 extra sinks result end h
      (subst (λ s. PairEnded command sinks header s (Err end)) (header-same command relaxes parts records writes) e)

  pub open-written : (count : ℕ) (session : SessionOf) (feeds : Feeding) (sinks : Sinks) → session.parts ≡ parts → IsSession session →
      session ≡ opening_session session.parts → IsOpened session.parts feeds.reader →
      ((records : Option (List ℕ)) → FollowsRun records (opening_session session.parts)) → IsWindowCount parts count →
      AreCounted sinks → PairEnded command sinks header (header_of_steps command) (Ok tt) →
      IsWriting command relaxes parts count 0 session feeds feeds sinks
  open-written count session feeds sinks same is opening opened follows least so e = record {
    same = same;
    before = opening-before session feeds.reader opening opened;
    counted_sinks = so;
    counted_feeds = omega arith;
    least = least;
    by = λ records stands.
        let course = windows-exist find command (trace_for relaxes parts records) parts records plant in
        record {
          along = opening-along session records feeds is opening opened
              (subst (λ parts. Stands parts records feeds) (sym same) stands) (follows records);
          read_up = λ last. absurd (no-ticks session.tick parts.ticks (ap (λ (s : SessionOf). s.tick) opening) plant.ranges.ticks.0 last);
          course = course.0;
          is = course.1;
          stood = headers-stand command relaxes parts records plant writes unique course.0 course.1 sinks
              (subst (λ s. PairEnded command sinks header s (Ok tt)) (header-same command relaxes parts records writes) e);
        };
  }

  module _ (count w : ℕ) (more : w < count) (session : SessionOf) (opened_feeds feeds : Feeding) (first : Sinks)
      (so : IsWriting command relaxes parts count w session opened_feeds feeds first) where
    left : first_tick parts w < parts.ticks
    left = left-over parts count w so.least more

    -- the texts of the next one were not made
    pub texts-broke : (extra : SourceUse) (result : Result (Unit {0}) End) (end : End) (other : SessionOf) (read : Feeding) →
        extra.before ≡ opened_feeds.faults → extra.now ≡ read.faults → IsErrAnd result (λ e. e ≡ end) →
        ((records : Option (List ℕ)) → IsAlong records session feeds →
        TextsEnded command relaxes session.parts records w other feeds read (Err end)) →
        (records : Option (List ℕ)) → Stands parts records opened_feeds → WorkEnded command parts records extra first result
    texts-broke extra result end other read before now h e records stands =
        let by = so.by records stands in
        texts-ended command relaxes parts records plant writes unique by.course by.is w feeds.faults extra first result end h
        (subst (λ n. n ≤ feeds.faults) (sym before) so.counted_feeds) by.stood left
        (subst (λ n. StopsOrStarved command parts records w feeds.faults n end) (sym now)
        (as-stop command relaxes parts records w end other feeds read
        (subst (λ parts. TextsEnded command relaxes parts records w other feeds read (Err end)) so.same (e records by.along))))

    module _ (texts : Texts) (other : SessionOf) (read : Feeding) (moved : HasMoved w session other read.reader)
        (made : (records : Option (List ℕ)) → IsAlong records session feeds → HasTexts relaxes session.parts records w other read texts)
        (second : Sinks) (out_next : IsNext first.out second.out) (trace_next : IsNext first.trace second.trace) where
      here : (records : Option (List ℕ)) → Stands parts records opened_feeds → HasTexts relaxes parts records w other read texts
      here records stands =
          subst (λ parts. HasTexts relaxes parts records w other read texts) so.same (made records (so.by records stands).along)

      pub pair-stopped : (extra : SourceUse) (result : Result (Unit {0}) End) (end : End) → IsErrAnd result (λ e. e ≡ end) →
          PairEnded command second texts.rows texts.steps (Err end) → (records : Option (List ℕ)) → Stands parts records opened_feeds →
          WorkEnded command parts records extra (both_sinks first second) result
      pair-stopped extra result end h e records stands =
          let by = so.by records stands in
          let so_made = here records stands in
          window-broke command relaxes parts records plant writes unique by.course by.is w texts so_made.texts_are so_made.accepted left
          first second by.stood so.counted_sinks out_next trace_next extra result end h e

      pub pair-written : feeds.faults ≤ read.faults → AreCounted (both_sinks first second) →
          PairEnded command second texts.rows texts.steps (Ok tt) →
          IsWriting command relaxes parts count (w + 1) other opened_feeds read (both_sinks first second)
      pair-written more_faults counted_both e = record {
        same = moved.same ∙ so.same;
        before = moved.before;
        counted_sinks = counted_both;
        counted_feeds = omega (arith, so.counted_feeds, more_faults);
        least = so.least;
        by = λ records stands.
            let by = so.by records stands in
            let so_made = here records stands in
            record {
              along = so_made.along;
              read_up = so_made.read_up;
              course = by.course;
              is = by.is;
              stood = subst (λ n. Stood by.course n (both_sinks first second)) (omega arith)
                  (window-stands command relaxes parts records plant writes unique by.course by.is w texts so_made.texts_are
                  so_made.accepted left first second by.stood so.counted_sinks out_next trace_next e);
            };
      }

  last-tick : (count w : ℕ) (session : SessionOf) → w ≡ count → session.parts ≡ parts → IsWindowCount parts count →
      session.tick ≡ min (first_tick session.parts w) session.parts.ticks → session.tick ≡ parts.ticks
  last-tick count w session e same least at =
      subst (λ (parts : FileParts). session.tick ≡ min (first_tick parts w) parts.ticks) same at
      ∙ ap (λ n. min (first_tick parts n) parts.ticks) e ∙ all-ticks parts.ticks (first_tick parts count) least.enough

  pub all-written : (count w : ℕ) (session : SessionOf) (opened_feeds feeds : Feeding) (extra : SourceUse) (sinks : Sinks) → w ≡ count →
      extra.left ≡ feeds.left → IsWriting command relaxes parts count w session opened_feeds feeds sinks →
      (records : Option (List ℕ)) → Stands parts records opened_feeds → WorkEnded command parts records extra sinks (Ok tt)
  all-written count w session opened_feeds feeds extra sinks e same_left so records stands =
      let by = so.by records stands in
      all-stand command relaxes parts records plant writes unique by.course by.is count extra sinks so.least
      (subst (λ n. Stood by.course n sinks) e by.stood)
      (subst (λ left. IfSome records (λ _. left ≡ Some [])) (sym same_left)
      (by.read_up (last-tick count w session e so.same so.least so.before.tick)))

pub opened-so : (parts : FileParts) (session : SessionOf) → session ≡ opening_session parts → session ≡ opening_session session.parts
opened-so parts session e = e ∙ sym (ap (λ (s : SessionOf). opening_session s.parts) e)

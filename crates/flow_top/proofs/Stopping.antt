-- The band that stops a run is the first of the whole run that is wider than was asked.
use Rattle.std.proofs.Common.{◌≡◌, inl, inr, ℕ, zero, suc, ◌+◌, ◌-◌, ◌*◌, ◌<◌, ◌≤◌, min, List, Option, Some, None, subst, arith}
use Rattle.parts.specs.Parts.{FileParts}
use Rattle.feeds.specs.Given.{refusal_by}
use Rattle.window_accept.specs.declared.wide.TooWide.{TooWide}
use Rattle.window_accept.specs.Wide.{IsTooWide, IsSooner, AreNarrowEnough, IsFirstWide}
use Rattle.flow_top.specs.declared.words.Command.{Command}
use Rattle.flow_top.specs.declared.words.Command.TheVariants.{Run, Direct, Check, Demo}
use Rattle.flow_top.specs.declared.fault.Stop.{Stop}
use Rattle.flow_top.specs.Course.{Course}
use Rattle.flow_top.specs.Courses.{IsCourse, WritesRun}
use Rattle.flow_top.specs.WindowsCourse.{bands_by, first_tick, ticks_in, end_of, IsWindowCount, IsAccepted}
use Rattle.flow_top.proofs.Courses.{compare_le}
use Rattle.flow_top.proofs.RunRows.{one-more, counted}

-- a tick lies in one of the first n windows
record LiesIn (parts : FileParts) (n tick : ℕ) : Type 0 where
  pub window : ℕ
  pub there : window < n
  pub begun : first_tick parts window ≤ tick
  pub unended : tick < first_tick parts window + ticks_in parts window

in-last : (tick first window ticks : ℕ) → first ≤ tick → tick < first + window → tick < ticks →
    tick < first + min window (ticks - first)
in-last tick first window ticks h l m = omega arith

before-none : (tick window : ℕ) → tick < 0 * window → ⊥
before-none tick window h = omega arith

one-of-more : (window n : ℕ) → window < n → window < suc n
one-of-more window n h = omega arith

window-at : (parts : FileParts) (n tick : ℕ) → tick < first_tick parts n → tick < parts.ticks → LiesIn parts n tick
window-at parts zero tick h l = absurd (before-none tick parts.window h)
window-at parts (suc n) tick h l = elim (compare_le (first_tick parts n) tick) [
  | inl m ↦ record {
    window = n;
    there = omega arith;
    begun = m;
    unended = in-last tick (first_tick parts n) parts.window parts.ticks m
        (subst (λ end. tick < end) (one-more n parts.window) h) l;
  }
  | inr m ↦ let lies = window-at parts n tick m l in record {
    window = lies.window;
    there = one-of-more lies.window n lies.there;
    begun = lies.begun;
    unended = lies.unended;
  }
]

-- no band at the ticks of windows that are narrow enough is wider than was asked
narrow-before : (parts : FileParts) (records : Option (List ℕ)) (n : ℕ) → ((w : ℕ) → w < n → IsAccepted parts records w) → (place : TooWide) →
    place.tick < first_tick parts n → place.tick < parts.ticks → IsTooWide parts (bands_by parts records) place → ⊥
narrow-before parts records n accepted place before inside wide =
    let lies = window-at parts n place.tick before inside in
    (accepted lies.window lies.there).narrow place (lies.begun, lies.unended) wide

below-all : (tick ticks most : ℕ) → tick < 0 + ticks → ticks ≤ most → (tick < most) × (tick < ticks)
below-all tick ticks most h l = (omega arith, omega arith)

-- so no band of the run is, where these windows have all its ticks
all-narrow : (parts : FileParts) (records : Option (List ℕ)) (n : ℕ) → ((w : ℕ) → w < n → IsAccepted parts records w) → IsWindowCount parts n →
    AreNarrowEnough parts (bands_by parts records) 0 parts.ticks
all-narrow parts records n accepted count place among wide =
    let below = below-all place.tick parts.ticks (first_tick parts n) among.1 count.enough in
    narrow-before parts records n accepted place below.0 below.1 wide

-- a sooner place is at no later tick
no-later : (a b : TooWide) → IsSooner a b → a.tick ≤ b.tick
no-later a b (inl h) = omega arith
no-later a b (inr h) = omega (arith, h.0)

window-in-run : (tick first window ticks : ℕ) → first ≤ tick → tick < first + min window (ticks - first) → tick < 0 + ticks
window-in-run tick first window ticks h l = omega arith

up-to : (a b c : ℕ) → a ≤ b → b < c → a < c
up-to a b c h l = omega arith

-- what is first in a window after those that are narrow enough, is first in the run
first-of-run : (parts : FileParts) (records : Option (List ℕ)) (n : ℕ) → ((w : ℕ) → w < n → IsAccepted parts records w) → (place : TooWide) →
    IsFirstWide parts (bands_by parts records) (first_tick parts n) (ticks_in parts n) place →
    IsFirstWide parts (bands_by parts records) 0 parts.ticks place
first-of-run parts records n accepted place first =
    let first_at = first_tick parts n in
    record {
      among = (
        omega arith,
        window-in-run place.tick first_at parts.window parts.ticks first.among.0 first.among.1,
      );
      wide_is = first.wide_is;
      sooner = λ other among wide before. elim (compare_le first_at other.tick) [
        | inl l ↦ first.sooner other
            (l, up-to other.tick place.tick (first_at + ticks_in parts n) (no-later other place before) first.among.1)
            wide before
        | inr l ↦ narrow-before parts records n accepted other l (omega (arith, among.1)) wide
      ];
    }

-- of the commands
pub run-narrow : (command : Command) (parts : FileParts) (records : Option (List ℕ)) (course : Course) → WritesRun command →
    IsCourse command parts records course → course.stop ≡ None → AreNarrowEnough parts (bands_by parts records) 0 parts.ticks
run-narrow Run parts records course writes is whole =
    all-narrow parts records course.windows is.accepted (counted Run parts records course.windows course.stop is.stop whole)
run-narrow Direct parts records course writes is whole =
    all-narrow parts records course.windows is.accepted (counted Direct parts records course.windows course.stop is.stop whole)
run-narrow Check parts records course writes is whole = absurd writes
run-narrow (Demo stages) parts records course writes is whole = absurd writes

pub run-first : (command : Command) (parts : FileParts) (records : Option (List ℕ)) (course : Course) (stop : Stop) →
    IsCourse command parts records course → course.stop ≡ Some stop → (place : TooWide) →
    IsFirstWide parts (bands_by parts records) (first_tick parts course.windows) (ticks_in parts course.windows) place →
    IsFirstWide parts (bands_by parts records) 0 parts.ticks place
run-first Run parts records course stop is e place first = first-of-run parts records course.windows is.accepted place first
run-first Direct parts records course stop is e place first = first-of-run parts records course.windows is.accepted place first
run-first Check parts records course stop is e place first = absurd (cc (is.stop, e))
run-first (Demo stages) parts records course stop is e place first = absurd (cc (is.stop, e))

pub run-taken : (command : Command) (parts : FileParts) (records : Option (List ℕ)) (course : Course) → WritesRun command →
    IsCourse command parts records course → (w : ℕ) → w < course.windows → refusal_by parts records (end_of parts w) ≡ None
run-taken Run parts records course writes is w h = (is.accepted w h).taken
run-taken Direct parts records course writes is w h = (is.accepted w h).taken
run-taken Check parts records course writes is w h = absurd writes
run-taken (Demo stages) parts records course writes is w h = absurd writes

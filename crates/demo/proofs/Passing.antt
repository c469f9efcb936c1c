-- The windows of a plant that asks for no widths, one after another, and their sums.
use Rattle.std.proofs.Common.{◌≡◌, ◌∙◌, ◌⊎◌, inl, inr, ℕ, zero, suc, ◌+◌, ◌*◌, ◌<◌, ◌≤◌, min, ℤ, pos, ◌+ℤ◌, Bool, true, false, ◌-◌, [], length, refl, sym, ap, subst, arith, Some, None, Err}
use Rattle.std.specs.Prelude.{slice_index_or}
use Rattle.std.proofs.lemmas.Int.{ints}
use Rattle.quant.specs.Interval.{Interval}
use Rattle.relaxation.specs.Tube.{at}
use Rattle.parts.specs.Parts.{FileParts}
use Rattle.parts.specs.declared.parts.Widths.{Widths}
use Rattle.plant_streams.specs.Streams.{streams_of}
use Rattle.plant.specs.Rows.{streams_of_run}
use Rattle.feeds.specs.Given.{given_by}
use Rattle.feeds.specs.ReaderOf.{ReaderOf, Feeding, plain_reader}
use Rattle.feeds.specs.Standing.{IsReaderFor}
use Rattle.feeds.specs.declared.reader.FeedFault.{FeedFault}
use Rattle.relax_core.specs.Settled.{WindowOf}
use Rattle.window_accept.specs.declared.wide.TooWide.{TooWide}
use Rattle.window_accept.specs.declared.end.WindowEnd.TheVariants.{Finished, Feed, Wide}
use Rattle.window_accept.specs.Wide.{asked_of, is_signal}
use Rattle.window_accept.specs.Searching.{AsksForNone}
use Rattle.window_accept.specs.Session.{SessionOf, IsSession, FollowsRun, opening_session, IsAlong, HasRunAt, NextWindow, finished, unfed, wide, again, next_ticks}
use Rattle.window_accept.proofs.Following.{ticks-inside}
use Rattle.demo.specs.declared.sums.Sums.{Sums}
use Rattle.demo.specs.Summary.{sum_below, sum_of_bands, sum_of_rows, width_of, ends_of}
use Rattle.demo.specs.Adding.{AreSums, AreFarInside, IsSmallWindow, sum_at}
use Rattle.demo.specs.Following.{sum_in_run, sum_of_ticks, IsWindowCount, IsSmallPlant, IsFollowing, HasMoved}
use Rattle.demo.proofs.Totals.{sum-same, sum-joined}
use Rattle.demo.proofs.Bounds.{far-inside, ticks-within}
use Rattle.demo.proofs.Small.{run-small, window-small}

-- where no widths are asked for, none is asked for of any channel
none-asked : (widths : Widths) (signal : Bool) (c : ℕ) → AsksForNone widths → slice_index_or (asked_of widths signal) c None ≡ None
none-asked widths true zero none = none.signal
none-asked widths true (suc c) none = refl
none-asked widths false zero none = none.flow
none-asked widths false (suc zero) none = none.conc
none-asked widths false (suc (suc zero)) none = none.temp
none-asked widths false (suc (suc (suc c))) none = refl

-- a session that goes on without records is not ended but by want of memory
module _ (old new : SessionOf) (reader read : Feeding) (along : IsAlong None old reader) where
  pub not-finished : old.tick < old.parts.ticks → NextWindow true old new reader read (Err Finished) → ⊥
  not-finished left (finished none last same is) = omega (arith, left, last)
  not-finished left (again end was same is) = let clash : None ≡ Some end = sym along.unended ∙ was in cc

  pub not-fed : (fault : FeedFault) → reader.faults ≡ 0 → NextWindow true old new reader read (Err (Feed fault)) → ⊥
  not-fed fault no_faults (unfed _ going asks other is) = elim (asks.by along.faultless None along.stands) [
    | inl refused ↦ (let clash : None ≡ Some fault = refused in cc)
    | inr (inl e) ↦
        (let still : read.faults ≡ reader.faults = (asks.plain along.stands).2 in
        omega (arith, asks.failed along.faultless (ap Err e), still, no_faults))
    | inr (inr e) ↦ other e
  ]
  not-fed fault no_faults (again end was same is) = let clash : None ≡ Some end = sym along.unended ∙ was in cc

  pub not-wide : (place : TooWide) → AsksForNone old.parts.width → NextWindow true old new reader read (Err (Wide place)) → ⊥
  not-wide place none (wide feeds _ going asks first is) =
      let clash : None ≡ Some place.limit =
      sym (none-asked old.parts.width (is_signal old.parts place.stream) place.channel none) ∙ first.wide_is.asked in
      cc
  not-wide place none (again end was same is) = let clash : None ≡ Some end = sym along.unended ∙ was in cc

-- the sums over a window are those over its ticks of the run
window-sum : (parts : FileParts) (first n : ℕ) (window : WindowOf) (f : Interval → ℤ) → HasRunAt parts None first n window →
    sum_below window.ticks (λ t. sum_at window t f) ≡ sum_below n (λ t. sum_in_run parts (first + t) f)
window-sum parts first n window f is =
    ap (λ m. sum_below m (λ t. sum_at window t f)) is.ticks_are
    ∙ sum-same (λ t. sum_at window t f) (λ t. sum_in_run parts (first + t) f) n
    (λ t m. ap (λ k. sum_below k (λ s. sum_of_bands f (at (slice_index_or window.tubes s []) t))) is.window_is.streams
    ∙ sum-same (λ s. sum_of_bands f (at (slice_index_or window.tubes s []) t))
    (λ s. sum_of_bands f (streams_of_run parts (given_by parts None) (first + t) s)) (length (streams_of parts))
    (λ s l. ap (sum_of_bands f) (is.run t s m l)))

sums-joined : (parts : FileParts) (first n : ℕ) (window : WindowOf) (f : Interval → ℤ) (before added after : ℤ) →
    HasRunAt parts None first n window → before ≡ sum_of_ticks parts first f →
    added ≡ sum_below window.ticks (λ t. sum_at window t f) → after ≡ before +ℤ added → after ≡ sum_of_ticks parts (first + n) f
sums-joined parts first n window f before added after is so_far more joined =
    omega (
      arith,
      ints,
      so_far,
      more,
      joined,
      window-sum parts first n window f is,
      sum-joined (λ tick. sum_in_run parts tick f) first n,
    )

-- Before the window with this number, the session follows the plant's run, and the sums are those over the ticks before.
pub record IsSumming (parts : FileParts) (w : ℕ) (session : SessionOf) (reader : ReaderOf) (sums : Sums) : Type 0 where
  pub same : session.parts ≡ parts
  pub tick : session.tick ≡ min (w * parts.window) parts.ticks
  pub following : IsFollowing session reader
  pub sums_are : AreSums sums (sum_of_ticks parts session.tick)

-- before the first window there are none
pub summing-none : (session : SessionOf) (reader : ReaderOf) → session ≡ opening_session session.parts → IsSession session →
    reader ≡ plain_reader → IsReaderFor session.parts reader → FollowsRun None (opening_session session.parts) →
    IsSumming session.parts 0 session reader (record { width = pos 0; ends = pos 0 })
summing-none session reader opening session_is plain reader_is follows =
    let first : session.tick ≡ 0 = ap (λ (s : SessionOf). s.tick) opening in
    let none : Sums = record { width = pos 0; ends = pos 0 } in
    record {
      same = refl;
      tick = omega (arith, first);
      following = record {
        session_is = session_is;
        follows = subst (FollowsRun None) (sym opening) follows;
        unended = ap (λ (s : SessionOf). s.end) opening;
        ready = record { reader_is = reader_is; later = λ e. omega (arith, ap (λ (r : ReaderOf). r.asked) plain) };
        faultless = ap (λ (r : ReaderOf). r.fault) plain;
        stands = ap (λ (r : ReaderOf). r.records) plain;
      };
      sums_are = subst (λ tick. AreSums none (sum_of_ticks session.parts tick)) (sym first) (record { width = refl; ends = refl });
    }

further : (w window ticks tick : ℕ) → tick ≡ min (w * window) ticks → tick < ticks →
    tick + min window (ticks - tick) ≡ min ((w + 1) * window) ticks
further w window ticks tick e l =
    let more : (w + 1) * window ≡ w * window + window = grind arith in
    omega (arith, e, l, more)

below-or : (a b : ℕ) → (a < b) ⊎ (b ≤ a)
below-or a b = search arith

module _ (parts : FileParts) (w : ℕ) (session : SessionOf) (reader : ReaderOf) (sums : Sums) (is : IsSumming parts w session reader sums) where
  -- a window below their number has ticks that are left
  pub left-over : (count : ℕ) → IsWindowCount parts count → w < count → session.tick < session.parts.ticks
  left-over count all l = elim (below-or (w * parts.window) parts.ticks) [
    | inl before ↦ omega (arith, is.tick, before, ap (λ (p : FileParts). p.ticks) is.same)
    | inr past ↦ absurd (omega (arith, all.least w past))
  ]

  -- after the last window, they are the sums over all ticks
  pub all-summed : (count : ℕ) → IsWindowCount parts count → count ≤ w → AreSums sums (λ f. sum_of_rows f parts)
  all-summed count all l =
      let over : count * parts.window ≤ w * parts.window = grind arith in
      let last : session.tick ≡ parts.ticks = omega (arith, is.tick, all.enough, over) in
      subst (λ tick. AreSums sums (sum_of_ticks parts tick)) last is.sums_are

  -- the next window is small
  pub next-small : (window : WindowOf) → IsSmallPlant parts →
      HasRunAt session.parts None session.tick (next_ticks session) window → IsSmallWindow window
  next-small window small run = window-small session.parts session.tick (next_ticks session) window
      (subst IsSmallPlant (sym is.same) small) run (ticks-inside session is.following.session_is)

  pub sums-inside : IsSmallPlant parts → AreFarInside sums
  sums-inside small = far-inside sums (sum_of_ticks parts session.tick) 115776000000000000 (omega arith) is.sums_are
      (λ f measure. ticks-within f measure (streams_of_run parts (given_by parts None)) session.tick (length (streams_of parts))
      (λ t s m l. run-small parts small.plant t s (omega (arith, m, is.tick)) l) (omega (arith, is.tick, small.ticks)) small.streams)

  -- one window more
  pub summed-more : (new : SessionOf) (read : ReaderOf) (window : WindowOf) (added after : Sums) →
      session.tick < session.parts.ticks → HasMoved session new read →
      HasRunAt session.parts None session.tick (next_ticks session) window →
      AreSums added (λ f. sum_below window.ticks (λ t. sum_at window t f)) →
      after.width ≡ sums.width +ℤ added.width → after.ends ≡ sums.ends +ℤ added.ends →
      IsSumming parts (w + 1) new read after
  summed-more new read window added after left moved run are width ends =
      let here : HasRunAt parts None session.tick (next_ticks session) window =
      subst (λ (p : FileParts). HasRunAt p None session.tick (next_ticks session) window) is.same run in
      let ticks : next_ticks session ≡ min parts.window (parts.ticks - session.tick) =
      ap (λ (p : FileParts). min p.window (p.ticks - session.tick)) is.same in
      let more : AreSums after (sum_of_ticks parts (session.tick + next_ticks session)) = record {
        width = sums-joined parts session.tick (next_ticks session) window width_of sums.width added.width after.width here
            is.sums_are.width are.width width;
        ends = sums-joined parts session.tick (next_ticks session) window ends_of sums.ends added.ends after.ends here
            is.sums_are.ends are.ends ends;
      } in
      record {
        same = moved.same ∙ is.same;
        tick = moved.tick ∙ (ap (λ n. session.tick + n) ticks
            ∙ further w parts.window parts.ticks session.tick is.tick (omega (arith, left, ap (λ (p : FileParts). p.ticks) is.same)));
        following = moved.following;
        sums_are = subst (λ tick. AreSums after (sum_of_ticks parts tick)) (sym moved.tick) more;
      }

-- The tubes of a window get what records say, tick by tick.
use Rattle.std.proofs.Common.{◌≡◌, ◌≢◌, ◌∙◌, ℕ, ◌+◌, ◌<◌, ◌≤◌, true, false, cond, leb, List, [], ◌∷◌, ◌++◌, length, Option, refl, sym, ap, subst, arith, inl, inr, length-set, get_or-set_same, get_or-set_other, le-leb}
use Rattle.std.specs.List.{AllByRecursion}
use Rattle.std.proofs.lemmas.Bool.{cases_eq, lt-leb}
use Rattle.std.proofs.lemmas.List.FromFn.{fill_by_all}
use Rattle.quant.specs.Interval.{Interval}
use Rattle.quant.proofs.Calls.{inside-length}
use Rattle.relaxation.specs.Tube.{Tube, at, tube_of}
use Rattle.flow_edge.specs.ReadText.{ReadText}
use Rattle.parts.specs.Parts.{FileParts}
use Rattle.parts.specs.Given.{given_bands}
use Rattle.plant_streams.specs.Limits.{limits_at}
use Rattle.plant.specs.Sound.{IsPlant}
use Rattle.plant.proofs.PlantLaws.{parts-fed}
use Rattle.feeds.specs.declared.record.Record.{Record}
use Rattle.feeds.specs.declared.taken.Taken.{Taken}
use Rattle.feeds.specs.Given.{fed_tubes, given_tubes}
use Rattle.feeds.specs.Records.{ReadRecords}
use Rattle.feeds.specs.Held.{held_of, held_with, held_after, held_at, covered}
use Rattle.feeds.specs.Standing.{IsTakenFor, pending}
use Rattle.feeds.specs.Taking.{Takes, HasCome}
use Rattle.feeds.specs.Filling.{covered_at, tube_in, CanCover, AreCoveredBefore, filled_bands, AreFilledBefore}
use Rattle.feeds.proofs.Accepted.{few-channels}
use Rattle.feeds.proofs.Holds.{held-length}
use Rattle.feeds.proofs.Windows.{fed-within, fed-at, file-within}

-- records of which some first ones have ticks not above this one, and the others later ones
pub held-split : (held : List (List (Option Interval))) (some others : List Record) (tick : ℕ) →
    AllByRecursion (λ one. one.tick < tick + 1) some → AllByRecursion (λ one. tick + 1 ≤ one.tick) others →
    held_at held (some ++ others) tick ≡ held_after held some
held-split held [] [] tick before later = refl
held-split held [] (one ∷ rest) tick before later =
    let after = later.0 in
    let no : leb one.tick tick ≡ false = lt-leb one.tick tick (omega arith) in
    ap (λ b. held_at (cond b (held_with held one) held) rest tick) no ∙ held-split held [] rest tick tt later.1
held-split held (one ∷ some) others tick before later =
    let within = before.0 in
    let yes : leb one.tick tick ≡ true = le-leb one.tick tick (omega arith) in
    ap (λ b. held_at (cond b (held_with held one) held) (some ++ others) tick) yes
    ∙ held-split (held_with held one) some others tick before.1 later

-- so what is held is what the records up to this tick leave
pub held-now : (parts : FileParts) (text : ReadText) (tick : ℕ) (old read : Taken) → Takes parts text (tick + 1) old read →
    HasCome parts text (tick + 1) read → read.held ≡ held_at old.held (pending parts text old).records tick
held-now parts text tick old read takes come = takes.held
    ∙ sym (held-split old.held takes.records (pending parts text read).records tick takes.before come.later)
    ∙ ap (λ (all : ReadRecords). held_at old.held all.records tick) (sym takes.split)

module _ (parts : FileParts) (plant : IsPlant parts) (held : List (List (Option Interval))) (records : List Record)
    (first n : ℕ) where
  -- at first each tick has what the plant file gives
  pub filled-none : (tubes : List Tube) → tubes ≡ given_tubes parts first n →
      AreFilledBefore parts held records first n 0 tubes
  filled-none tubes e =
      let within = fed-within parts (given_bands parts) first n (file-within parts plant) in
      subst (AreFilledBefore parts held records first n 0) (sym e) (record {
        counted = within.counted;
        ticks = within.ticks;
        filled = λ f t l m. absurd (omega arith);
        given = λ f t l m k. fed-at parts (given_bands parts) first n f t l k;
      })

  given-length : (f tick : ℕ) → f < length parts.feeds → length (given_bands parts tick f) ≡ length (limits_at parts f)
  given-length f tick l = inside-length (given_bands parts tick f) (limits_at parts f) (parts-fed parts plant tick f l)

  -- what is held can cover them
  pub can-cover : (bytes : List ℕ) (taken : Taken) (tick : ℕ) (tubes : List Tube) → IsTakenFor parts bytes taken → tick < n →
      AreFilledBefore parts held records first n tick tubes → CanCover taken.held tick tubes
  can-cover bytes taken tick tubes is l filled = record {
    counted = filled.counted ∙ sym is.feeds;
    ticks = λ f m. (let there : f < length parts.feeds = omega (arith, is.feeds) in omega (arith, filled.ticks f there));
    channels = λ f m. (
        let there : f < length parts.feeds = omega (arith, is.feeds) in
        held-length (held_of taken.held f) (limits_at parts f) (is.held f there) ∙ sym (given-length f (first + tick) there)
        ∙ ap length (sym (filled.given f tick there (omega arith) l)));
    few = λ f m. (
        let there : f < length parts.feeds = omega (arith, is.feeds) in
        omega (arith, held-length (held_of taken.held f) (limits_at parts f) (is.held f there), few-channels parts f plant there));
  }

  module _ (tick : ℕ) (now : List (List (Option Interval))) (old tubes : List Tube) (l : tick < n)
      (filled : AreFilledBefore parts held records first n tick old) (counted : length now ≡ length parts.feeds)
      (covers : AreCoveredBefore now tick (length now) old tubes) (is : now ≡ held_at held records (first + tick)) where
    tube-is : (f : ℕ) → f < length parts.feeds → tube_in tubes f ≡ covered_at (held_of now f) tick (tube_in old f)
    tube-is f m = covers.covered f (omega arith)

    tick-there : (f : ℕ) → f < length parts.feeds → tick < length (tube_in old f)
    tick-there f m = omega (arith, filled.ticks f m)

    others-are : (f t : ℕ) → f < length parts.feeds → t ≢ tick → at (tube_in tubes f) t ≡ at (tube_in old f) t
    others-are f t m ne = ap (λ (tube : Tube). at tube t) (tube-is f m)
        ∙ get_or-set_other (tube_in old f) tick t (covered (held_of now f) (at (tube_in old f) tick)) [] ne

    this-is : (f : ℕ) → f < length parts.feeds → at (tube_in tubes f) tick ≡ filled_bands parts held records (first + tick) f
    this-is f m = ap (λ (tube : Tube). at tube tick) (tube-is f m)
        ∙ get_or-set_same (tube_in old f) tick (covered (held_of now f) (at (tube_in old f) tick)) [] (tick-there f m)
        ∙ ap (λ (row : List Interval). covered (held_of now f) row) (filled.given f tick m (omega arith) l)
        ∙ ap (λ (all : List (List (Option Interval))). covered (held_of all f) (given_bands parts (first + tick) f)) is

    pub filled-more : AreFilledBefore parts held records first n (tick + 1) tubes
    filled-more = record {
      counted = covers.counted ∙ filled.counted;
      ticks = λ f m. ap length (tube-is f m)
          ∙ length-set (tube_in old f) tick (covered (held_of now f) (at (tube_in old f) tick)) ∙ filled.ticks f m;
      filled = λ f t m k. elim (cases_eq t tick) [
        | inl e ↦ subst (λ s. at (tube_in tubes f) s ≡ filled_bands parts held records (first + s) f) (sym e) (this-is f m)
        | inr ne ↦ others-are f t m ne ∙ filled.filled f t m (omega arith)
      ];
      given = λ f t m k j. (let ne : t ≢ tick = omega arith in others-are f t m ne ∙ filled.given f t m (omega arith) j);
    }

  -- in the end all ticks have what records say
  pub filled-all : (tubes : List Tube) → AreFilledBefore parts held records first n n tubes →
      tubes ≡ fed_tubes parts (filled_bands parts held records) first n
  filled-all tubes filled = fill_by_all (λ f. tube_of (λ t. filled_bands parts held records (first + t) f) n) tubes
      (length parts.feeds) [] filled.counted
      (λ f l. fill_by_all (λ t. filled_bands parts held records (first + t) f) (tube_in tubes f) n [] (filled.ticks f l)
      (λ t m. filled.filled f t l m))

-- What is held covers what the plant file gives as records say.
use Rattle.std.proofs.Common.{◌≡◌, ◌≢◌, ◌∙◌, ℕ, zero, suc, ◌+◌, ◌<◌, Bool, true, false, cond, eqb, leb, ◌&&◌, List, [], ◌∷◌, ◌++◌, length, get_or, set, map, Option, Some, None, refl, sym, ap, subst, arith, inl, inr, get_or-set_same, get_or-set_other, eq-eqb, ne_eqb, append-nil}
use Rattle.std.specs.List.{AllByRecursion}
use Rattle.std.proofs.lemmas.Bool.{cases_eq}
use Rattle.std.proofs.lemmas.List.{length-map}
use Rattle.quant.specs.Interval.{Interval, AllBands, AllInside}
use Rattle.quant.proofs.Calls.{inside-length}
use Rattle.parts.specs.Parts.{FileParts}
use Rattle.parts.specs.Given.{kind_bands, given_bands}
use Rattle.plant.proofs.Givens.{given-is}
use Rattle.plant.proofs.Lookups.{at-map, item}
use Rattle.parts.specs.declared.feeds.FeedPart.{FeedPart}
use Rattle.parts.specs.declared.feeds.FeedKind.{FeedKind}
use Rattle.parts.specs.declared.feeds.FeedKind.TheVariants as feed_kind
use Rattle.plant_streams.specs.Limits.{limits_at}
use Rattle.plant.specs.Sound.{IsPlant}
use Rattle.feeds.specs.declared.record.Record.{Record}
use Rattle.feeds.specs.Given.{recorded}
use Rattle.feeds.specs.Held.{AreHeldIn, none_of, nothing_held, held_of, held_with, held_after, held_at, covered}
use Rattle.feeds.specs.Standing.{IsRecordFor}
use Rattle.feeds.specs.Filling.{filled_bands}
use Rattle.feeds.proofs.Holds.{held-length, has-place, held-counted, held-more}
use Rattle.feeds.proofs.Fillings.{held-split}
use Rattle.feeds.proofs.Windows.{StaysWithin, file-within}

and-true : (b : Bool) → b && true ≡ b
and-true true = refl
and-true false = refl

and-false : (b : Bool) → b && false ≡ false
and-false true = refl
and-false false = refl

-- where nothing is held, the bands stay
covers-nothing : (kind : FeedKind) (bands : List Interval) → covered (none_of kind) bands ≡ bands
covers-nothing (feed_kind.Material flow conc temp) [] = refl
covers-nothing (feed_kind.Material flow conc temp) (a ∷ []) = refl
covers-nothing (feed_kind.Material flow conc temp) (a ∷ b ∷ []) = refl
covers-nothing (feed_kind.Material flow conc temp) (a ∷ b ∷ c ∷ rest) = refl
covers-nothing (feed_kind.Signal value) [] = refl
covers-nothing (feed_kind.Signal value) (a ∷ rest) = refl

nothing-covers : (feeds : List FeedPart) (f : ℕ) (bands : List Interval) →
    covered (get_or (map (λ (feed : FeedPart). none_of feed.kind) feeds) f []) bands ≡ bands
nothing-covers [] f bands = refl
nothing-covers (feed ∷ feeds) zero bands = covers-nothing feed.kind bands
nothing-covers (feed ∷ feeds) (suc f) bands = nothing-covers feeds f bands

-- a band that is held more
covered-set : (held : List (Option Interval)) (bands : List Interval) (c : ℕ) (band : Interval) → length held ≡ length bands →
    covered (set held c (Some band)) bands ≡ set (covered held bands) c band
covered-set [] [] c band e = refl
covered-set [] (a ∷ bands) c band e = absurd (omega arith)
covered-set (one ∷ held) [] c band e = absurd (omega arith)
covered-set (None ∷ held) (a ∷ bands) zero band e = refl
covered-set (Some b ∷ held) (a ∷ bands) zero band e = refl
covered-set (None ∷ held) (a ∷ bands) (suc c) band e =
    ap (λ (rest : List Interval). a ∷ rest) (covered-set held bands c band (omega arith))
covered-set (Some b ∷ held) (a ∷ bands) (suc c) band e =
    ap (λ (rest : List Interval). b ∷ rest) (covered-set held bands c band (omega arith))

-- held bands of a plant: for each feed, and in the limits
pub record AreHeldFor (parts : FileParts) (held : List (List (Option Interval))) : Type 0 where
  pub counted : length held ≡ length parts.feeds
  pub all : (f : ℕ) → f < length parts.feeds → AreHeldIn (held_of held f) (limits_at parts f)

held-one : (parts : FileParts) (held : List (List (Option Interval))) (one : Record) → AreHeldFor parts held →
    IsRecordFor parts one → AreHeldFor parts (held_with held one)
held-one parts held one is fits = record {
  counted = held-counted parts held is.counted is.all one fits;
  all = held-more parts held is.counted is.all one fits;
}

held-or : (parts : FileParts) (held : List (List (Option Interval))) (one : Record) (holds : Bool) → AreHeldFor parts held →
    IsRecordFor parts one → AreHeldFor parts (cond holds (held_with held one) held)
held-or parts held one true is fits = held-one parts held one is fits
held-or parts held one false is fits = is

module _ (parts : FileParts) (tick f : ℕ) (l : f < length parts.feeds) (bands : List Interval)
    (counted : length bands ≡ length (limits_at parts f)) where
  -- a record puts its band there where it is of this feed
  one-covers : (held : List (List (Option Interval))) (one : Record) → AreHeldFor parts held → IsRecordFor parts one →
      covered (held_of (held_with held one) f) bands
      ≡ cond (eqb one.place.feed f) (set (covered (held_of held f) bands) one.place.channel one.band) (covered (held_of held f) bands)
  one-covers held one is fits = elim (cases_eq one.place.feed f) [
    | inl e ↦ (
        let there : one.place.feed < length held = (has-place parts held is.counted is.all one fits).feed in
        ap (λ g. covered (held_of (held_with held one) g) bands) (sym e)
        ∙ ap (λ (row : List (Option Interval)). covered row bands) (get_or-set_same held one.place.feed
        (set (held_of held one.place.feed) one.place.channel (Some one.band)) [] there)
        ∙ ap (λ g. covered (set (held_of held g) one.place.channel (Some one.band)) bands) e
        ∙ covered-set (held_of held f) bands one.place.channel one.band
        (held-length (held_of held f) (limits_at parts f) (is.all f l) ∙ sym counted)
        ∙ ap (λ b. cond b (set (covered (held_of held f) bands) one.place.channel one.band) (covered (held_of held f) bands))
        (sym (eq-eqb one.place.feed f e)))
    | inr ne ↦ (
        let other : f ≢ one.place.feed = λ e. ne (sym e) in
        ap (λ (row : List (Option Interval)). covered row bands) (get_or-set_other held one.place.feed f
        (set (held_of held one.place.feed) one.place.channel (Some one.band)) [] other)
        ∙ ap (λ b. cond b (set (covered (held_of held f) bands) one.place.channel one.band) (covered (held_of held f) bands))
        (sym (ne_eqb one.place.feed f ne)))
  ]

  -- a record that holds at this tick, or does not
  step-covers : (held : List (List (Option Interval))) (one : Record) (holds : Bool) → AreHeldFor parts held →
      IsRecordFor parts one →
      covered (held_of (cond holds (held_with held one) held) f) bands
      ≡ cond (eqb one.place.feed f && holds) (set (covered (held_of held f) bands) one.place.channel one.band)
      (covered (held_of held f) bands)
  step-covers held one true is fits = one-covers held one is fits
      ∙ ap (λ b. cond b (set (covered (held_of held f) bands) one.place.channel one.band) (covered (held_of held f) bands))
      (sym (and-true (eqb one.place.feed f)))
  step-covers held one false is fits =
      ap (λ b. cond b (set (covered (held_of held f) bands) one.place.channel one.band) (covered (held_of held f) bands))
      (sym (and-false (eqb one.place.feed f)))

  pub covers-recorded : (held : List (List (Option Interval))) (records : List Record) → AreHeldFor parts held →
      AllByRecursion (IsRecordFor parts) records →
      covered (held_of (held_at held records tick) f) bands ≡ recorded records tick f (covered (held_of held f) bands)
  covers-recorded held [] is fit = refl
  covers-recorded held (one ∷ rest) is fit =
      covers-recorded (cond (leb one.tick tick) (held_with held one) held) rest
      (held-or parts held one (leb one.tick tick) is fit.0) fit.1
      ∙ ap (recorded rest tick f) (step-covers held one (leb one.tick tick) is fit.0)

-- after records, and then others
after-at : (held : List (List (Option Interval))) (xs ys : List Record) (tick : ℕ) →
    held_at held (xs ++ ys) tick ≡ held_at (held_at held xs tick) ys tick
after-at held [] ys tick = refl
after-at held (x ∷ xs) ys tick = after-at (cond (leb x.tick tick) (held_with held x) held) xs ys tick

-- nothing is held before the first record
abbrev AreNone : List (Option Interval) → Type 0
AreNone [] = Unit {0}
AreNone (None ∷ held) = AreNone held
AreNone (Some band ∷ held) = ⊥

none-in : (held : List (Option Interval)) (limits : List Interval) → AreNone held → length held ≡ length limits →
    AreHeldIn held limits
none-in [] [] none e = tt
none-in [] (limit ∷ limits) none e = absurd (omega arith)
none-in (one ∷ held) [] none e = absurd (omega arith)
none-in (None ∷ held) (limit ∷ limits) none e = (tt, none-in held limits none (omega arith))
none-in (Some band ∷ held) (limit ∷ limits) none e = absurd none

none-are : (kind : FeedKind) → AreNone (none_of kind)
none-are (feed_kind.Material flow conc temp) = tt
none-are (feed_kind.Signal value) = tt

none-counted : (kind : FeedKind) (tick : ℕ) → length (none_of kind) ≡ length (kind_bands tick kind)
unfolding kind_bands
none-counted (feed_kind.Material flow conc temp) tick = refl
none-counted (feed_kind.Signal value) tick = refl

pub nothing-for : (parts : FileParts) → IsPlant parts → AreHeldFor parts (nothing_held parts)
nothing-for parts plant = record {
  counted = length-map parts.feeds (λ (feed : FeedPart). none_of feed.kind);
  all = λ f l. (
      let x = item parts.feeds f l in
      let kind = (get_or parts.feeds f x).kind in
      subst (λ row. AreHeldIn row (limits_at parts f))
      (sym (at-map (λ (feed : FeedPart). none_of feed.kind) parts.feeds f x [] l))
      (none-in (none_of kind) (limits_at parts f) (none-are kind)
      (none-counted kind 0 ∙ ap length (sym (given-is parts 0 f x l))
      ∙ inside-length (given_bands parts 0 f) (limits_at parts f) (file-within parts plant 0 f l).inside)));
}

-- what is held at a tick
held-along : (parts : FileParts) (held : List (List (Option Interval))) (records : List Record) (tick : ℕ) →
    AreHeldFor parts held → AllByRecursion (IsRecordFor parts) records → AreHeldFor parts (held_at held records tick)
held-along parts held [] tick is fit = is
held-along parts held (one ∷ rest) tick is fit = held-along parts (cond (leb one.tick tick) (held_with held one) held) rest tick
    (held-or parts held one (leb one.tick tick) is fit.0) fit.1

covered-within : (held : List (Option Interval)) (bands limits : List Interval) → AreHeldIn held limits →
    AllBands bands → AllInside bands limits → AllBands (covered held bands) × AllInside (covered held bands) limits
covered-within [] bands limits all numbers inside = (numbers, inside)
covered-within (one ∷ held) [] limits all numbers inside = (numbers, inside)
covered-within (one ∷ held) (band ∷ bands) [] all numbers inside = absurd all
covered-within (None ∷ held) (band ∷ bands) (limit ∷ limits) all numbers inside =
    let rest = covered-within held bands limits all.1 numbers.1 inside.1 in
    ((numbers.0, rest.0), (inside.0, rest.1))
covered-within (Some other ∷ held) (band ∷ bands) (limit ∷ limits) all numbers inside =
    let rest = covered-within held bands limits all.1 numbers.1 inside.1 in
    ((all.0.0, rest.0), (all.0.1, rest.1))

-- what is held covers the given bands inside the limits
pub filled-within : (parts : FileParts) (held : List (List (Option Interval))) (records : List Record) → IsPlant parts →
    AreHeldFor parts held → AllByRecursion (IsRecordFor parts) records → StaysWithin parts (filled_bands parts held records)
filled-within parts held records plant is fit tick f l =
    let given = file-within parts plant tick f l in
    let both = covered-within (held_of (held_at held records tick) f) (given_bands parts tick f) (limits_at parts f)
    ((held-along parts held records tick is fit).all f l) given.numbers given.inside in
    record { numbers = both.0; inside = both.1 }

-- what first records leave is held, and the others follow
pub filled-recorded : (parts : FileParts) (held : List (List (Option Interval))) (some others : List Record) (tick f : ℕ) →
    IsPlant parts → f < length parts.feeds → held ≡ held_after (nothing_held parts) some →
    AllByRecursion (λ one. one.tick < tick + 1) some → AllByRecursion (IsRecordFor parts) (some ++ others) →
    filled_bands parts held others tick f ≡ recorded (some ++ others) tick f (given_bands parts tick f)
filled-recorded parts held some others tick f plant l e before fit =
    let nothing = nothing-for parts plant in
    let given = given_bands parts tick f in
    let now : held ≡ held_at (nothing_held parts) some tick = e
    ∙ sym (held-split (nothing_held parts) some [] tick before tt)
    ∙ ap (λ records. held_at (nothing_held parts) records tick) (append-nil some) in
    ap (λ h. covered (held_of (held_at h others tick) f) given) now
    ∙ ap (λ h. covered (held_of h f) given) (sym (after-at (nothing_held parts) some others tick))
    ∙ covers-recorded parts tick f l given
    (inside-length given (limits_at parts f) (file-within parts plant tick f l).inside) (nothing_held parts) (some ++ others)
    nothing fit
    ∙ ap (recorded (some ++ others) tick f) (nothing-covers parts.feeds f given)

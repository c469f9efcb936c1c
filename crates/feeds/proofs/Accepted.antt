-- Records that are accepted: their channels are there, and their bands lie in the limits.
use Rattle.std.proofs.Common.{◌≡◌, ◌∙◌, ℕ, ◌<◌, ◌≤◌, ℤ, ◌^◌, ◌≤ℤ◌, int_le, Bool, true, false, cond, ◌&&◌, List, [], ◌∷◌, length, get_or, Option, Some, None, Result, Ok, Err, bytes_eq, ltb-false, refl, sym, ap, subst, arith}
use Rattle.std.specs.Prelude.{nat_lt}
use Rattle.std.specs.List.{position, before_first, after_first}
use Rattle.std.proofs.lemmas.Int.{ints}
use Rattle.std.proofs.lemmas.Bool.Decides.{nat_tests}
use Rattle.quant.specs.Interval.{Interval, IsBand, IsInside}
use Rattle.plant_names.specs.Name.{is_dot}
use Rattle.lines.specs.Lines.{fields_of}
use Rattle.lines.specs.Numbers.{number_in}
use Rattle.parts.specs.Parts.{FileParts}
use Rattle.plant_streams.specs.declared.streams.Stream.{Stream}
use Rattle.plant_streams.specs.Streams.{streams_of}
use Rattle.plant_streams.specs.Limits.{limits_at, limit_at, channel_limits, source_limits, stream_limits}
use Rattle.plant.specs.Sound.{IsPlant}
use Rattle.plant.proofs.Lookups.{at-map, item}
use Rattle.plant.proofs.PlantLaws.{plant-sound}
use Rattle.tables.specs.Output.{channels}
use Rattle.feeds.specs.declared.record.FeedChannel.{FeedChannel}
use Rattle.feeds.specs.declared.record.Record.{Record}
use Rattle.feeds.specs.declared.reader.FeedFault.{FeedFault}
use Rattle.feeds.specs.declared.reader.FeedFault.TheVariants.{Order, Outside}
use Rattle.feeds.specs.Records.{Written, last_tick, small_tick, tick_in, end_in, band_in, written_as, written_by, written_in, feed_channels, channel_found, channel_of, place_in, judged_at, judged_as, judged}
use Rattle.feeds.specs.Standing.{IsChannelOf, IsRecordFor}

-- what a line writes has a small tick, and a band
record Fits (written : Written) : Type 0 where
  tick : written.tick ≤ last_tick
  band : IsBand written.band

tick-fits : (number : Option ℤ) (tick : ℕ) → small_tick number ≡ Some tick → tick ≤ last_tick
tick-fits None tick e = absurd (cc)
tick-fits (Some number) tick e = grind (arith, nat_tests)

ordered : (lo hi : ℤ) → int_le lo hi ≡ true → lo ≤ℤ hi
ordered lo hi e = omega (arith, ints)

band-fits : (lo hi : Option ℤ) (band : Interval) → band_in lo hi ≡ Some band → IsBand band
band-fits None hi band e = absurd (cc)
band-fits (Some lo) None band e = absurd (cc)
band-fits (Some lo) (Some hi) band e =
    elim (int_le lo hi) as (λ b. int_le lo hi ≡ b → cond b (Some (record { lo = lo; hi = hi })) None ≡ Some band → IsBand band) [
      | true ↦ λ t e. (let same : record { lo = lo; hi = hi } ≡ band = cc in subst IsBand same (record { ordered = ordered lo hi t }))
      | false ↦ λ t e. absurd (cc)
    ] refl e

written-as-fits : (tick : Option ℕ) (name : List ℕ) (band : Option Interval) (written : Written) →
    ((t : ℕ) → tick ≡ Some t → t ≤ last_tick) → ((b : Interval) → band ≡ Some b → IsBand b) →
    written_as tick name band ≡ Some written → Fits written
written-as-fits None name band written f g e = absurd (cc)
written-as-fits (Some tick) name None written f g e = absurd (cc)
written-as-fits (Some tick) name (Some band) written f g e =
    let same : record { tick = tick; name = name; band = band } ≡ written = cc in
    subst Fits same (record { tick = f tick refl; band = g band refl })

written-by-fits : (fields : List (List ℕ)) (written : Written) → written_by fields ≡ Some written → Fits written
written-by-fits [] written e = absurd (cc)
written-by-fits (tick ∷ []) written e = absurd (cc)
written-by-fits (tick ∷ name ∷ []) written e = absurd (cc)
written-by-fits (tick ∷ name ∷ lo ∷ []) written e = absurd (cc)
written-by-fits (tick ∷ name ∷ lo ∷ hi ∷ more ∷ rest) written e = absurd (cc)
written-by-fits (tick ∷ name ∷ lo ∷ hi ∷ []) written e =
    written-as-fits (tick_in tick) name (band_in (end_in lo) (end_in hi)) written
    (λ t. tick-fits (number_in 10 false tick) t) (λ b. band-fits (end_in lo) (end_in hi) b) e

written-fits : (line : List ℕ) (written : Written) → written_in line ≡ Some written → Fits written
unfolding written_in
written-fits line written e = written-by-fits (fields_of line) written e

-- a feed and its channels: as many as it has limits
counted : (signal : Bool) (parts : FileParts) (stream : Stream) → stream.signal ≡ signal →
    length (channels signal) ≡ length (stream_limits parts stream)
unfolding channels
counted true parts stream e = ap (λ b. length (channel_limits (source_limits parts stream.source) b)) (sym e)
counted false parts stream e = ap (λ b. length (channel_limits (source_limits parts stream.source) b)) (sym e)

few : (signal : Bool) → length (channels signal) ≤ 3
unfolding channels
few true = omega arith
few false = omega arith

module _ (parts : FileParts) (f : ℕ) (plant : IsPlant parts) (l : f < length parts.feeds) where
  pub in-streams : f < length (streams_of parts)
  in-streams = (plant-sound parts plant).feeds_counted f l

  stream : Stream
  stream = get_or (streams_of parts) f (item (streams_of parts) f in-streams)

  pub channels-counted : length (feed_channels parts f) ≡ length (limits_at parts f)
  unfolding stream
  channels-counted =
      let x = item (streams_of parts) f in-streams in
      ap (λ signal. length (channels signal)) (at-map (λ (s : Stream). s.signal) (streams_of parts) f x false in-streams)
      ∙ counted stream.signal parts stream refl
      ∙ ap length (sym (at-map (stream_limits parts) (streams_of parts) f x [] in-streams))

  -- no feed has more than three
  pub few-channels : length (limits_at parts f) ≤ 3
  few-channels =
      let most : length (feed_channels parts f) ≤ 3 = few _ in
      omega (arith, channels-counted)

-- what is found is among what is looked through
pub below : {X : Type 0} (p : X → Bool) (xs : List X) (i : ℕ) → position p xs ≡ Some i → i < length xs
below p xs i found = grind arith

-- a channel that is found is there
channel-there : (parts : FileParts) (feed channel : ℕ) (found : Option ℕ) (place : FeedChannel) →
    ((i : ℕ) → found ≡ Some i → i < length (limits_at parts feed)) → feed < length parts.feeds →
    channel_found feed found ≡ Some place → IsChannelOf parts place
channel-there parts feed channel None place inside l e = absurd (cc)
channel-there parts feed channel (Some i) place inside l e =
    let same : record { feed = feed; channel = i } ≡ place = cc in
    subst (IsChannelOf parts) same (record { feed = l; channel = inside i refl })

feed-there : (parts : FileParts) (found : Option ℕ) (name : List ℕ) (place : FeedChannel) → IsPlant parts →
    ((i : ℕ) → found ≡ Some i → i < length parts.feeds) →
    channel_of parts found name ≡ Some place → IsChannelOf parts place
feed-there parts None name place plant inside e = absurd (cc)
feed-there parts (Some feed) name place plant inside e =
    channel-there parts feed 0 _ place
    (λ i found. subst (λ n. i < n) (channels-counted parts feed plant (inside feed refl))
    (below (λ channel. bytes_eq channel name) (feed_channels parts feed) i found))
    (inside feed refl) e

pub place-there : (parts : FileParts) (name : List ℕ) (place : FeedChannel) → IsPlant parts →
    place_in parts name ≡ Some place → IsChannelOf parts place
unfolding place_in
place-there parts name place plant e =
    feed-there parts _ (after_first is_dot name) place plant
    (λ i found. below (λ feed. bytes_eq feed.name (before_first is_dot name)) parts.feeds i found) e

both : (a b : Bool) → a && b ≡ true → (a ≡ true) × (b ≡ true)
both true b e = (refl, e)
both false b e = absurd (cc)

inside : (lo hi : ℤ) (limit : Interval) → int_le limit.lo lo && int_le hi limit.hi ≡ true →
    IsInside (record { lo = lo; hi = hi }) limit
inside lo hi limit e =
    let parts = both (int_le limit.lo lo) (int_le hi limit.hi) e in
    record { above = ordered limit.lo lo parts.0; below = ordered hi limit.hi parts.1 }

-- what is written is a record, where its place is there and its band lies in the limit
written-record : (parts : FileParts) (written : Written) (place : FeedChannel) → Fits written → IsChannelOf parts place →
    int_le (limit_at parts place.feed place.channel).lo written.band.lo
    && int_le written.band.hi (limit_at parts place.feed place.channel).hi ≡ true →
    IsRecordFor parts (record { tick = written.tick; place = place; band = written.band })
written-record parts written place fits there lies = record {
  place = there;
  band = fits.band;
  inside = inside written.band.lo written.band.hi (limit_at parts place.feed place.channel) lies;
  tick = fits.tick;
}

pub record-fits : (parts : FileParts) (line : List ℕ) (written : Written) (place : FeedChannel) → IsPlant parts →
    written_in line ≡ Some written → place_in parts written.name ≡ Some place →
    int_le (limit_at parts place.feed place.channel).lo written.band.lo
    && int_le written.band.hi (limit_at parts place.feed place.channel).hi ≡ true →
    IsRecordFor parts (record { tick = written.tick; place = place; band = written.band })
record-fits parts line written place plant w p lies = written-record parts written place (written-fits line written w)
    (place-there parts written.name place plant p) lies

-- a record that is accepted is one of the plant's, and not before the one before it
pub record IsNext (parts : FileParts) (before : ℕ) (one : Record) : Type 0 where
  pub fits : IsRecordFor parts one
  pub rises : before ≤ one.tick

abbrev accepted-if : ℕ → Written → FeedChannel → Bool → Result Record FeedFault
accepted-if at written place lies =
    cond lies (Ok (record { tick = written.tick; place = place; band = written.band })) (Err (Outside at))

judged-at-fits : (parts : FileParts) (at before : ℕ) (written : Written) (found : Option FeedChannel) (one : Record) →
    Fits written → ((place : FeedChannel) → found ≡ Some place → IsChannelOf parts place) →
    judged_at parts at before written found ≡ Ok one → IsNext parts before one
judged-at-fits parts at before written None one fits there e = absurd (cc)
judged-at-fits parts at before written (Some place) one fits there e =
    let limit = limit_at parts place.feed place.channel in
    elim (nat_lt written.tick before) as (λ late. nat_lt written.tick before ≡ late →
    cond late (Err (Order at)) (accepted-if at written place
    (int_le limit.lo written.band.lo && int_le written.band.hi limit.hi)) ≡ Ok one → IsNext parts before one) [
      | true ↦ λ late e. absurd (cc)
      | false ↦ λ late. elim (int_le limit.lo written.band.lo && int_le written.band.hi limit.hi) as (λ lies.
          int_le limit.lo written.band.lo && int_le written.band.hi limit.hi ≡ lies →
          accepted-if at written place lies ≡ Ok one → IsNext parts before one) [
            | true ↦ λ lies e. (
                let same : record { tick = written.tick; place = place; band = written.band } ≡ one = cc in
                subst (IsNext parts before) same (record {
                  fits = written-record parts written place fits (there place refl) lies;
                  rises = ltb-false written.tick before late;
                }))
            | false ↦ λ lies e. absurd (cc)
          ] refl
    ] refl e

judged-as-fits : (parts : FileParts) (at before : ℕ) (written : Option Written) (one : Record) → IsPlant parts →
    ((w : Written) → written ≡ Some w → Fits w) → judged_as parts at before written ≡ Ok one → IsNext parts before one
judged-as-fits parts at before None one plant fits e = absurd (cc)
judged-as-fits parts at before (Some written) one plant fits e =
    judged-at-fits parts at before written (place_in parts written.name) one (fits written refl)
    (λ place found. place-there parts written.name place plant found) e

pub judged-fits : (parts : FileParts) (at before : ℕ) (line : List ℕ) (one : Record) → IsPlant parts →
    judged parts at before line ≡ Ok one → IsNext parts before one
judged-fits parts at before line one plant e =
    judged-as-fits parts at before (written_in line) one plant (written-fits line) e

-- numbers of channels are small
pub small-channel : (parts : FileParts) (f c : ℕ) → IsPlant parts → f < length parts.feeds → c < length (limits_at parts f) →
    c < 2 ^ 32
small-channel parts f c plant l k = let most = few-channels parts f plant l in omega arith

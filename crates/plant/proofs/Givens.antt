-- The feeds get their bands one after another.
use Rattle.std.proofs.Common.{◌≡◌, ℕ, ◌<◌, [], length, get_or, List, sym, ap, ◌∙◌, arith, refl, ◌+◌, ◌≢◌, set, inl}
use Rattle.std.proofs.Common.{inr, length-set, get_or-set_other, subst, ◌∷◌}
use Rattle.std.proofs.lemmas.Bool.{cases_eq, cases_lt}
use Rattle.std.proofs.lemmas.Grind.{get_or-set_at}
use Rattle.std.proofs.lemmas.Int.{ints}
use Rattle.std.proofs.lemmas.List.{length-map}
use Rattle.quant.specs.Interval.{Interval, AllInside}
use Rattle.quant.proofs.Calls.{inside-length}
use Rattle.parts.specs.Parts.{FileParts}
use Rattle.parts.specs.Given.{kind_bands, given_bands}
use Rattle.parts.specs.declared.feeds.FeedPart.{FeedPart}
use Rattle.plant_streams.specs.Limits.{stream_limits, limits_at}
use Rattle.plant_streams.specs.Streams.{streams_of}
use Rattle.plant_units.specs.Steps.{bands_at}
use Rattle.plant_units.specs.Units.{units_of, opening_of}
use Rattle.plant.proofs.Lookups.{at-map, item, sound-at}
use Rattle.plant.specs.Sound.{ArePartsSound}
use Rattle.plant.specs.Steps.{HasChannels, HaveGiven, AreFed}
use Rattle.plant.specs.Rows.{RowBands, IsRow, opening_row}
use Rattle.plant.proofs.Stepping.{inside-states}

-- what a feed gives
pub given-is : (parts : FileParts) (tick f : ℕ) (x : FeedPart) → f < length parts.feeds →
    given_bands parts tick f ≡ kind_bands tick (get_or parts.feeds f x).kind
given-is parts tick f x h = at-map (λ (feed : FeedPart). kind_bands tick feed.kind) parts.feeds f x [] h

-- a feed gives a band to each of its stream's channels
pub gives-all : (parts : FileParts) (tick f : ℕ) (x : FeedPart) (before now : List (List Interval)) →
    ArePartsSound parts → AreFed parts →
    HasChannels parts before → HaveGiven parts tick f before now → f < length parts.feeds →
    length (kind_bands tick (get_or parts.feeds f x).kind) ≡ length (bands_at now f)
gives-all parts tick f x before now sound fed has have h =
    ap length (sym (given-is parts tick f x h))
    ∙ (inside-length (given_bands parts tick f) (limits_at parts f) (fed.fed tick f h)
    ∙ (sym (has.channels f (sound.feeds_counted f h)) ∙ ap length (sym (have.rest f (omega arith)))))

pub feed-there : (parts : FileParts) (f : ℕ) (before now : List (List Interval)) → ArePartsSound parts →
    HasChannels parts before → length now ≡ length before → f < length parts.feeds → f < length now
feed-there parts f before now sound has e h = omega (arith, sound.feeds_counted f h, has.counted, e)

pub have_given-none : (parts : FileParts) (tick : ℕ) (before : List (List Interval)) →
    HaveGiven parts tick 0 before before
have_given-none parts tick before = record { counted = refl; given = λ f h k. absurd (omega arith); rest = λ s h. refl }

pub have_given-more : (parts : FileParts) (tick n : ℕ) (x : FeedPart) (before now after : List (List Interval)) →
    n < length parts.feeds → n < length now →
    HaveGiven parts tick n before now → after ≡ set now n (kind_bands tick (get_or parts.feeds n x).kind) →
    HaveGiven parts tick (n + 1) before after
have_given-more parts tick n x before now after h l have e =
    let new : List Interval = kind_bands tick (get_or parts.feeds n x).kind in
    let others : (s : ℕ) → s ≢ n → bands_at after s ≡ bands_at now s =
    λ s ne. ap (λ rows. bands_at rows s) e ∙ get_or-set_other now n s new [] ne in
    record {
      counted = ap length e ∙ (length-set now n new ∙ have.counted);
      given = λ f k m.
          elim (cases_eq f n) [
            | inl d ↦
                ap (λ rows. bands_at rows f) e ∙ (get_or-set_at now n f new [] d l
                ∙ (sym (given-is parts tick n x h) ∙ ap (given_bands parts tick) (sym d)))
            | inr ne ↦ others f ne ∙ have.given f k (omega arith)
          ];
      rest = λ s k. let ne : s ≢ n = omega arith in others s ne ∙ have.rest s (omega arith);
    }

-- the row stays one
pub channels-of-row : (parts : FileParts) (row : RowBands) → IsRow parts row → HasChannels parts row.streams
channels-of-row parts row r = record { counted = r.streams_counted; channels = r.channels }

channel-given : (parts : FileParts) (tick s : ℕ) (before after : List (List Interval)) → AreFed parts →
    HasChannels parts before →
    HaveGiven parts tick (length parts.feeds) before after → s < length (streams_of parts) →
    length (bands_at after s) ≡ length (limits_at parts s)
channel-given parts tick s before after fed has have h =
    elim (cases_lt s (length parts.feeds)) [
      | inl k ↦ ap length (have.given s k k) ∙ inside-length (given_bands parts tick s) (limits_at parts s)
          (fed.fed tick s k)
      | inr k ↦ ap length (have.rest s k) ∙ has.channels s h
    ]

pub row-given : (parts : FileParts) (tick : ℕ) (row : RowBands) (after : List (List Interval)) → AreFed parts →
    IsRow parts row →
    HaveGiven parts tick (length parts.feeds) row.streams after →
    IsRow parts (record { states = row.states; streams = after })
row-given parts tick row after fed r have = record {
  counted = r.counted;
  streams_counted = have.counted ∙ r.streams_counted;
  channels = λ s h. channel-given parts tick s row.streams after fed (channels-of-row parts row r) have h;
  states = r.states;
  feeds = λ f h. subst (λ (bands : List Interval). AllInside bands (limits_at parts f)) (sym (have.given f h h))
      (fed.fed tick f h);
}

-- the row that a plant starts from
all_inside-self : (As : List Interval) → AllInside As As
all_inside-self [] = tt
all_inside-self (A ∷ As) = (record { above = omega (arith, ints); below = omega (arith, ints) }, all_inside-self As)

pub opening-is-row : (parts : FileParts) → ArePartsSound parts → IsRow parts (opening_row parts)
opening-is-row parts sound = record {
  counted = length-map (units_of parts) opening_of;
  streams_counted = length-map (streams_of parts) (stream_limits parts);
  channels = λ s h. refl;
  states = λ u h.
      let x = item (units_of parts) u h in
      rw (at-map opening_of (units_of parts) u x [] h)
      (inside-states parts u x (opening_of (get_or (units_of parts) u x)) h (sound-at parts u x sound.units h).starts);
  feeds = λ f h. all_inside-self (limits_at parts f);
}

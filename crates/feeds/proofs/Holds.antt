-- What is held after records: as many channels of each feed, and each band in its limit.
use Rattle.std.proofs.Common.{◌≡◌, ◌∙◌, ℕ, zero, suc, ◌<◌, List, [], ◌∷◌, length, get_or, set, Option, Some, None, IfSome, pos, refl, sym, ap, subst, arith, inl, inr, length-set, get_or-set_same, get_or-set_other}
use Rattle.std.proofs.lemmas.Bool.{cases_eq}
use Rattle.quant.specs.Interval.{Interval, IsBand, IsInside, point}
use Rattle.parts.specs.Parts.{FileParts}
use Rattle.plant_streams.specs.Limits.{limits_at}
use Rattle.feeds.specs.declared.record.Record.{Record}
use Rattle.feeds.specs.declared.taken.Taken.{Taken}
use Rattle.feeds.specs.Held.{AreHeldIn, held_of, held_with, held_after}
use Rattle.feeds.specs.Standing.{IsRecordFor, IsTakenFor, as_list}
use Rattle.feeds.specs.Taking.{HasPlaceFor}

pub held-length : (held : List (Option Interval)) (limits : List Interval) → AreHeldIn held limits → length held ≡ length limits
held-length [] [] all = refl
held-length [] (limit ∷ limits) all = absurd all
held-length (one ∷ held) [] all = absurd all
held-length (one ∷ held) (limit ∷ limits) all = ap suc (held-length held limits all.1)

-- one channel's band more
held-set : (held : List (Option Interval)) (limits : List Interval) (c : ℕ) (band : Interval) → AreHeldIn held limits →
    IsBand band → IsInside band (get_or limits c (point (pos 0))) → AreHeldIn (set held c (Some band)) limits
held-set [] limits c band all is inside = all
held-set (one ∷ held) [] c band all is inside = absurd all
held-set (one ∷ held) (limit ∷ limits) zero band all is inside = ((is, inside), all.1)
held-set (one ∷ held) (limit ∷ limits) (suc c) band all is inside = (all.0, held-set held limits c band all.1 is inside)

module _ (parts : FileParts) (held : List (List (Option Interval))) (counted : length held ≡ length parts.feeds)
    (all : (f : ℕ) → f < length parts.feeds → AreHeldIn (held_of held f) (limits_at parts f)) (one : Record)
    (fits : IsRecordFor parts one) where
  -- a record of the plant has its place
  pub has-place : HasPlaceFor held one
  has-place = record {
    feed = let l = fits.place.feed in omega arith;
    channel = let l = fits.place.channel in
        omega (arith, held-length (held_of held one.place.feed) (limits_at parts one.place.feed) (all one.place.feed fits.place.feed));
  }

  pub held-counted : length (held_with held one) ≡ length parts.feeds
  held-counted = length-set held one.place.feed _ ∙ counted

  -- and is held there
  pub held-more : (f : ℕ) → f < length parts.feeds → AreHeldIn (held_of (held_with held one) f) (limits_at parts f)
  held-more f l = elim (cases_eq f one.place.feed) [
    | inl e ↦
        subst (λ g. AreHeldIn (held_of (held_with held one) g) (limits_at parts g)) (sym e)
        (subst (λ row. AreHeldIn row (limits_at parts one.place.feed))
        (sym (get_or-set_same held one.place.feed (set (held_of held one.place.feed) one.place.channel (Some one.band)) []
        has-place.feed))
        (held-set (held_of held one.place.feed) (limits_at parts one.place.feed) one.place.channel one.band
        (all one.place.feed fits.place.feed) fits.band fits.inside))
    | inr ne ↦
        subst (λ row. AreHeldIn row (limits_at parts f))
        (sym (get_or-set_other held one.place.feed f (set (held_of held one.place.feed) one.place.channel (Some one.band)) [] ne))
        (all f l)
  ]

-- the record ahead has its place
placed : (parts : FileParts) (bytes : List ℕ) (taken : Taken) (ahead : Option Record) → IsTakenFor parts bytes taken →
    IfSome ahead (IsRecordFor parts) → IfSome ahead (HasPlaceFor taken.held)
placed parts bytes taken None is fits = tt
placed parts bytes taken (Some one) is fits = has-place parts taken.held is.feeds is.held one fits

pub ahead-placed : (parts : FileParts) (bytes : List ℕ) (taken : Taken) → IsTakenFor parts bytes taken →
    IfSome taken.ahead (HasPlaceFor taken.held)
ahead-placed parts bytes taken is = placed parts bytes taken taken.ahead is is.ahead

-- one record more is held
pub with-held : (parts : FileParts) (bytes : List ℕ) (taken : Taken) (one : Record) → IsTakenFor parts bytes taken →
    IsRecordFor parts one → IsTakenFor parts bytes (record taken { held = held_with taken.held one })
with-held parts bytes taken one is fits = record {
  inside = is.inside;
  counted = is.counted;
  feeds = held-counted parts taken.held is.feeds is.held one fits;
  held = held-more parts taken.held is.feeds is.held one fits;
  ahead = is.ahead;
  last = is.last;
}

-- the record ahead is held
ahead-held : (parts : FileParts) (bytes : List ℕ) (taken : Taken) (ahead : Option Record) → IsTakenFor parts bytes taken →
    IfSome ahead (IsRecordFor parts) →
    IsTakenFor parts bytes (record taken { ahead = None; held = held_after taken.held (as_list ahead) })
ahead-held parts bytes taken None is fits = record {
  inside = is.inside;
  counted = is.counted;
  feeds = is.feeds;
  held = is.held;
  ahead = tt;
  last = tt;
}
ahead-held parts bytes taken (Some one) is fits = record {
  inside = is.inside;
  counted = is.counted;
  feeds = held-counted parts taken.held is.feeds is.held one fits;
  held = held-more parts taken.held is.feeds is.held one fits;
  ahead = tt;
  last = tt;
}

pub holds-ahead : (parts : FileParts) (bytes : List ℕ) (taken : Taken) → IsTakenFor parts bytes taken →
    IsTakenFor parts bytes (record taken { ahead = None; held = held_after taken.held (as_list taken.ahead) })
holds-ahead parts bytes taken is = ahead-held parts bytes taken taken.ahead is is.ahead

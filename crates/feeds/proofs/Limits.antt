-- What a plant file and records give lies in the limits.
use Rattle.std.proofs.Common.{◌≡◌, ℕ, zero, suc, Bool, true, false, cond, eqb, leb, ◌&&◌, List, [], ◌∷◌, get_or, set, Option, Some, None, pos, subst, eqb-true, refl}
use Rattle.std.specs.List.{AllByRecursion}
use Rattle.quant.specs.Interval.{Interval, IsBand, IsInside, AllBands, AllInside, point}
use Rattle.parts.specs.Parts.{FileParts}
use Rattle.parts.specs.Given.{given_bands}
use Rattle.plant_streams.specs.Limits.{limits_at}
use Rattle.plant.specs.Sound.{IsPlant}
use Rattle.renewal.specs.Plan.{AreWithin}
use Rattle.feeds.specs.declared.record.Record.{Record}
use Rattle.feeds.specs.Records.{records_in, record_entries}
use Rattle.feeds.specs.Given.{recorded, given_by}
use Rattle.feeds.specs.Standing.{IsRecordFor}
use Rattle.feeds.proofs.Turns.{text-turn, all-fit}
use Rattle.feeds.proofs.Windows.{StaysWithin, file-within}

-- one band more
bands-set : (bands : List Interval) (c : ℕ) (band : Interval) → AllBands bands → IsBand band → AllBands (set bands c band)
bands-set [] c band all is = all
bands-set (first ∷ rest) zero band all is = (is, all.1)
bands-set (first ∷ rest) (suc c) band all is = (all.0, bands-set rest c band all.1 is)

inside-set : (bands limits : List Interval) (c : ℕ) (band : Interval) → AllInside bands limits →
    IsInside band (get_or limits c (point (pos 0))) → AllInside (set bands c band) limits
inside-set [] limits c band all is = all
inside-set (first ∷ rest) [] c band all is = absurd all
inside-set (first ∷ rest) (limit ∷ limits) zero band all is = (is, all.1)
inside-set (first ∷ rest) (limit ∷ limits) (suc c) band all is = (all.0, inside-set rest limits c band all.1 is)

both : (a b : Bool) → a && b ≡ true → (a ≡ true) × (b ≡ true)
both true b e = (refl, e)
both false b e = absurd (cc)

-- after a record, where it gives a band to this feed
one-within : (parts : FileParts) (one : Record) (f : ℕ) (here : Bool) (bands : List Interval) → IsRecordFor parts one →
    (here ≡ true → one.place.feed ≡ f) → AreWithin bands (limits_at parts f) →
    AreWithin (cond here (set bands one.place.channel one.band) bands) (limits_at parts f)
one-within parts one f true bands fits same within = record {
  numbers = bands-set bands one.place.channel one.band within.numbers fits.band;
  inside = inside-set bands (limits_at parts f) one.place.channel one.band within.inside
      (subst (λ g. IsInside one.band (get_or (limits_at parts g) one.place.channel (point (pos 0)))) (same refl) fits.inside);
}
one-within parts one f false bands fits same within = within

recorded-within : (parts : FileParts) (records : List Record) (tick f : ℕ) (bands : List Interval) →
    AllByRecursion (IsRecordFor parts) records → AreWithin bands (limits_at parts f) →
    AreWithin (recorded records tick f bands) (limits_at parts f)
recorded-within parts [] tick f bands fit within = within
recorded-within parts (one ∷ rest) tick f bands fit within = recorded-within parts rest tick f _ fit.1
    (one-within parts one f (eqb one.place.feed f && leb one.tick tick) bands fit.0
    (λ e. eqb-true one.place.feed f (both (eqb one.place.feed f) (leb one.tick tick) e).0) within)

pub given-within : (parts : FileParts) (records : Option (List ℕ)) → IsPlant parts →
    StaysWithin parts (given_by parts records)
given-within parts None plant tick f l = file-within parts plant tick f l
given-within parts (Some text) plant tick f l =
    recorded-within parts (records_in parts text).records tick f (given_bands parts tick f)
    (all-fit parts 0 (records_in parts text).records (text-turn parts (record_entries text) plant))
    (file-within parts plant tick f l)

-- What meeting a tube with another answers, and what it leaves.
use Rattle.std.specs.Prelude.{◌≡◌, ◌≢◌, ◌⊎◌, ℕ, ◌<◌, ℤ, true, false, length}
use Rattle.quant.specs.Interval.{Interval, Holds}
use Rattle.relaxation.specs.Tube.{Tube, at, is_within, HasNumbers, meet}
use Rattle.tubes.specs.Shape.{band_at}
use Rattle.tubes.specs.declared.tube.Met.{Met}
use Rattle.tubes.specs.declared.tube.Met.TheVariants as met

-- a number lies in both
abbrev pub HasCommon : Interval → Interval → Type 0
HasCommon A B = (z : ℤ) × Holds A z × Holds B z

-- the place comes before the other one: by the tick, and at one tick by the channel
abbrev pub IsEarlier : ℕ → ℕ → ℕ → ℕ → Type 0
IsEarlier s d t c = (s < t) ⊎ ((s ≡ t) × (d < c))

-- the first place at which two tubes have no number in common
pub record IsFirstEmpty (A B : Tube) (t c : ℕ) : Type 0 where
  pub tick : t < length A
  pub channel : c < length (at A t)
  pub empty : HasCommon (band_at A t c) (band_at B t c) → ⊥
  pub first : (s d : ℕ) → s < length A → d < length (at A s) → IsEarlier s d t c →
      HasCommon (band_at A s d) (band_at B s d)

-- the first place at which two tubes have different bands
pub record IsFirstDifference (A B : Tube) (t c : ℕ) : Type 0 where
  pub tick : t < length A
  pub channel : c < length (at A t)
  pub differ : band_at A t c ≢ band_at B t c
  pub first : (s d : ℕ) → s < length A → d < length (at A s) → IsEarlier s d t c → band_at A s d ≡ band_at B s d

-- The meet has a number at each place, and is left where the tube does not lie in the other already; or it is empty at a
-- first place, and the tube stays.
abbrev pub Meets : Met → Tube → Tube → Tube → Type 0
Meets met.Narrowed old other new = HasNumbers (meet old other) × (is_within old other ≡ false) × (new ≡ meet old other)
Meets met.Same old other new = HasNumbers (meet old other) × (is_within old other ≡ true) × (new ≡ old)
Meets (met.Empty tick channel) old other new = IsFirstEmpty old other tick channel × (new ≡ old)

-- Words of the proofs: a reader of the contracts needs none of them.
-- A feed's tube that is filled tick by tick.
use Rattle.std.specs.Prelude.{◌≡◌, ℕ, ◌+◌, ◌<◌, length}
use Rattle.relaxation.specs.Tube.{Tube, at}
use Rattle.parts.specs.declared.feeds.FeedKind.{FeedKind}
use Rattle.parts.specs.Given.{kind_bands}

-- the tube has n ticks with a band for each channel of the feed, and the given bands at those before this one
pub record IsGivenBefore (kind : FeedKind) (first n tick : ℕ) (tube : Tube) : Type 0 where
  pub counted : length tube ≡ n
  pub channels : (t : ℕ) → t < n → length (at tube t) ≡ length (kind_bands first kind)
  pub given : (t : ℕ) → t < tick → at tube t ≡ kind_bands (first + t) kind

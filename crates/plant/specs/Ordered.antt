-- Feeds whose pieces are in order, so that one is in force at each tick.
use Rattle.parts.specs.declared.feeds.FeedBand.{FeedBand}
use Rattle.parts.specs.declared.feeds.FeedBand.TheVariants as feed_band
use Rattle.parts.specs.declared.feeds.FeedKind.{FeedKind}
use Rattle.parts.specs.declared.feeds.FeedKind.TheVariants as feed_kind
use Rattle.parts.specs.InForce.{AreInOrder}

abbrev pub IsOrdered : FeedBand → Type 0
IsOrdered (feed_band.Constant band) = Prim.Unit {0}
IsOrdered (feed_band.Pieces pieces) = AreInOrder pieces

-- the bands of each of its channels
abbrev pub AreOrdered : FeedKind → Type 0
AreOrdered (feed_kind.Material flow conc temp) = IsOrdered flow × IsOrdered conc × IsOrdered temp
AreOrdered (feed_kind.Signal value) = IsOrdered value

-- The rest of the pieces gives the band of all of them.
use Rattle.std.proofs.Common.{◌≡◌, pos, drop}
use Rattle.quant.specs.Interval.{point}
use Rattle.parts.specs.Given.{latest}
use Rattle.parts.proofs.feeds.latest.Given as goal

abbrev pub invariant-loop-piece : goal.invariant-loop-piece
invariant-loop-piece l = latest l.tick l.band (drop l.piece-index l.pieces) ≡ latest l.tick (point (pos 0)) l.pieces

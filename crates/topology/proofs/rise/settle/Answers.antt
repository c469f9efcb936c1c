use Rattle.std.proofs.Common.{refl, arith}
use Rattle.topology.proofs.Ascents.{sum_within}
use Rattle.topology.proofs.rise.settle.Goals as goal

pub loop-smaller : goal.loop-smaller
loop-smaller c =
    omega (
      arith,
      c.in-Raised.ensures.raised refl,
      sum_within c.args.links.now c.raise_all.new.ranks c.in-Raised.ensures.rising,
    )

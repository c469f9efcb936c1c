-- The library's clamp is the definition.
use Rattle.std.proofs.Common.{arith}
use Rattle.std.proofs.lemmas.Int.{ints, clamps}
use Rattle.quant.specs.Operation.{clamp}
use Rattle.quant.proofs.Bands.{ends_same}
use Rattle.quant.proofs.band.clamp.Goals as goal

pub returns-clause-value : goal.returns-clause-value
unfolding clamp
returns-clause-value c =
    let e = ends_same _ c.args.limits c.limits.view_is in
    omega (arith, ints, clamps)

use Rattle.std.proofs.Common.{◌<◌, length, arith}
use Rattle.tubes.proofs.Flats.{each_same}
use Rattle.tubes.proofs.flat.first_difference.Goals as goal

pub returns : goal.returns
returns c = each_same _ _ c.requires (λ j h. c.loop-place.invariant j (let there : j < length c.args.bands.now
    = h in omega arith))

use Rattle.tubes.proofs.Cuts.{repeated_more}
use Rattle.tubes.proofs.flat.repeated.Goals as goal

pub loop-preserved : goal.loop-preserved
loop-preserved c = repeated_more c.args.bands.now c.loop.made.items _ _ c.loop.invariant c.in_ok-extend_from_slice.ensures.items

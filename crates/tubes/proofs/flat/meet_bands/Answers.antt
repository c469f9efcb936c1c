use Rattle.tubes.proofs.Flats.{partly_common, partly_next, partly_done}
use Rattle.tubes.proofs.flat.meet_bands.Goals as goal

pub common-requires : goal.common-requires
common-requires c = partly_common c.args.bands.now c.args.others.now _ _ _ _ c.loop-place-test.true c.requires.shape c.requires.common c.loop-place.invariant
    c.index-bands-place.is c.index-others-place.is

pub loop-place-preserved : goal.loop-place-preserved
loop-place-preserved c = partly_next c.args.bands.now c.args.others.now _ _ _ _ _ c.loop-place-test.true c.requires.shape c.loop-place.invariant
    c.index-bands-place.is c.index-others-place.is c.common.ensures

pub returns : goal.returns
returns c = partly_done c.args.bands.now c.args.others.now _ _ c.requires.shape c.loop-place-test.false c.loop-place.auto.place-end c.loop-place.invariant

use Rattle.std.proofs.Common.{◌≡◌, subst, sym, length, arith}
use Rattle.quant.specs.Interval.{IsBand}
use Rattle.relaxation.specs.Tube.{meet_bands}
use Rattle.tubes.proofs.Flats.{common_at, meet_counted, each_band, has_yes, has_no, one_more}
use Rattle.tubes.proofs.flat.first_empty.Goals as goal

pub returns-then-not-have_common : goal.returns-then-not-have_common
returns-then-not-have_common c = (
  c.loop-place-test.true,
  (λ b. has_no _ (sym (c.if-not-have_common.ensures)) (subst IsBand
      (common_at c.args.bands.now c.args.others.now _ _ _ c.loop-place-test.true c.requires c.index-bands-place.is c.index-others-place.is) b)),
  c.loop-place.invariant,
)

pub loop-place-preserved : goal.loop-place-preserved
loop-place-preserved c = one_more _ _ c.loop-place.invariant (subst IsBand
    (sym (common_at c.args.bands.now c.args.others.now _ _ _ c.loop-place-test.true c.requires c.index-bands-place.is c.index-others-place.is))
    (has_yes _ (sym (c.if-not-have_common.ensures))))

pub returns : goal.returns
returns c = each_band _ (λ j h. c.loop-place.invariant j
    (let e : length (meet_bands c.args.bands.now c.args.others.now) ≡ length c.args.bands.now = meet_counted _ _ c.requires in omega arith))

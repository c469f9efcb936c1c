use Rattle.std.proofs.Common.{subst}
use Rattle.plant.specs.Sound.{IsPlant}
use Rattle.window_accept.proofs.Making.{opening-session}
use Rattle.window_accept.proofs.session.Session.open.Goals as goal

pub invariant_of-result : goal.invariant_of-result
invariant_of-result c = opening-session c.args.plant c.in_ok-carried.carried (subst IsPlant c.plant.view_is c.plant.invariant.plant)
    c.in_ok-carried.ensures

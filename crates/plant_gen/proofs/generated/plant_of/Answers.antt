use Rattle.plant_gen.proofs.Ranges.{made_in_range}
use Rattle.plant_gen.proofs.generated.plant_of.Goals as goal

pub invariant_of-result : goal.invariant_of-result
invariant_of-result c =
    made_in_range c.args.count c.limits.result c.in_ok-feeds.field-0 c.in_ok-units.field-0 c.limits.ensures
    c.in_ok-feeds.ensures c.in_ok-units.ensures c.requires.some c.requires.few

-- The stream's source is an output that its unit has.
use Rattle.std.proofs.Common.{◌∙◌, ap, subst, arith}
use Rattle.flowsheet.specs.Plant.{IsOrigin}
use Rattle.plant.specs.PlantOf.{plant_of, origin_in}
use Rattle.plant.proofs.Lookups.{units-counted}
use Rattle.relax_core.specs.Stepping.{IsOutputOf}
use Rattle.relax_core.proofs.givers.giver.Goals as goal

pub unreachable-requires : goal.unreachable-requires
unreachable-requires c = subst IsOutputOf (c.source_of.ensures.origin ∙ ap origin_in c.in-Feed.is) c.requires.given

pub returns-clause-port : goal.returns-clause-port
returns-clause-port c =
    let parts = c.args.plan.now.parts in
    let there = subst (IsOrigin (plant_of parts)) (ap origin_in c.in-Port.is) c.source_of.ensures.there in
    record {
      stream = c.requires.stream;
      origin = c.source_of.ensures.origin ∙ ap origin_in c.in-Port.is;
      unit = omega (arith, units-counted parts, there.0);
      output = there.1;
    }

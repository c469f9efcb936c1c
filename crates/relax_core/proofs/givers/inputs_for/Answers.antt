-- The source of the stream says where it comes from.
use Rattle.std.proofs.Common.{◌∙◌, ap, sym, subst, arith}
use Rattle.flowsheet.specs.Plant.{IsOrigin}
use Rattle.plant.specs.PlantOf.{plant_of, origin_in}
use Rattle.plant.proofs.Lookups.{units-counted}
use Rattle.relax_core.specs.Stepping.{IsOutputOf, reads_from}
use Rattle.relax_core.proofs.givers.inputs_for.Goals as goal

pub reads-requires : goal.reads-requires
reads-requires c =
    let parts = c.args.plan.now.parts in
    let there = subst (IsOrigin (plant_of parts)) (ap origin_in c.in-Port.is) c.source_of.ensures.there in
    omega (arith, units-counted parts, there.0)

pub returns-in-Feed-clause-feeds : goal.returns-in-Feed-clause-feeds
returns-in-Feed-clause-feeds c = subst IsOutputOf (c.source_of.ensures.origin ∙ ap origin_in c.in-Feed.is)

pub returns-in-Port-clause-given : goal.returns-in-Port-clause-given
returns-in-Port-clause-given c = subst IsOutputOf (sym (c.source_of.ensures.origin ∙ ap origin_in c.in-Port.is)) tt

pub returns-in-Port-clause-reads : goal.returns-in-Port-clause-reads
returns-in-Port-clause-reads c = c.reads.ensures.reads
    ∙ ap (reads_from c.args.plan.now) (sym (c.source_of.ensures.origin ∙ ap origin_in c.in-Port.is))

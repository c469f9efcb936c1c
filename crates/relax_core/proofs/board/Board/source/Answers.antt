use Rattle.std.proofs.Common.{◌≡◌, ◌<◌, sym, subst, length}
use Rattle.flowsheet.specs.Plant.{origin_of}
use Rattle.plant_streams.specs.Streams.{streams_of}
use Rattle.plant.specs.PlantOf.{plant_of, origin_in}
use Rattle.renewal.specs.Plan.{PlanOf}
use Rattle.relax_core.proofs.board.Board.source.Goals as goal

pub source_of-requires : goal.source_of-requires
source_of-requires c =
    subst (λ (plan : PlanOf). c.args.stream < length (streams_of plan.parts)) (sym c.plan.ensures.plan) c.requires

pub returns : goal.returns
returns c =
    subst (λ (plan : PlanOf). origin_of (plant_of plan.parts) c.args.stream ≡ origin_in c.source_of.result)
    c.plan.ensures.plan c.source_of.ensures.origin

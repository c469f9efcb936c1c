-- The stream that stands at the place is the plan's.
use Rattle.std.proofs.Common.{◌<◌, ◌∙◌, ℕ, ap, sym, subst, refl}
use Rattle.flowsheet.specs.Plant.{IsOrigin}
use Rattle.plant_streams.specs.Streams.{streams_of}
use Rattle.plant.specs.PlantOf.{plant_of}
use Rattle.plant.proofs.Lookups.{streams-counted}
use Rattle.plant.proofs.PlantLaws.{parts-ranked}
use Rattle.relax_core.proofs.Turning.{origin-read}
use Rattle.relax_core.proofs.givers.source_of.Goals as goal

pub returns-clause-origin : goal.returns-clause-origin
returns-clause-origin c = origin-read c.args.plan.now.parts _ c.args.stream _ _ c.requires
    (c.streams.ensures ∙ ap streams_of c.plant.ensures.plant) refl

pub returns-clause-there : goal.returns-clause-there
returns-clause-there c =
    let parts = c.args.plan.now.parts in
    let origin = origin-read parts _ c.args.stream _ _ c.requires
    (c.streams.ensures ∙ ap streams_of c.plant.ensures.plant) refl in
    subst (IsOrigin (plant_of parts)) origin
    ((parts-ranked parts c.plant.ensures.plan.plant).origins c.args.stream
    (subst (λ (n : ℕ). c.args.stream < n) (sym (streams-counted parts)) c.requires))

use Rattle.std.proofs.Common.{◌∙◌, ◌<◌, ℕ, List, length, ap, sym, subst, arith}
use Rattle.std.specs.List.{AllByRecursion}
use Rattle.plant_streams.specs.Streams.{streams_of}
use Rattle.renewal.proofs.Givers.{reads-are}
use Rattle.renewal.proofs.Counts.{reads-few}
use Rattle.relax_core.proofs.givers.reads.Goals as goal

pub returns-clause-reads : goal.returns-clause-reads
returns-clause-reads c = c.inputs.ensures ∙ sym (reads-are c.args.plan.now c.args.unit c.unit.result.now c.unit.ensures)

pub returns-clause-few : goal.returns-clause-few
returns-clause-few c =
    let plan = c.args.plan.now in
    omega (
      arith,
      ap length (c.inputs.ensures ∙ sym (reads-are plan c.args.unit c.unit.result.now c.unit.ensures)),
      reads-few plan c.args.unit c.unit.ensures.plan_is c.requires,
    )

pub returns-clause-streams : goal.returns-clause-streams
returns-clause-streams c =
    subst (λ (streams : List ℕ). AllByRecursion (λ s. s < length (streams_of c.args.plan.now.parts)) streams)
    (sym c.inputs.ensures) c.unit.ensures.sound.reads

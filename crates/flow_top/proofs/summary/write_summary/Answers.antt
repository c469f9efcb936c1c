use Rattle.std.proofs.Common.{refl, None}
use Rattle.demo.specs.Summary.{summary}
use Rattle.plant_gen.specs.Generated.{generated_parts}
use Rattle.flow_top.specs.declared.words.Command.TheVariants.{Demo}
use Rattle.flow_top.proofs.Courses.{demo_course, demo-work, summary-written}
use Rattle.flow_top.proofs.Work.{only-ended}
use Rattle.flow_top.proofs.summary.write_summary.Goals as goal

pub returns : goal.returns
returns g c extra trace still =
    let stages = c.args.stages in
    let plant = c.generated_plants_are_plants.ensures.plants stages c.requires.some c.requires.few in
    let ended = rw (c.as_bytes.ensures, c.in_ok-text.ensures) at c.write_piece.ensures.ended in
    only-ended (Demo stages) (generated_parts stages) (demo_course stages) (summary stages) extra _ trace c.write_piece.result
    (demo-work stages (generated_parts stages) None plant) refl still refl (summary-written stages) refl ended

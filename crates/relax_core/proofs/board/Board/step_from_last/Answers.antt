-- The unit that gives the stream is there and reads few streams, and no version that is read is missing.
use Rattle.std.proofs.Common.{take, subst, Err}
use Rattle.relaxation.specs.Core.{Step}
use Rattle.relax_core.specs.Stepping.{Steps, reads_for}
use Rattle.relax_core.specs.declared.board.StepFault.{StepFault}
use Rattle.renewal.proofs.Counts.{reads-few}
use Rattle.relax_core.proofs.Turning.{giver-there, giver-reads, last-missing}
use Rattle.relax_core.proofs.board.Board.step_from_last.Goals as goal

pub last_numbers-count-requires-clause-unit : goal.last_numbers-count-requires-clause-unit
last_numbers-count-requires-clause-unit c =
    giver-there c.args.self.now.plan c.args.stream c.args.unit c.plan.ensures.board.plan c.requires.stream
    c.requires.given

pub last_numbers-count-requires-clause-room : goal.last_numbers-count-requires-clause-room
last_numbers-count-requires-clause-room c =
    reads-few c.args.self.now.plan c.args.unit c.plan.ensures.board.plan
    (giver-there c.args.self.now.plan c.args.stream c.args.unit c.plan.ensures.board.plan c.requires.stream
    c.requires.given)

pub unreachable-requires : goal.unreachable-requires
unreachable-requires c =
    let board = c.args.self.now in
    let numbers = take c.last_numbers-count.result c.last_numbers-count.new.numbers in
    let step : Step = record { stream = c.args.stream; inputs = numbers } in
    let there = giver-there board.plan c.args.stream c.args.unit c.plan.ensures.board.plan c.requires.stream
    c.requires.given in
    let told = subst (λ (fault : StepFault). Steps (Err fault) board step c.step.new.self)
    c.in-Err-NoSuchVersion.field-0-is c.in-Err-NoSuchVersion.ensures in
    last-missing board c.plan.ensures.board c.args.unit there numbers (reads_for board.plan c.args.stream)
    (giver-reads board.plan c.args.stream c.args.unit c.requires.given) c.last_numbers-count.ensures.numbers
    _ _ _ told.0

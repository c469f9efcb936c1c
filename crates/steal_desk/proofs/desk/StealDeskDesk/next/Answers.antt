use Rattle.std.proofs.Common.{◌*◌, ◌<◌, subst, sym, arith}
use Rattle.turn_desk.specs.declared.passes.DeskPass.{DeskPass}
use Rattle.turn_desk.specs.Passes.{pass_view}
use Rattle.turn_desk.specs.Turns.{left_of}
use Rattle.turn_desk.proofs.Drawn.{unit_and_less}
use Rattle.steal_desk.proofs.desk.StealDeskDesk.next.Goals as goal

pub returns-clause-unit : goal.returns-clause-unit
returns-clause-unit c =
    let units = c.args.self.now.turns.units in
    let old = pass_view c.args.seat.now.pass in
    let drawn = unit_and_less units c.in_ok-number.number old (pass_view c.draw.new.pass) (omega arith) c.in_ok-number.ensures.draws in
    (omega arith, subst (λ (pass : DeskPass). left_of (32 * units) (pass_view pass) < left_of (32 * units) old) (sym c.take.ensures.rest.1) drawn.1)

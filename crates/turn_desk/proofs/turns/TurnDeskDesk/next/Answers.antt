use Rattle.std.proofs.Common.{rules}
use Rattle.turn_desk.specs.Passes.{pass_view}
use Rattle.turn_desk.proofs.Drawn.{unit_and_less}
use Rattle.turn_desk.proofs.turns.TurnDeskDesk.next.Goals as goal

pub returns-in-Some-clause-unit : goal.returns-in-Some-clause-unit
returns-in-Some-clause-unit c = unit_and_less c.args.self.now.units c.in-Some.number (pass_view c.args.seat.now) (pass_view c.draw.new.pass) (search rules) c.in-Some.ensures.draws

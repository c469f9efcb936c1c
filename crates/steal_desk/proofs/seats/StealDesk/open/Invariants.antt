use Rattle.steal_desk.specs.Making.{units_among}
use Rattle.steal_desk.proofs.seats.StealDesk.open.Given as goal

abbrev pub ghost-join : goal.ghost-join
ghost-join a = units_among a.seats.now

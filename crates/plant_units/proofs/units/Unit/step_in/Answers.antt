-- There is room for as many states as the unit has.
use Rattle.std.proofs.Common.{◌≤◌, ◌∙◌, length, ap, arith}
use Rattle.std.proofs.lemmas.List.{length-take-le}
use Rattle.quant.proofs.Calls.{inside-length}
use Rattle.plant_units.specs.Units.{state_limits_of}
use Rattle.plant_units.proofs.units.Unit.step_in.Goals as goal

pub next-requires-clause-room : goal.next-requires-clause-room
next-requires-clause-room c =
    let e = ap length c.as_slice.ensures in
    let l : length c.as_slice.result.now ≤ length c.args.room.now = omega (arith, c.requires.room) in
    length-take-le (length c.as_slice.result.now) c.args.room.now l
    ∙ e ∙ inside-length c.args.state.now (state_limits_of c.args.self.now) c.requires.states

-- The renewal from versions that are there is remembered in its room.
use Rattle.std.proofs.Common.{◌≡◌, ◌<◌, List, length, sym, subst, IfOk}
use Rattle.quant.specs.Interval.{Interval}
use Rattle.plant_units.specs.Units.{units_of}
use Rattle.relaxation.specs.Core.{AreThere}
use Rattle.renewal.specs.Room.{planned}
use Rattle.relax_core.specs.Board.{BoardOf}
use Rattle.relax_core.proofs.Boards.{board_of, all-within}
use Rattle.relax_core.proofs.Carried.{states-renewed}
use Rattle.relax_core.proofs.Kept.{kept-renewed}
use Rattle.relax_core.proofs.board.Board.states_from.Goals as goal

pub renew-requires-clause-within : goal.renew-requires-clause-within
renew-requires-clause-within c =
    all-within (board_of c.self.inside.plan.now c.self.inside.lines c.self.inside.rows.items) c.self.invariant.steps

pub invariant_of-self : goal.invariant_of-self
invariant_of-self c =
    kept-renewed (board_of c.self.inside.plan.now c.self.inside.lines c.self.inside.rows.items)
    c.self.inside.rooms.items c.self.inside.met.items c.self.inside.order.items c.self.invariant
    c.args.unit
    (subst (λ (board : BoardOf). c.args.unit < length (units_of board.plan.parts)) (sym c.self.view_is)
    c.requires.unit)
    c.args.versions.now
    (subst (λ (board : BoardOf). AreThere board.versions (planned board.plan c.args.unit).reads c.args.versions.now)
    (sym c.self.view_is) c.requires.there)
    c.renew.new.self c.renew.ensures.room c.renew.ensures.renewed c.renew.ensures.kept

pub returns-clause-states : goal.returns-clause-states
returns-clause-states c =
    subst (λ (row : List Interval). IfOk c.from_slice.result (λ states. states ≡ row))
    (states-renewed (board_of c.self.inside.plan.now c.self.inside.lines c.self.inside.rows.items) c.args.self.now
    c.self.view_is c.args.unit c.args.versions.now c.renew.new.self.outputs c.states.result.now c.ticks.result
    c.row.result.now c.renew.ensures.renewed c.states.ensures c.ticks.ensures c.row.ensures)
    c.from_slice.ensures

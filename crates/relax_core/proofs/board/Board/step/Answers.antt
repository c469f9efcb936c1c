-- What stands before the append is the renewal of a legal step, and what it leaves is the board after the step.
use Rattle.std.proofs.Common.{ℕ, List, sym, subst, arith, Ok}
use Rattle.std.specs.Prelude.{slice_set, Some}
use Rattle.relaxation.specs.Core.{named}
use Rattle.renewal.specs.Room.{planned}
use Rattle.relax_core.specs.Board.{BoardOf}
use Rattle.relax_core.specs.Rooms.{IsKept}
use Rattle.relax_core.specs.Stepping.{Steps}
use Rattle.relax_core.proofs.Boards.{board_of, streams-there, all-within, line-there, version-there}
use Rattle.relax_core.proofs.Renewals.{ports-counted}
use Rattle.relax_core.proofs.Kept.{kept-renewed, kept-step, kept-numbers}
use Rattle.relax_core.proofs.Steps.{renewed-makes, made-numbers, appended-steps}
use Rattle.relax_core.proofs.board.Board.step.Goals as goal

pub missing-requires-clause-streams : goal.missing-requires-clause-streams
missing-requires-clause-streams c =
    streams-there (board_of c.self.inside.plan.now c.self.inside.lines c.self.inside.rows.items) c.self.invariant.steps

pub renew-requires-clause-within : goal.renew-requires-clause-within
renew-requires-clause-within c =
    all-within (board_of c.self.inside.plan.now c.self.inside.lines c.self.inside.rows.items) c.self.invariant.steps

pub port-requires : goal.port-requires
port-requires c =
    let plan = c.self.inside.plan.now in
    let u = c.giver-unit.result.0 in
    omega (
      arith,
      ports-counted plan u (named c.self.inside.lines (planned plan u).reads c.args.versions.now) c.renew.new.self.outputs
          c.renew.ensures.renewed,
      c.giver-unit.ensures.port.output,
    )

pub append-requires-clause-stream : goal.append-requires-clause-stream
append-requires-clause-stream c = line-there _ c.self.invariant.steps _ c.self.view_is c.args.stream c.requires.stream

pub append-requires-clause-some : goal.append-requires-clause-some
append-requires-clause-some c = version-there _ c.self.invariant.steps _ c.self.view_is c.args.stream c.requires.stream

-- the renewal makes the step
pub append-requires-clause-shape : goal.append-requires-clause-shape
append-requires-clause-shape c =
    (renewed-makes (board_of c.self.inside.plan.now c.self.inside.lines c.self.inside.rows.items) c.self.invariant.steps
    c.args.stream c.args.versions.now _ _ c.giver-unit.ensures.port c.in_default.ensures.missing
    c.renew.new.self.outputs c.renew.ensures.renewed c.port.result.now c.port.ensures).shape

pub append-requires-clause-numbers : goal.append-requires-clause-numbers
append-requires-clause-numbers c =
    let board = board_of c.self.inside.plan.now c.self.inside.lines c.self.inside.rows.items in
    made-numbers board c.self.invariant.steps c.args.stream c.args.versions.now c.port.result.now
    (renewed-makes board c.self.invariant.steps
    c.args.stream c.args.versions.now _ _ c.giver-unit.ensures.port c.in_default.ensures.missing
    c.renew.new.self.outputs c.renew.ensures.renewed c.port.result.now c.port.ensures)

pub invariant_of-self : goal.invariant_of-self
invariant_of-self c =
    let board = board_of c.self.inside.plan.now c.self.inside.lines c.self.inside.rows.items in
    kept-step board (slice_set c.self.inside.rooms.items c.giver-unit.result.0 c.renew.new.self)
    c.self.inside.met.items c.self.inside.order.items
    (kept-renewed board c.self.inside.rooms.items c.self.inside.met.items c.self.inside.order.items c.self.invariant
    c.giver-unit.result.0 c.giver-unit.ensures.port.unit c.args.versions.now c.in_default.ensures.missing
    c.renew.new.self c.renew.ensures.room c.renew.ensures.renewed c.renew.ensures.kept)
    c.args.stream c.args.versions.now c.port.result.now
    (renewed-makes board c.self.invariant.steps
    c.args.stream c.args.versions.now _ _ c.giver-unit.ensures.port c.in_default.ensures.missing
    c.renew.new.self.outputs c.renew.ensures.renewed c.port.result.now c.port.ensures)
    c.append.result c.append.new.lines c.append.new.rows.items c.append.ensures

pub invariant_of-self-2 : goal.invariant_of-self-2
invariant_of-self-2 c =
    let board = board_of c.self.inside.plan.now c.self.inside.lines c.self.inside.rows.items in
    let rooms = slice_set c.self.inside.rooms.items c.giver-unit.result.0 c.renew.new.self in
    subst (λ (numbers : List ℕ). IsKept (board_of c.self.inside.plan.now c.append.new.lines c.append.new.rows.items) rooms
    (slice_set c.self.inside.met.items c.args.stream (Some numbers)) c.self.inside.order.items)
    (sym c.of.ensures)
    (kept-numbers board rooms c.self.inside.met.items c.self.inside.order.items
    (kept-renewed board c.self.inside.rooms.items c.self.inside.met.items c.self.inside.order.items c.self.invariant
    c.giver-unit.result.0 c.giver-unit.ensures.port.unit c.args.versions.now c.in_default.ensures.missing
    c.renew.new.self c.renew.ensures.room c.renew.ensures.renewed c.renew.ensures.kept)
    c.args.stream c.args.versions.now c.port.result.now
    (renewed-makes board c.self.invariant.steps
    c.args.stream c.args.versions.now _ _ c.giver-unit.ensures.port c.in_default.ensures.missing
    c.renew.new.self.outputs c.renew.ensures.renewed c.port.result.now c.port.ensures)
    c.in_ok-stepped.stepped c.append.new.lines c.append.new.rows.items c.in_ok-stepped.ensures)

pub returns : goal.returns
returns c =
    let board = board_of c.self.inside.plan.now c.self.inside.lines c.self.inside.rows.items in
    subst (λ (old : BoardOf). Steps (Ok c.in_ok-stepped.stepped) old
    (record { stream = c.args.stream; inputs = c.args.versions.now })
    (board_of c.self.inside.plan.now c.append.new.lines c.append.new.rows.items)) c.self.view_is
    (appended-steps board c.self.invariant.steps c.args.stream c.args.versions.now c.port.result.now
    (renewed-makes board c.self.invariant.steps
    c.args.stream c.args.versions.now _ _ c.giver-unit.ensures.port c.in_default.ensures.missing
    c.renew.new.self.outputs c.renew.ensures.renewed c.port.result.now c.port.ensures)
    c.in_ok-stepped.stepped c.append.new.lines c.append.new.rows.items c.in_ok-stepped.ensures)

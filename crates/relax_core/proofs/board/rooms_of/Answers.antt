use Rattle.std.proofs.Common.{◌≡◌, ℕ, ◌+◌, length, sym, subst, arith}
use Rattle.plant_units.specs.Units.{units_of}
use Rattle.relax_core.proofs.Rooms.{HasRoomsBelow, rooms-more}
use Rattle.relax_core.proofs.board.rooms_of.Goals as goal

pub loop-unit-preserved : goal.loop-unit-preserved
loop-unit-preserved c = subst (HasRoomsBelow c.args.plan.now (c.loop-unit.unit + 1)) (sym c.in_ok-push.ensures.items)
    (rooms-more c.args.plan.now c.loop-unit.rooms.items _ c.loop-unit.unit c.loop-unit.invariant c.in_ok-new.ensures)

pub returns-clause-rooms : goal.returns-clause-rooms
returns-clause-rooms c =
    let plan = c.args.plan.now in
    let all : c.loop-unit.unit ≡ length (units_of plan.parts) = omega (arith, c.loop-unit-test.false, c.unit_count-unit-end.ensures.count) in
    let rooms : HasRoomsBelow plan (length (units_of plan.parts)) c.loop-unit.rooms.items =
    subst (λ (n : ℕ). HasRoomsBelow plan n c.loop-unit.rooms.items) all c.loop-unit.invariant in
    record { counted = rooms.0; each = rooms.1 }

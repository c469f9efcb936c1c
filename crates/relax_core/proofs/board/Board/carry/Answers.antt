use Rattle.std.proofs.Common.{◌∙◌}
use Rattle.relax_core.proofs.Carried.{units-more}
use Rattle.relax_core.proofs.board.Board.carry.Goals as goal

pub loop-unit-preserved : goal.loop-unit-preserved
loop-unit-preserved c = (
  c.in_ok-carry_unit.ensures.stays ∙ c.loop-unit.invariant.0,
  units-more c.args.self.now c.loop-unit.self c.loop-unit.invariant.0 c.loop-unit.unit c.loop-unit.units.items _
      c.in_ok-carry_unit.field-0 c.loop-unit.invariant.1 c.in_ok-carry_unit.ensures.carried c.in_ok-push.ensures.items,
)

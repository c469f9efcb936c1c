-- The stages, and then the registers.
use Rattle.std.proofs.Common.{arith}
use Rattle.column_section.proofs.Columns.{limits-length, step-numbers}
use Rattle.column_section.proofs.column.ColumnKind.next_point.Goals as goal

pub split_at_mut-contents-requires : goal.split_at_mut-contents-requires
split_at_mut-contents-requires c = omega (arith, limits-length c.args.self.now, c.requires.room)

pub fill-requires-clause-step : goal.fill-requires-clause-step
fill-requires-clause-step c = step-numbers _ _ _ c.requires.sound c.requires.states c.requires.inputs

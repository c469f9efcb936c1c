-- The states of the units so far; the board stays.
use Rattle.std.proofs.Common.{◌≡◌, map}
use Rattle.std.specs.List.{range_with_len}
use Rattle.relax_core.specs.UnitStates.{carried_by}
use Rattle.relax_core.proofs.board.Board.carry.Given as goal

abbrev pub invariant-loop-unit : goal.invariant-loop-unit
invariant-loop-unit l = (l.self ≡ l.fn.self) × (l.units.items ≡ map (carried_by l.fn.self) (range_with_len 0 l.unit))

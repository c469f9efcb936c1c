-- The streams so far have had their turns.
use Rattle.std.proofs.Common.{take}
use Rattle.relax_core.specs.Turns.{IsSweeping}
use Rattle.relax_core.proofs.board.Board.sweep.Given as goal

abbrev pub invariant-loop-stream : goal.invariant-loop-stream
invariant-loop-stream l = IsSweeping l.initial.self (take l.stream-index l.order) l.narrowed l.self

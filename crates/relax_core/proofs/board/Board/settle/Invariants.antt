-- As many sweeps as were made.
use Rattle.relax_core.proofs.Settled.{IsSettling}
use Rattle.relax_core.proofs.board.Board.settle.Given as goal

abbrev pub invariant-loop : goal.invariant-loop
invariant-loop l = IsSettling l.initial.self l.counter l.self

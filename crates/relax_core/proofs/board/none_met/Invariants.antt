-- None for each stream so far.
use Rattle.std.proofs.Common.{◌≡◌, replicate, None}
use Rattle.relax_core.proofs.board.none_met.Given as goal

abbrev pub invariant-loop : goal.invariant-loop
invariant-loop l = l.met.items ≡ replicate l.index None

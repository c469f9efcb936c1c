use Rattle.std.proofs.Common.{length}
use Rattle.flow_cli.proofs.stream_sink.write_whole.Given as goal

abbrev pub invariant-loop-rest : goal.invariant-loop-rest
invariant-loop-rest g l = Unit {0}

-- what is left to write
abbrev pub decreases-loop-rest : goal.decreases-loop-rest
decreases-loop-rest g l = length l.rest

use Rattle.std.proofs.Common.{◌≡◌, ◌++◌, take}
use Rattle.workers.specs.Answers.{answers}
use Rattle.workers.proofs.gathering.append_made.Given as goal

abbrev pub invariant-loop-k : goal.invariant-loop-k
invariant-loop-k l = l.gathered.items ≡ l.fn.gathered.items ++ answers l.stream (take l.k l.history)

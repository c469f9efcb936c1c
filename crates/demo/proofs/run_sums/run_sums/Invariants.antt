use Rattle.demo.proofs.Passing.{IsSumming}
use Rattle.demo.proofs.run_sums.run_sums.Given as goal

-- the windows so far are added up
abbrev pub invariant-loop : goal.invariant-loop
invariant-loop g l = IsSumming l.fn.session.parts l.counter l.session l.feeds l.sums

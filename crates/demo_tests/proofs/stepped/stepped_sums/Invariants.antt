use Rattle.plant.specs.Rows.{IsRow}
use Rattle.demo_tests.proofs.stepped.stepped_sums.Given as goal

-- the row is one of the plant's
abbrev pub invariant-loop-tick : goal.invariant-loop-tick
invariant-loop-tick l = IsRow l.plant l.row

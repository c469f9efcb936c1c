use Rattle.std.proofs.Common.{◌≡◌, ℕ, ◌<◌, get_or}
use Rattle.quant.specs.Term.{state}
use Rattle.column_section.specs.Column.{stage}
use Rattle.column_section.proofs.column.Column.fill.Given as goal

-- the stages before this one are done
abbrev pub invariant-loop-i : goal.invariant-loop-i
invariant-loop-i g l = (k : ℕ) → k < l.i →
    get_or l.contents k (g.R.Reading.read l.state l.ins (state 0)) ≡ g.R.Reading.read l.state l.ins (stage l.self k)

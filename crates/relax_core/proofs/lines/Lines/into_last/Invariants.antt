-- The newest versions of the lines so far are taken, and there is room for those of the rest.
use Rattle.std.proofs.Common.{◌≡◌, ◌++◌, length, map, ◌+◌, ◌≤◌}
use Rattle.std.specs.Vec.{vec_len, vec_capacity}
use Rattle.relax_core.specs.declared.line.Line.{Line}
use Rattle.relax_core.proofs.Lasts.{last_in}
use Rattle.relax_core.proofs.lines.Lines.into_last.Given as goal

abbrev pub invariant-loop-line : goal.invariant-loop-line
invariant-loop-line l =
    (goal.iterator-loop-line).can_next l.line-iterator ×
    (goal.iterator-loop-line).is_finite l.line-iterator ×
    (l.tubes.items ++ map (λ (line : Line). line.newest) l.line-iterator.rest.items ≡ map last_in l.fn.self) ×
    (vec_len l.tubes + length l.line-iterator.rest.items ≤ vec_capacity l.tubes)

-- The tube is the oldest version that the changes so far lead back to.
use Rattle.std.proofs.Common.{◌≡◌, ◌≤◌, drop}
use Rattle.relax_core.specs.Versions.{oldest}
use Rattle.relax_core.proofs.line.Line.read.Given as goal

abbrev pub invariant-loop-place : goal.invariant-loop-place
invariant-loop-place l =
    (l.number ≤ l.place)
    × (l.into ≡ oldest l.replaced l.self.newest (drop l.place l.self.changes.items))

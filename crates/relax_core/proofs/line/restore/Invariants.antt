-- What is left to restore leads to what all of it leads to, and there are bands for it.
use Rattle.std.proofs.Common.{◌≡◌, ◌≤◌, length}
use Rattle.relax_core.specs.Versions.{bands_from, restored}
use Rattle.relax_core.proofs.line.restore.Given as goal

abbrev pub invariant-loop-tick : goal.invariant-loop-tick
invariant-loop-tick l =
    (restored l.tick l.tube l.rest ≡ restored l.from l.fn.tube l.kept)
    × (length (bands_from l.tick l.tube) ≤ length l.rest)
    × (length l.tube ≡ length l.fn.tube)

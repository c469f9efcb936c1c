-- The versions at the ports so far are there.
use Rattle.std.proofs.Common.{ℕ, ◌<◌, length, slice_index}
use Rattle.relaxation.specs.Core.{versions_of}
use Rattle.relax_core.proofs.making.first_missing.Given as goal

abbrev pub invariant-loop-input : goal.invariant-loop-input
invariant-loop-input l =
    (j : ℕ) → j < l.input → slice_index l.versions j < length (versions_of l.lines (slice_index l.reads j))

use Rattle.std.proofs.Common.{◌≡◌, ℕ, ◌<◌, ◌≤◌, true, false, sum}
use Rattle.topology.specs.Rising.{AreRising, IsRankAt}
use Rattle.topology.proofs.rise.raise_all.Given as goal

-- the units so far are right where nothing was raised, and else the sum is greater
abbrev pub invariant-loop-unit : goal.invariant-loop-unit
invariant-loop-unit l = record {
  rising : AreRising l.links l.ranks;
  right : l.raised ≡ false → (u : ℕ) → u < l.unit → IsRankAt l.links l.ranks u;
  grown : sum l.fn.ranks ≤ sum l.ranks;
  greater : l.raised ≡ true → sum l.fn.ranks < sum l.ranks;
}

-- Those behind the index can be adopted on the board so far, and those before it have their rows on it.
use Rattle.std.proofs.Common.{◌≡◌, ◌++◌, map, drop, take}
use Rattle.relaxation.specs.Gathered.{CanAdoptAll}
use Rattle.renewal.specs.Plan.{window_of}
use Rattle.relax_core.specs.Adopting.{made_row, made_version}
use Rattle.window_accept.proofs.adopting.adopt_all.Given as goal

abbrev pub invariant-loop-version : goal.invariant-loop-version
invariant-loop-version l = record {
  plan : l.board.plan ≡ l.initial.board.plan;
  rows : l.board.rows ≡ l.initial.board.rows ++ map made_row (take l.version-index l.made);
  can : CanAdoptAll (window_of l.board.plan) l.board.versions (map made_version (drop l.version-index l.made));
}

-- The tubes so far have their bands, and the rest of the bands fills the others.
use Rattle.std.proofs.Common.{◌≡◌, ◌++◌, take, drop}
use Rattle.renewal.specs.Ticks.{spread_at, AreFilled}
use Rattle.renewal.proofs.rooms.spread_at.Given as goal

abbrev pub invariant-loop-tube : goal.invariant-loop-tube
invariant-loop-tube l = AreFilled l.tick l.rest (drop l.tube-index l.tubes)
    × (take l.tube-index l.tubes ++ spread_at l.tick l.rest (drop l.tube-index l.tubes)
    ≡ spread_at l.tick l.outs l.fn.tubes)

-- Words of the proofs: a reader of the contracts needs none of them.
-- What one unit carries out of a window.
use Rattle.std.specs.Prelude.{ℕ, List}
use Rattle.quant.specs.Interval.{Interval}
use Rattle.relaxation.specs.Tube.{at}
use Rattle.renewal.specs.Room.{renewal_of}
use Rattle.renewal.specs.Carrying.{read_by}
use Rattle.relax_core.specs.Board.{BoardOf}
use Rattle.relax_core.specs.Settled.{window_on}

-- the states that a unit's renewal from the last versions ends with
abbrev pub carried_by : BoardOf → ℕ → List Interval
carried_by board u =
    at (renewal_of board.plan u (read_by board.plan u (window_on board).tubes)).states board.plan.ticks

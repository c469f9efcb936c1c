-- The last versions of what the unit reads are there, and few.
use Rattle.std.proofs.Common.{◌≡◌, ◌∙◌, List, ap, sym, subst, IfOk}
use Rattle.quant.specs.Interval.{Interval}
use Rattle.relaxation.specs.Tube.{Tube, at}
use Rattle.relaxation.specs.Core.{named, AreThere}
use Rattle.renewal.specs.Room.{planned, renewal_of}
use Rattle.relax_core.proofs.Carried.{last-there, last-read}
use Rattle.renewal.proofs.Counts.{reads-few}
use Rattle.relax_core.proofs.board.Board.carry_unit.Goals as goal

pub last_numbers-count-requires-clause-room : goal.last_numbers-count-requires-clause-room
last_numbers-count-requires-clause-room c =
    reads-few c.args.self.now.plan c.args.unit c.plan.ensures.board.plan c.requires

pub states_from-requires-clause-there : goal.states_from-requires-clause-there
states_from-requires-clause-there c =
    let board = c.args.self.now in
    subst (AreThere board.versions (planned board.plan c.args.unit).reads) (sym c.last_numbers-count.ensures.numbers)
    (last-there board c.plan.ensures.board c.args.unit c.requires)

pub returns-clause-carried : goal.returns-clause-carried
returns-clause-carried c =
    let board = c.args.self.now in
    let reads = (planned board.plan c.args.unit).reads in
    subst (λ (states : List Interval). IfOk c.states_from.result (λ made. made ≡ states))
    (ap (λ (tubes : List Tube). at (renewal_of board.plan c.args.unit tubes).states board.plan.ticks)
    (ap (named board.versions reads) c.last_numbers-count.ensures.numbers
    ∙ last-read board c.plan.ensures.board c.args.unit c.requires))
    c.states_from.ensures.states

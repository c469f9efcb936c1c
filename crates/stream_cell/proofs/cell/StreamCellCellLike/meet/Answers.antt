use Rattle.std.proofs.Common.{inr, subst}
use Rattle.stream_cell.specs.declared.head.CellMet.{CellMet}
use Rattle.stream_cell.specs.Histories.{Judges}
use Rattle.stream_cell.specs.Seats.{opening_of, pass_view}
use Rattle.stream_cell.specs.Kinds.{reading}
use Rattle.stream_cell.specs.Steps.{counting}
use Rattle.stream_cell.proofs.Answering.{judges_at, meets_or_stays}
use Rattle.stream_cell.proofs.cell.StreamCellCellLike.meet.Goals as goal

pub narrow-met-requires-clause-read : goal.narrow-met-requires-clause-read
narrow-met-requires-clause-read c =
    let v = pass_view c.args.pass.now in
    let held = c.seize.ensures.held c.if-not-seize.false in
    (reading v held.0, (c.read.ensures v held.0 held.1).0)

pub release-requires : goal.release-requires
release-requires c =
    let v = pass_view c.args.pass.now in
    let held = c.seize.ensures.held c.if-not-seize.false in
    let narrowed = c.narrow-met.ensures (reading v held.0) (c.read.ensures v held.0 held.1).0 in
    (counting (reading v held.0) c.narrow-met.result narrowed.0, narrowed.1)

pub returns-clause-pass : goal.returns-clause-pass
returns-clause-pass c =
    let v = pass_view c.args.pass.now in
    let held = c.seize.ensures.held c.if-not-seize.false in
    let narrowed = c.narrow-met.ensures (reading v held.0) (c.read.ensures v held.0 held.1).0 in
    (c.release.ensures (counting (reading v held.0) c.narrow-met.result narrowed.0) narrowed.1).0

-- who meets with the turn is not busy
pub returns-clause-others : goal.returns-clause-others
returns-clause-others c = λ busy.
    let v = pass_view c.args.pass.now in
    let held = c.seize.ensures.held c.if-not-seize.false in
    let narrowed = c.narrow-met.ensures (reading v held.0) (c.read.ensures v held.0 held.1).0 in
    absurd (subst (λ (answer : CellMet). Judges answer held.0 v.number c.args.renewal.now c.args.uses.now narrowed.0) busy narrowed.2)

pub returns-clause-judges : goal.returns-clause-judges
returns-clause-judges c =
    let v = pass_view c.args.pass.now in
    let held = c.seize.ensures.held c.if-not-seize.false in
    let read = c.read.ensures v held.0 held.1 in
    let narrowed = c.narrow-met.ensures (reading v held.0) read.0 in
    let free = c.release.ensures (counting (reading v held.0) c.narrow-met.result narrowed.0) narrowed.1 in
    inr (judges_at (opening_of c.args.self.now) c.args.renewal.now c.args.uses.now c.narrow-met.result v _ held.0 narrowed.0
    read.1 read.0.at.ordered narrowed.2 narrowed.1.at.ordered narrowed.1.at.of free.1)

pub returns-clause-meets : goal.returns-clause-meets
returns-clause-meets c = meets_or_stays _ _ (pass_view c.args.pass.now) _ _ _ (returns-clause-judges c)

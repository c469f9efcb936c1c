use Rattle.std.proofs.Common.{sym, subst}
use Rattle.stream_cell.specs.Seats.{opening_of, pass_view}
use Rattle.stream_cell.specs.Kinds.{reading}
use Rattle.stream_cell.specs.Steps.{IsRead}
use Rattle.stream_cell.proofs.Answering.{looks_at}
use Rattle.stream_cell.proofs.cell.StreamCellCellLike.look.Goals as goal

pub show-number-requires-clause-read : goal.show-number-requires-clause-read
show-number-requires-clause-read c =
    let v = pass_view c.args.pass.now in
    let held = c.seize.ensures.held c.if-not-seize.false in
    (reading v held.0, (c.read.ensures v held.0 held.1).0)

pub release-requires : goal.release-requires
release-requires c =
    let v = pass_view c.args.pass.now in
    let held = c.seize.ensures.held c.if-not-seize.false in
    let read = c.read.ensures v held.0 held.1 in
    (reading v held.0, subst (λ pass. IsRead c.args.self.now pass (reading v held.0)) (sym c.show-number.ensures.pass) read.0)

pub returns-clause-pass : goal.returns-clause-pass
returns-clause-pass c =
    let v = pass_view c.args.pass.now in
    let held = c.seize.ensures.held c.if-not-seize.false in
    let read = c.read.ensures v held.0 held.1 in
    (c.release.ensures (reading v held.0) (subst (λ pass. IsRead c.args.self.now pass (reading v held.0)) (sym c.show-number.ensures.pass) read.0)).0

pub returns-clause-looks : goal.returns-clause-looks
returns-clause-looks c =
    let v = pass_view c.args.pass.now in
    let held = c.seize.ensures.held c.if-not-seize.false in
    let read = c.read.ensures v held.0 held.1 in
    let free = c.release.ensures (reading v held.0) (subst (λ pass. IsRead c.args.self.now pass (reading v held.0)) (sym c.show-number.ensures.pass) read.0) in
    looks_at (opening_of c.args.self.now) c.args.into.now _ _ _ v _ held.0 read.1 read.0.at.ordered read.0.at.of free.1 (c.show-number.ensures.shown (reading v held.0) read.0)

pub returns-clause-shows : goal.returns-clause-shows
returns-clause-shows c = returns-clause-looks c

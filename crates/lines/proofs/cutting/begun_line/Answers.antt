-- What is cut off behind a place is what is left of the bytes from there.
use Rattle.std.proofs.Common.{sym}
use Rattle.std.proofs.lemmas.List.{take_rest}
use Rattle.lines.proofs.Cuts.{begins_ended, begins_unended}
use Rattle.lines.proofs.cutting.begun_line.Goals as goal

pub returns-in-Some : goal.returns-in-Some
returns-in-Some c =
    let rest = take_rest c.args.bytes.now c.args.start in
    let place = rw rest at c.in-Some.ensures in
    begins_ended c.args.bytes.now c.args.start c.in-Some.at _ (sym place) (rw rest at c.without_return.ensures)

pub returns-in-None : goal.returns-in-None
returns-in-None c =
    let rest = take_rest c.args.bytes.now c.args.start in
    let place = rw rest at c.in-None.ensures in
    begins_unended c.args.bytes.now c.args.start _ (sym place) (rw rest at c.without_return-in-None.ensures) c.requires

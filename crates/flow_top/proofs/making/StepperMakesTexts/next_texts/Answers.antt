-- The rows are those of the window that was stepped.
use Rattle.std.proofs.Common.{false}
use Rattle.feeds.specs.ReaderOf.{feeding}
use Rattle.flow_top.proofs.Texts.{none-made, rows-made}
use Rattle.flow_top.proofs.making.StepperMakesTexts.next_texts.Goals as goal

pub returns-in-Ok : goal.returns-in-Ok
returns-in-Ok g c =
    let reader = feeding g.E.Source.left g.E.Source.faults c.args.feeds.now c.args.source.now in
    let read = feeding g.E.Source.left g.E.Source.faults c.next_rows.new.feeds c.next_rows.new.source in
    rows-made c.args._index c.args.self.now c.next_rows.new.self reader read c.in-Ok.rows c.in-Ok.ensures

pub returns-in-Err : goal.returns-in-Err
returns-in-Err g c =
    let reader = feeding g.E.Source.left g.E.Source.faults c.args.feeds.now c.args.source.now in
    let read = feeding g.E.Source.left g.E.Source.faults c.next_rows.new.feeds c.next_rows.new.source in
    none-made false c.args._index c.args.self.now c.next_rows.new.self reader read c.in-Err.end c.in-Err.ensures

-- Without records the plant file's tubes are given.
use Rattle.feeds.proofs.Readers.{plain-gives}
use Rattle.feeds.proofs.reader.tubes_by.Goals as goal

pub returns-in_ok-given_tubes-in-None-clause-gives : goal.returns-in_ok-given_tubes-in-None-clause-gives
returns-in_ok-given_tubes-in-None-clause-gives g c =
    plain-gives c.args.plant.now c.parts.ensures.plant c.args.span.first c.args.span.ticks c.args.records.now
    (g.E.Source.left c.args.source.now) c.in_ok-given_tubes-in-None.field-0 c.in-None.is
    c.in_ok-given_tubes-in-None.ensures

-- Nothing is held of the plant's feeds.
use Rattle.std.proofs.Common.{None, ap}
use Rattle.feeds.specs.declared.taken.Taken.{Taken}
use Rattle.feeds.proofs.Readers.{nothing-kept}
use Rattle.feeds.proofs.records.Records.unread.Goals as goal

pub returns-clause-records : goal.returns-clause-records
returns-clause-records c = nothing-kept c.args.plant.now _ c.parts.ensures.plant
    (ap (λ (taken : Taken). record { text = None; taken = taken }) c.in_ok-nothing.ensures)

-- The records so far are taken and held, and none is ahead. Each takes a byte of the text.
use Rattle.std.proofs.Common.{◌≡◌, ◌+◌, ◌-◌, length, None}
use Rattle.feeds.specs.Standing.{IsTakenFor}
use Rattle.feeds.specs.Taking.{Takes}
use Rattle.feeds.proofs.taken.Taken.take_to.Given as goal

abbrev pub invariant-loop-record : goal.invariant-loop-record
invariant-loop-record l = record {
  taken : IsTakenFor l.plant l.text.bytes l.self;
  ahead : l.self.ahead ≡ None;
  takes : Takes l.plant l.text (l.tick + 1) l.fn.self l.self;
}

abbrev pub decreases-loop-record : goal.decreases-loop-record
decreases-loop-record l = length l.text.bytes - l.self.at

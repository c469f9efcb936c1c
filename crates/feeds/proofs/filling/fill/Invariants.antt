-- The ticks so far have what records say, and these were taken.
use Rattle.std.proofs.Common.{◌+◌, ◌<◌}
use Rattle.feeds.specs.Standing.{IsTakenFor, pending}
use Rattle.feeds.specs.Taking.{Takes, HasCome}
use Rattle.feeds.specs.Filling.{AreFilledBefore}
use Rattle.feeds.proofs.filling.fill.Given as goal

abbrev pub invariant-loop-tick : goal.invariant-loop-tick
invariant-loop-tick l = record {
  taken : IsTakenFor l.plant l.text.bytes l.taken;
  takes : Takes l.plant l.text (l.span.first + l.tick) l.fn.taken l.taken;
  come : 0 < l.tick → HasCome l.plant l.text (l.span.first + l.tick) l.taken;
  filled : AreFilledBefore l.plant l.fn.taken.held (pending l.plant l.text l.fn.taken).records l.span.first l.span.ticks l.tick l.tubes;
}

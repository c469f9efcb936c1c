use Rattle.feeds.specs.ReaderOf.{feeding}
use Rattle.flow_top.specs.Uses.{sinks_use}
use Rattle.flow_top.proofs.Written.{IsWriting}
use Rattle.flow_top.proofs.windows.write_windows.Given as goal

-- the windows before this one were written
abbrev pub invariant-loop-index : goal.invariant-loop-index
invariant-loop-index g l =
    IsWriting l.fn.command g.W.MakesTexts.relaxes (g.W.MakesTexts.session l.fn.windows).parts l.count l.index
    (g.W.MakesTexts.session l.windows)
    (feeding g.E.Source.left g.E.Source.faults l.fn.feeds l.fn.extra)
    (feeding g.E.Source.left g.E.Source.faults l.feeds l.extra)
    (sinks_use g.O.Sink.given g.O.Sink.faults l.fn.out l.out g.T.Sink.given g.T.Sink.faults l.fn.trace l.trace)

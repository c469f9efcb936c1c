use Rattle.window_accept.specs.Wide.{asked_of}
use Rattle.window_accept.specs.Searching.{AreNarrowBelow}
use Rattle.window_accept.proofs.channels.wide_channel.Given as goal

abbrev pub invariant-loop-channel : goal.invariant-loop-channel
invariant-loop-channel l = AreNarrowBelow (asked_of l.widths l.signal) l.row l.channel

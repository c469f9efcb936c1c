-- One channel more is covered.
use Rattle.std.proofs.Common.{◌∙◌}
use Rattle.feeds.proofs.Covers.{channel-there, cover-more, cover-same}
use Rattle.feeds.proofs.held.cover.Goals as goal
use Rattle.feeds.proofs.held.cover.Goals.{in-Some, in_default}

pub set-requires-clause-channel : goal.set-requires-clause-channel
set-requires-clause-channel c =
    channel-there c.args.held.now c.args.tick c.loop-channel.channel c.args.tube.now c.loop-channel.tube
    c.index-held-channel.result c.requires.tick c.requires.channels c.loop-channel-test.true c.index-held-channel.is
    c.loop-channel.invariant

pub loop-channel-preserved : goal.loop-channel-preserved
loop-channel-preserved c = elim c.match-one.branch [
  | in-Some w ↦ cover-more c.args.held.now c.args.tick c.loop-channel.channel c.args.tube.now c.loop-channel.tube
      c.index-held-channel.result c.requires.tick c.requires.channels c.loop-channel-test.true c.index-held-channel.is
      c.loop-channel.invariant w.in-Some.band c.match-one.tube w.in-Some.is (w.tube-is ∙ w.set.ensures)
  | in_default w ↦ cover-same c.args.held.now c.args.tick c.loop-channel.channel c.args.tube.now c.loop-channel.tube
      c.index-held-channel.result c.requires.tick c.requires.channels c.loop-channel-test.true c.index-held-channel.is
      c.loop-channel.invariant c.match-one.tube w.in_default.is w.tube-is
]

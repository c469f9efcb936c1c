use Rattle.std.proofs.Common.{◌≡◌, map, take}
use Rattle.tables.specs.Kept.{head_of, heads}
use Rattle.tables.proofs.stream_rows.kept_rows.Given as goal

-- a row for each channel so far
abbrev pub invariant-loop-channel : goal.invariant-loop-channel
invariant-loop-channel l =
    heads l.rows.items ≡ map (head_of l.name) (map (λ channel. channel.now) (take l.channel-index l.channels))

use Rattle.std.proofs.Common.{rules}
use Rattle.tables.specs.Output.{channels}
use Rattle.tables.proofs.stream_rows.channel_names.Goals as goal

pub returns-then-signal : goal.returns-then-signal
unfolding channels
returns-then-signal c = search rules

pub returns-else-signal : goal.returns-else-signal
unfolding channels
returns-else-signal c = search rules

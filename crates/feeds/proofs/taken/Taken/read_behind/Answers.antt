-- Each record takes a byte, so there are few enough to count.
use Rattle.std.proofs.Common.{arith}
use Rattle.feeds.specs.Records.{most_bytes}
use Rattle.feeds.proofs.taken.Taken.read_behind.Goals as goal

pub read_line-requires : goal.read_line-requires
unfolding most_bytes
read_line-requires c =
    let taken = c.requires.taken in
    omega (arith, c.requires.few, taken.inside, taken.counted)

pub overflow_add-result : goal.overflow_add-result
unfolding most_bytes
overflow_add-result c =
    let taken = c.requires.taken in
    omega (arith, c.requires.few, taken.inside, taken.counted)

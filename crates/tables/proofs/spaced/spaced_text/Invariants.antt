use Rattle.std.proofs.Common.{◌≡◌, ◌≤◌, length, ◌+◌, ◌*◌, take}
use Rattle.tables.specs.Steps.{spaced}
use Rattle.tables.proofs.spaced.spaced_text.Given as goal

-- the text so far is that of the numbers so far, and leaves room for the others
abbrev pub invariant-loop-number : goal.invariant-loop-number
invariant-loop-number l = record {
  text : l.text.bytes ≡ spaced (take (l.number-index + 1) l.numbers);
  room : length l.text.bytes ≤ 10 + 11 * l.number-index;
}

use Rattle.std.proofs.Common.{arith}
use Rattle.std.specs.Char.{is_ascii_digit}
use Rattle.std.proofs.lemmas.Int.{ints}
use Rattle.std.proofs.lemmas.List.Folds.{list_all_more}
use Rattle.lines.proofs.Digits.{value_more, value_small}
use Rattle.lines.proofs.numbers.count_at.Goals as goal

pub overflow_mul-value : goal.overflow_mul-value
overflow_mul-value c =
    let small = value_small c.args.field.now c.loop-byte.byte-index c.loop-byte.invariant.1 (omega arith) in
    omega (arith, ints)

pub overflow_add-value : goal.overflow_add-value
overflow_add-value c =
    let small = value_small c.args.field.now c.loop-byte.byte-index c.loop-byte.invariant.1 (omega arith) in
    omega (arith, ints)

pub loop-byte-preserved : goal.loop-byte-preserved
loop-byte-preserved c =
    let field = c.args.field.now in
    let i = c.loop-byte.byte-index in
    let small = value_small field i c.loop-byte.invariant.1 (omega arith) in
    let more = value_more field i (omega arith) in
    let all = list_all_more is_ascii_digit field i 0 (omega arith) in
    let digit = c.if-not-is_ascii_digit.ensures.value in
    (omega (arith, ints, c.type_inv.field i), grind (arith, all, digit))

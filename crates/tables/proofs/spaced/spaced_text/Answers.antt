use Rattle.std.proofs.Common.{◌≡◌, ◌+◌, ◌-◌, ◌∙◌, ◌++◌, length, take, drop, get_or, ap, arith, length-append}
use Rattle.std.proofs.lemmas.Grind.{elements}
use Rattle.std.proofs.lemmas.List.{get_or-drop}
use Rattle.std.specs.Prelude.{decimal}
use Rattle.tables.proofs.Spacing.{spaced_more}
use Rattle.tables.proofs.spaced.spaced_text.Goals as goal

pub loop-number-preserved : goal.loop-number-preserved
loop-number-preserved c =
    let numbers = c.args.numbers.now in
    let i = c.loop-number.number-index in
    let next : get_or (take (length numbers - 1) (drop 1 numbers)) i 0 ≡ get_or numbers (i + 1) 0 =
    grind (arith, elements, get_or-drop) in
    let space = c.push.ensures.ascii (omega arith) in
    record {
      text = spaced_more numbers i 0 c.loop-number.text.bytes c.push.new.self.bytes
          c.push_str-in-loop-number.new.self.bytes (omega arith) c.loop-number.invariant.text
          space
          (c.push_str-in-loop-number.ensures.bytes
          ∙ ap (λ text. c.push.new.self.bytes ++ text) (c.format-in-loop-number.ensures.text ∙ ap decimal next));
      room = omega (arith, simp length-append at (ap length space));
    }

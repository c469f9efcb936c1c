use Rattle.std.proofs.Common.{◌≡◌, ◌∙◌, ℕ, List, ◌++◌, [], IfOk, ap, sym, subst, codes, decimal, w64}
use Rattle.std.proofs.lemmas.Int.{to_z-of_z}
use Rattle.std.specs.Fmt.{signed_decimal}
use Rattle.report.specs.Lines.{line_of}
use Rattle.report.specs.Lines as lines
use Rattle.report.proofs.Joined.{five}
use Rattle.report.proofs.lines.wide_line.Goals as goal

pub returns : goal.returns
unfolding lines.fault_words
returns c =
    let stream : List ℕ = codes "wide stream " ++ c.args.stream.now in
    let channel : List ℕ = codes " channel " ++ c.args.channel.now in
    let tick : List ℕ = codes " tick " ++ decimal c.args.tick in
    let width : List ℕ = codes " width " ++ signed_decimal c.args.width in
    let limit : List ℕ = codes " limit " ++ signed_decimal c.args.limit in
    subst (λ text. IfOk c.line_of.result (λ line. line.items ≡ line_of text))
    (five stream channel tick width limit c.in_ok-place.place.items c.add.new.text.items c.add-2.new.text.items c.add_number.new.text.items
    c.add_number-2.new.text.items
    (c.in_ok-place.ensures ∙ ap (λ name. codes "wide stream " ++ name) c.as_bytes.ensures)
    (c.in_ok-add.ensures ∙ ap (λ name. c.in_ok-place.place.items ++ (codes " channel " ++ name)) c.as_bytes-2.ensures)
    (c.in_ok-add-2.ensures ∙ ap (λ text. c.add.new.text.items ++ (codes " tick " ++ text)) (c.as_bytes-3.ensures.value ∙ c.format.ensures.text))
    (c.in_ok-add_number.ensures
    ∙ ap (λ number. c.add-2.new.text.items ++ (codes " width " ++ signed_decimal number)) (to_z-of_z w64 c.args.width c.ranges.width))
    (c.in_ok-add_number-2.ensures
    ∙ ap (λ number. c.add_number.new.text.items ++ (codes " limit " ++ signed_decimal number)) (to_z-of_z w64 c.args.limit c.ranges.limit)))
    (rw c.as_slice.ensures.value at c.line_of.ensures)

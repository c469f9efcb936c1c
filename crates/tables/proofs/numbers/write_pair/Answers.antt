use Rattle.std.proofs.Common.{◌≡◌, ◌≢◌, ◌∷◌, ◌++◌, ◌∙◌, [], ap}
use Rattle.std.proofs.lemmas.Result.{on_ok_weaker}
use Rattle.csv.specs.Writing.{writer_setup, row_text}
use Rattle.csv.specs.declared.writer.QuoteStyle.TheVariants as style
use Rattle.tables.specs.Writer.{text_so_far}
use Rattle.tables.proofs.RowText.{pair_text-line}
use Rattle.tables.proofs.numbers.write_pair.Goals as goal

-- the row's text is the line of its fields, since neither needs quotes
pub returns-clause-row : goal.returns-clause-row
returns-clause-row c =
    let w = c.args.writer.now in
    let fields = c.args.first.now ∷ c.args.second.now ∷ [] in
    let plain : (writer_setup w).style ≢ style.NonNumeric = rw c.requires.ready.settings (λ e. cc e) in
    let is_line : row_text (writer_setup w) fields ≡ _ = rw c.requires.ready.settings
    (pair_text-line c.args.first.now c.args.second.now c.requires.first c.requires.second) in
    on_ok_weaker c.write_fields.result
    (λ written. written c.requires.ready.no_field c.requires.ready.no_byte plain
    ∙ ap (λ text. text_so_far w ++ text) is_line)
    c.write_fields.ensures.bytes

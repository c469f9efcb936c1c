use Rattle.std.proofs.Common.{eqb}
use Rattle.std.proofs.lemmas.List.Splits.{length-slice_split, join_with_byte-slice_split}
use Rattle.lines.specs.Lines.{comma}
use Rattle.lines.proofs.LineLaws.{pieces_apart}
use Rattle.lines.proofs.laws.fields_are_the_line.Goals as goal

pub returns-clause-joined : goal.returns-clause-joined
returns-clause-joined c = join_with_byte-slice_split comma

pub returns-clause-number : goal.returns-clause-number
returns-clause-number c = length-slice_split (λ byte. eqb byte comma)

pub returns-clause-within : goal.returns-clause-within
returns-clause-within c = pieces_apart comma

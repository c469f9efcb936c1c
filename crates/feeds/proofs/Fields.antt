-- Lines of more than four fields.
use Rattle.std.proofs.Common.{◌≡◌, ℕ, ◌==◌, ◌<◌, List, [], ◌∷◌, length, None, refl, arith}
use Rattle.std.proofs.lemmas.List.Splits.{length-slice_split}
use Rattle.lines.specs.Lines.{comma, fields_of}
use Rattle.feeds.specs.Records.{written_by}

more : (tick name lo hi : List ℕ) (fields : List (List ℕ)) → 0 < length fields →
    written_by (tick ∷ name ∷ lo ∷ hi ∷ fields) ≡ None
more tick name lo hi [] some = absurd (omega arith)
more tick name lo hi (field ∷ fields) some = refl

pub more_fields : (tick name lo hi rest : List ℕ) → written_by (tick ∷ name ∷ lo ∷ hi ∷ fields_of rest) ≡ None
more_fields tick name lo hi rest = more tick name lo hi (fields_of rest)
    (omega (arith, length-slice_split (λ byte. byte == comma) rest))

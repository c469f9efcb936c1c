-- The text that csv writes for a row is a line of the table.
use Rattle.std.proofs.Common.{◌≡◌, ℕ, ◌≤◌, false, List, [], ◌∷◌, ◌++◌, length, refl, ap, append-nil, arith}
use Rattle.csv.specs.Writing.{fields_text, is_blank, row_text, needs_quotes}
use Rattle.csv.specs.declared.writer.QuoteStyle.TheVariants.{Never, Necessary}
use Rattle.tables.specs.Line.{comma, line_feed, joined, line}
use Rattle.tables.specs.Writer.{table_writer}

-- fields with a comma before each but the first
fields_text-joined : (field : List ℕ) (rest : List (List ℕ)) → field ++ fields_text (table_writer Never) rest
    ≡ joined (field ∷ rest)
unfolding fields_text
fields_text-joined field [] = append-nil field
fields_text-joined field (next ∷ rest) = ap (λ l. field ++ (comma ∷ l)) (fields_text-joined next rest)

-- a row of at least two fields is the line of these
pub row_text-line : (fields : List (List ℕ)) → 2 ≤ length fields → row_text (table_writer Never) fields ≡ line fields
unfolding is_blank
row_text-line [] two = absurd (omega arith)
row_text-line (field ∷ []) two = absurd (omega arith)
row_text-line (field ∷ next ∷ rest) two = ap (λ l. l ++ (line_feed ∷ [])) (fields_text-joined field (next ∷ rest))

-- and so is one of two fields that need no quotes
pub pair_text-line : (first second : List ℕ) → needs_quotes (table_writer Necessary) first ≡ false →
    needs_quotes (table_writer Necessary) second ≡ false →
    row_text (table_writer Necessary) (first ∷ second ∷ []) ≡ line (first ∷ second ∷ [])
unfolding is_blank fields_text
pair_text-line first second plain also = rw (plain, also, append-nil second) refl

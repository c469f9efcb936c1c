-- Words of the proofs: a reader of the contracts needs none of them.
-- How the rows' writers are set up, and what stands in one between two rows.
use Rattle.std.specs.Prelude.{◌≡◌, ℕ, true, false, None, List, [], ◌++◌}
use Rattle.std.specs.declared.vec.Vec.{Vec}
use Rattle.std.specs.declared.alloc.Global.{Global}
use Rattle.csv.specs.Writing.{quote_mark, backslash, writer_setup, writer_under, writer_pending, fields_written}
use Rattle.csv.specs.Writing.{has_written}
use Rattle.csv.specs.declared.parser.Terminator.TheVariants as term
use Rattle.csv.specs.declared.writer.QuoteStyle.{QuoteStyle}
use Rattle.csv.specs.declared.writer.QuoteStyle.TheVariants.{Never, Necessary}
use Rattle.csv.specs.declared.writer.WriterBuilder.{WriterBuilder}
use Rattle.csv.specs.declared.writer.Writer.{Writer}
use Rattle.tables.specs.Line.{comma, line_feed}

-- commas, line feeds, quotes by this style, and rows of any lengths
abbrev pub table_writer : QuoteStyle → WriterBuilder
table_writer style = record {
  delimiter = comma;
  quote = quote_mark;
  escape = backslash;
  double_quote = true;
  style = style;
  terminator = term.Any line_feed;
  flexible = true;
  comment = None;
  has_headers = true;
}

-- the bytes written so far: what the vector holds, and then the buffer
abbrev pub text_so_far : Writer (Vec ℕ Global) → List ℕ
text_so_far w = (writer_under w).items ++ writer_pending w

-- the writer, which quotes by this style, stands between two rows
pub record IsBetweenRows (style : QuoteStyle) (w : Writer (Vec ℕ Global)) : Type 0 where
  pub settings : writer_setup w ≡ table_writer style
  pub no_field : fields_written w ≡ 0
  pub no_byte : has_written w ≡ false

-- and all that was written is in the vector
pub record IsFlushed (style : QuoteStyle) (w : Writer (Vec ℕ Global)) : Type 0 where
  pub ready : IsBetweenRows style w
  pub empty : writer_pending w ≡ []

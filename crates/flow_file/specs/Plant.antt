-- The reading of a plant text: the parts that it says, or the first refusal.
use Rattle.std.specs.Prelude.{ℕ, ℤ, pos, List, [], ◌∷◌, codes, None, Ok, unwrap_or}
use Rattle.quant.specs.Interval.{point}
use Rattle.quant.specs.declared.limits.Limits.{Limits}
use Rattle.parts.specs.Parts.{FileParts, file_parts}
use Rattle.parts.specs.InRange.{most_ticks, longest_window, most_feeds, most_units, widths}
use Rattle.parts.specs.declared.feeds.FeedPart.{FeedPart}
use Rattle.parts.specs.declared.parts.Widths.{Widths}
use Rattle.toml.specs.Data.{Data, Members, as_integer}
use Rattle.flow_file.specs.declared.fault.TextFault.TheVariants as fault
use Rattle.flow_file.specs.declared.plant.Frame.{Frame}
use Rattle.flow_file.specs.Read.{Reading, ◌>>=◌}
use Rattle.flow_file.specs.Value.{Bytes, or_fault, when, Section, table_of}
use Rattle.flow_file.specs.Value.{at_key, at_optional, no_others, is_in, number_in, count_in, band_of, list_of, tree_of}
use Rattle.flow_file.specs.Value.{channels_of, quantities_of}
use Rattle.flow_file.specs.Feeds.{feed_of}
use Rattle.flow_file.specs.Units.{unit_of}

-- the number of the format, which is 1
unfoldable pub format_of : Bytes → Data → Reading ℤ
format_of place node = do
  found ← or_fault (as_integer node) (fault.WrongType place)
  when (is_in (point (pos 1)) found) found (fault.Format found)

-- the ticks of the run, and those of a window
unfoldable pub run_of : Section → Reading (ℕ × ℕ)
run_of section = do
  ticks ← at_key (count_in 1 most_ticks) section (codes "ticks")
  window ← at_key (count_in 1 longest_window) section (codes "window")
  others ← no_others (codes "ticks" ∷ codes "window" ∷ []) section
  Ok (ticks, window)

-- the limits of the plant, by the quantities that they limit
unfoldable pub limits_of : Section → Reading Limits
limits_of top = do
  limit ← at_key (table_of (quantities_of (at_key band_of))) top (codes "limits")
  Ok (record {
    flow = limit.flow;
    conc = limit.conc;
    temp = limit.temp;
    volume = limit.volume;
    signal = limit.signal;
  })

-- a width that may be asked for
abbrev pub width_in : Bytes → Data → Reading ℤ
width_in = number_in widths

unfoldable pub widths_of : Section → Reading Widths
widths_of section = do
  stream ← channels_of (at_optional width_in) section
  signal ← at_optional width_in section (codes "signal")
  others ← no_others (codes "flow" ∷ codes "conc" ∷ codes "temp" ∷ codes "signal" ∷ []) section
  Ok (record { flow = stream.flow; conc = stream.conc; temp = stream.temp; signal = signal })

abbrev pub no_widths : Widths
no_widths = record { flow = None; conc = None; temp = None; signal = None }

-- the keys of the whole text
abbrev pub top_keys : List Bytes
top_keys = codes "format" ∷ codes "run" ∷ codes "limits" ∷ codes "width" ∷ codes "feed" ∷ codes "unit" ∷ []

-- the widths that are asked for, or none; and the feeds, or none
unfoldable pub widths_at : Section → Reading Widths
widths_at section = do
  found ← at_optional (table_of widths_of) section (codes "width")
  Ok (unwrap_or found no_widths)

unfoldable pub feeds_at : Section → Reading (List FeedPart)
feeds_at section = do
  found ← at_optional (list_of (table_of feed_of) 0 most_feeds) section (codes "feed")
  Ok (unwrap_or found [])

-- what stands before the feeds and the units
unfoldable pub frame_of : Section → Reading Frame
frame_of top = do
  format ← at_key format_of top (codes "format")
  run ← at_key (table_of run_of) top (codes "run")
  limits ← limits_of top
  width ← widths_at top
  Ok (record { ticks = run.0; window = run.1; limits = limits; width = width })

-- the parts that the keys of the whole text say
unfoldable pub parts_at : Section → Reading FileParts
parts_at top = do
  frame ← frame_of top
  feeds ← feeds_at top
  units ← at_key (list_of (table_of unit_of) 1 most_units) top (codes "unit")
  others ← no_others top_keys top
  Ok (file_parts frame.ticks frame.window frame.limits frame.width feeds units)

-- the whole text is a table, whose keys have their names alone as places
unfoldable pub parts_of : Members → Reading FileParts
parts_of table = parts_at (record { prefix = []; members = table })

-- the parts that a plant text says, or the first refusal
unfoldable pub parts_in : Bytes → Reading FileParts
parts_in bytes = tree_of bytes >>= parts_of

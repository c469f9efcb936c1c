-- The summary of a generated plant: how large it is, and what the bands of its interval run add up to.
use Rattle.std.specs.Prelude.{ℕ, zero, suc, ℤ, pos, ◌+ℤ◌, ◌-ℤ◌, List, [], ◌∷◌, ◌++◌, codes, decimal, length, None}
use Rattle.std.specs.Fmt.{signed_decimal}
use Rattle.quant.specs.Interval.{Interval}
use Rattle.parts.specs.Parts.{FileParts}
use Rattle.plant_streams.specs.Streams.{streams_of}
use Rattle.plant.specs.Rows.{streams_of_run}
use Rattle.feeds.specs.Given.{given_by}
use Rattle.plant_gen.specs.Generated.{generated_parts}

-- the sum over the numbers below n, and over the bands of a stream's channels
abbrev pub sum_below : ℕ → (ℕ → ℤ) → ℤ
sum_below zero f = pos 0
sum_below (suc n) f = sum_below n f +ℤ f n

abbrev pub sum_of_bands : (Interval → ℤ) → List Interval → ℤ
sum_of_bands f [] = pos 0
sum_of_bands f (band ∷ bands) = f band +ℤ sum_of_bands f bands

-- the sum over all rows that are printed of a plant's interval run: at each tick, for each stream, one for each of its channels
abbrev pub sum_of_rows : (Interval → ℤ) → FileParts → ℤ
sum_of_rows f parts = sum_below parts.ticks (λ tick. sum_below (length (streams_of parts)) (λ s.
    sum_of_bands f (streams_of_run parts (given_by parts None) tick s)))

-- how wide a band is, and its two ends together
abbrev pub width_of : Interval → ℤ
width_of band = band.hi -ℤ band.lo

abbrev pub ends_of : Interval → ℤ
ends_of band = band.lo +ℤ band.hi

-- a line: a name, a space, a number, and a line feed
abbrev pub line_of : List ℕ → List ℕ → List ℕ
line_of name number = name ++ (codes " " ++ (number ++ codes "\n"))

-- The summary of the generated plant of so many stages. Its 48 ticks are 3 windows of 16.
unfoldable pub summary : ℕ → List ℕ
summary stages =
    line_of (codes "demo") (decimal stages)
    ++ (line_of (codes "units") (decimal (length (generated_parts stages).units))
    ++ (line_of (codes "streams") (decimal (length (streams_of (generated_parts stages))))
    ++ (line_of (codes "ticks") (decimal (generated_parts stages).ticks)
    ++ (line_of (codes "windows") (decimal 3)
    ++ (line_of (codes "width") (signed_decimal (sum_of_rows width_of (generated_parts stages)))
    ++ line_of (codes "ends") (signed_decimal (sum_of_rows ends_of (generated_parts stages))))))))

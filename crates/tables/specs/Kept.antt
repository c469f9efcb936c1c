-- Words of the proofs: a reader of the contracts needs none of them.
-- Rows whose text is kept from tick to tick: what stands before the numbers, and the numbers.
use Rattle.std.specs.Prelude.{◌≡◌, ◌≤◌, ℕ, List, [], ◌∷◌, ◌++◌, length, map, take, decimal}
use Rattle.std.specs.Fmt.{signed_decimal}
use Rattle.quant.specs.Interval.{Interval}
use Rattle.tables.specs.Line.{comma, line}

-- a row without its tick: what stands before its numbers, and the band that these are of
pub record KeptOf : Type 0 where
  pub head : List ℕ
  pub band : Interval

abbrev pub head_of : List ℕ → List ℕ → List ℕ
head_of name channel = name ++ comma ∷ (channel ++ comma ∷ [])

abbrev pub numbers_of : Interval → List ℕ
numbers_of band = line (signed_decimal band.lo ∷ signed_decimal band.hi ∷ [])

abbrev pub tick_text : ℕ → List ℕ
tick_text tick = decimal tick ++ comma ∷ []

abbrev pub headed_row : ℕ → List ℕ → Interval → List ℕ
headed_row tick head band = tick_text tick ++ (head ++ numbers_of band)

-- the text is a head of this length, and the numbers of the band behind it
pub record IsKept (head : ℕ) (band : Interval) (text : List ℕ) : Type 0 where
  pub headed : head ≤ length text
  pub numbered : text ≡ take head text ++ numbers_of band

abbrev pub heads : List KeptOf → List (List ℕ)
heads rows = map (λ row. row.head) rows

-- the rows with these heads at a tick, each with its band
abbrev pub headed_rows : ℕ → List (List ℕ) → List Interval → List ℕ
headed_rows tick [] bands = []
headed_rows tick (head ∷ rest) [] = []
headed_rows tick (head ∷ rest) (band ∷ bands) =
    headed_row tick head band ++ headed_rows tick rest bands

-- the first bytes, so many of them, are the tick's text
pub record IsTickText (tick len : ℕ) (bytes : List ℕ) : Type 0 where
  pub within : len ≤ length bytes
  pub text : take len bytes ≡ tick_text tick

-- The band that pieces give at a tick is that of the last piece that has begun.
use Rattle.std.proofs.Common.{◌≡◌, ◌<◌, ◌≤◌, ◌⊎◌, ℕ, zero, suc, true, false, List, [], ◌∷◌, length, inl, inr, refl}
use Rattle.std.proofs.Common.{arith}
use Rattle.std.proofs.Common.{pos, ap, ◌∙◌}
use Rattle.std.specs.Prelude.{nat_le}
use Rattle.std.proofs.lemmas.Bool.{cases_Bool, cases_lt}
use Rattle.std.proofs.lemmas.Bool.Decides.{nat_tests}
use Rattle.quant.specs.Interval.{Interval, point}
use Rattle.parts.specs.declared.feeds.Piece.{Piece}
use Rattle.parts.specs.Given.{latest, band_at}
use Rattle.parts.specs.InForce.{begin_of, band_of, AreInOrder, IsInForce, SomePieceIsInForce, PiecesLastUpToTheNext}

-- no piece has begun
abbrev NoneBegun : List Piece → ℕ → Type 0
NoneBegun pieces tick = (j : ℕ) → j < length pieces → tick < begin_of pieces j

has_begun : (m n : ℕ) → nat_le m n ≡ true → m ≤ n
has_begun m n passed = grind (arith, nat_tests)

not_begun : (m n : ℕ) → nat_le m n ≡ false → n < m
not_begun m n failed = grind (arith, nat_tests)

-- behind a first piece
none_more : (piece : Piece) (rest : List Piece) (tick : ℕ) → tick < piece.tick → NoneBegun rest tick →
    NoneBegun (piece ∷ rest) tick
none_more piece rest tick later none zero h = later
none_more piece rest tick later none (suc j) h = none j (omega arith)

first_last : (piece : Piece) (rest : List Piece) (tick : ℕ) → NoneBegun rest tick →
    (j : ℕ) → 0 < j → j < length (piece ∷ rest) → tick < begin_of (piece ∷ rest) j
first_last piece rest tick none zero h g = absurd (omega arith)
first_last piece rest tick none (suc j) h g = none j (omega arith)

later_last : (piece : Piece) (rest : List Piece) (tick i : ℕ) → IsInForce rest tick i →
    (j : ℕ) → suc i < j → j < length (piece ∷ rest) → tick < begin_of (piece ∷ rest) j
later_last piece rest tick i holds zero h g = absurd (omega arith)
later_last piece rest tick i holds (suc j) h g = holds.last j (omega arith) (omega arith)

-- one of the pieces is in force and gives the band, or none has begun and the band stays
abbrev Decided : ℕ → Interval → List Piece → Type 0
Decided tick band pieces = ((latest tick band pieces ≡ band) × NoneBegun pieces tick)
    ⊎ ((i : ℕ) × IsInForce pieces tick i × (latest tick band pieces ≡ band_of pieces i))

in_rest : (tick : ℕ) (band : Interval) (piece : Piece) (rest : List Piece) (i : ℕ) → IsInForce rest tick i →
    IsInForce (piece ∷ rest) tick (suc i)
in_rest tick band piece rest i holds =
    record { there = omega (arith, holds.there); begun = holds.begun; last = later_last piece rest tick i holds }

decided : (tick : ℕ) (band : Interval) (pieces : List Piece) → Decided tick band pieces
decided tick band [] = inl (refl, λ j h. absurd (omega arith))
decided tick band (piece ∷ rest) = elim (cases_Bool (nat_le piece.tick tick)) [
  | inl passed ↦ elim (decided tick piece.band rest) [
    | inl none ↦ inr (
      0,
      record {
        there = omega arith;
        begun = has_begun piece.tick tick passed;
        last = first_last piece rest tick none.1;
      },
      rw passed none.0,
    )
    | inr one ↦ inr (suc one.0, in_rest tick band piece rest one.0 one.1, rw passed one.2)
  ]
  | inr failed ↦ elim (decided tick band rest) [
    | inl none ↦ inl (rw failed none.0, none_more piece rest tick (not_begun piece.tick tick failed) none.1)
    | inr one ↦ inr (suc one.0, in_rest tick band piece rest one.0 one.1, rw failed one.2)
  ]
]

-- the piece in force gives the band
gives_band : (tick : ℕ) (band : Interval) (pieces : List Piece) (i : ℕ) → IsInForce pieces tick i →
    latest tick band pieces ≡ band_of pieces i
gives_band tick band pieces i holds = elim (decided tick band pieces) [
  | inl none ↦ let never = none.1 i holds.there in absurd (omega (arith, holds.begun))
  | inr one ↦ elim (cases_lt one.0 i) [
    | inl before ↦ let never = one.1.last i before holds.there in absurd (omega (arith, holds.begun))
    | inr from ↦ elim (cases_lt i one.0) [
      | inl before ↦ let never = holds.last one.0 before one.1.there in absurd (omega (arith, one.1.begun))
      | inr to ↦ let same : one.0 ≡ i = omega arith in one.2 ∙ ap (band_of pieces) same
    ]
  ]
]

-- pieces in order begin one after another
rises : (pieces : List Piece) (i j : ℕ) → AreInOrder pieces → i < j → j < length pieces →
    begin_of pieces i < begin_of pieces j
rises pieces i zero order h g = absurd (omega arith)
rises pieces i (suc j) order h g = elim (cases_lt i j) [
  | inl before ↦ omega (arith, rises pieces i j order before (omega arith), order.rise j g)
  | inr last ↦ let same : i ≡ j = omega arith in rw same (order.rise j g)
]

up_to_next : (pieces : List Piece) (tick i : ℕ) → AreInOrder pieces →
    (suc i < length pieces → tick < begin_of pieces (suc i)) →
    (j : ℕ) → i < j → j < length pieces → tick < begin_of pieces j
up_to_next pieces tick i order next j h g = elim (cases_lt (suc i) j) [
  | inl behind ↦ omega (arith, next (omega arith), rises pieces (suc i) j order behind g)
  | inr here ↦ let same : suc i ≡ j = omega arith in rw (← same) (next (omega arith))
]

pub some_in_force : SomePieceIsInForce
unfolding band_at
some_in_force pieces tick order = elim (decided tick (point (pos 0)) pieces) [
  | inl none ↦ let never = none.1 0 order.one in absurd (omega (arith, order.first))
  | inr one ↦ one
]

pub up_to_the_next : PiecesLastUpToTheNext
unfolding band_at
up_to_the_next pieces tick i order there begun next =
    gives_band tick (point (pos 0)) pieces i
    (record { there = there; begun = begun; last = up_to_next pieces tick i order next })

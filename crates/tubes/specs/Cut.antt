-- How a tube is kept: its bands tick by tick in one list, which contracts see cut into ticks.
use Rattle.std.specs.Prelude.{ℕ, zero, suc, List, [], ◌∷◌, ◌++◌, take, drop}
use Rattle.quant.specs.Interval.{Interval}
use Rattle.relaxation.specs.Tube.{Tube}

-- n ticks of c bands each
abbrev pub cut : ℕ → ℕ → List Interval → Tube
cut zero c bands = []
cut (suc n) c bands = take c bands ∷ cut n c (drop c bands)

-- the bands of a tube from a tick on, tick by tick
abbrev pub bands_from : ℕ → Tube → List Interval
bands_from t [] = []
bands_from zero (row ∷ rows) = row ++ bands_from zero rows
bands_from (suc t) (row ∷ rows) = bands_from t rows

-- Counts of faults, which never fall.
use Rattle.std.specs.Prelude.{ℕ, ◌+◌, ◌-◌, ◌^◌, ◌≤◌, min}

-- the count after one more: at its greatest it stays
abbrev pub one_more : ℕ → ℕ
one_more count = min (count + 1) (2 ^ 64 - 1)

-- a fault was counted: the count rose, or stands at its greatest
abbrev pub Rose : ℕ → ℕ → Type 0
Rose before now = one_more before ≤ now

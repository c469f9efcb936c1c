-- What a take answers.
use Rattle.std.specs.Prelude.{◌≡◌, ◌⊎◌, ℕ, ◌%◌, ◌<◌, List, length, Option, Some, None}
use mathlib.Core.Option.{some}
use lib.ListN.{get_elem?}
use Rattle.crossbeam_deque.specs.Handles.{taken}
use Rattle.steal_desk.specs.declared.seats.Other.{Other}
use Rattle.steal_desk.specs.declared.seats.StealSeat.{StealSeat}
use Rattle.steal_desk.specs.Deques.{WasEmpty, Took, TookOwn}
use Rattle.steal_desk.specs.Seats.{own_view, other_view}

-- No unit was taken: the deque was empty at one moment, or the pass saw that more units had left it than it knew of.
abbrev pub FindsNone : Other → Other → Type 0
FindsNone old new =
    (other_view new ≡ other_view old) × (WasEmpty (other_view old) ⊎ (taken old.pass < taken new.pass))

-- the first k of the deques gave no unit
abbrev pub FindNone : ℕ → List Other → List Other → Type 0
FindNone k olds news =
    (j : ℕ) (old new : Other) → j < k → get_elem? olds j ≡ some old → get_elem? news j ≡ some new → FindsNone old new

-- the first of the deques that gave a unit gave this one, and those behind it were not tried
abbrev pub StealsFrom : ℕ → List Other → ℕ → List Other → Type 0
StealsFrom k olds unit news =
    FindNone k olds news
    × ((old : Other) × (new : Other) × (get_elem? olds k ≡ some old) × (get_elem? news k ≡ some new)
    × Took (other_view old) unit (other_view new))
    × ((j : ℕ) → k < j → get_elem? news j ≡ get_elem? olds j)

-- What the other deques gave, tried in their order: a unit, or none.
abbrev pub Steals : List Other → Option ℕ → List Other → Type 0
Steals olds (Some unit) news = (k : ℕ) × StealsFrom k olds unit news
Steals olds None news = FindNone (length olds) olds news

-- The own deque gave the unit; or that one was empty, and another deque gave it; or none gave one, and it is the one of this
-- number.
abbrev pub TakesUnit : ℕ → StealSeat → ℕ → StealSeat → Type 0
TakesUnit number old unit new =
    (TookOwn (own_view old) unit (own_view new) × (new.others ≡ old.others))
    ⊎ ((own_view new ≡ own_view old) × WasEmpty (own_view old)
    × (Steals old.others.items (Some unit) new.others.items
    ⊎ (Steals old.others.items None new.others.items × (unit ≡ number % old.units))))

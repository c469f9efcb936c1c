-- What was taken from a deque: a front of what was pushed on it, each unit once.
use Rattle.std.specs.Prelude.{◌≡◌, ℕ, ◌+◌, ◌<◌, ◌≤◌, List, [], ◌∷◌, ◌++◌, length, map, slice_index}
use mathlib.Core.Option.{some}
use lib.ListN.{get_elem?}
use Rattle.turn_desk.specs.Turns.{AllBelow, times}
use Rattle.steal_desk.specs.declared.view.Taking.{Taking}
use Rattle.steal_desk.specs.declared.view.DequeView.{DequeView}

-- a pass that has pushed and taken nothing, of a deque whose units are below the bound
abbrev pub new_pass : ℕ → DequeView
new_pass bound = record { bound = bound; pushed = []; taken = [] }

-- the owner's pass, before it is told how many units there are
abbrev pub opening_view : DequeView
opening_view = new_pass 256

-- the places of what the pass took, in the order in which it did
abbrev pub places_of : DequeView → List ℕ
places_of v = map (λ t. t.place) v.taken

-- how often the passes took the unit at this place
abbrev pub times_taken : ℕ → List DequeView → ℕ
times_taken place [] = 0
times_taken place (v ∷ vs) = times place (places_of v) + times_taken place vs

-- the first pass is the owner's
abbrev pub owner_of : List DequeView → DequeView
owner_of [] = opening_view
owner_of (v ∷ vs) = v

-- all units that were ever pushed, oldest first
abbrev pub pushed_of : List DequeView → List ℕ
pushed_of views = (owner_of views).pushed

-- the unit that was taken is the one at its place
abbrev pub Stands : List ℕ → Taking → Type 0
Stands pushed t = (t.place < length pushed) × (slice_index pushed t.place ≡ t.unit)

-- what was taken is what stood at its places
abbrev pub AllStand : List ℕ → List Taking → Type 0
AllStand pushed [] = Unit {0}
AllStand pushed (t ∷ ts) = Stands pushed t × AllStand pushed ts

-- each number of the list is greater than n
abbrev pub AllAbove : ℕ → List ℕ → Type 0
AllAbove n [] = Unit {0}
AllAbove n (x ∷ xs) = (n < x) × AllAbove n xs

-- each number is greater than those before it
abbrev pub Rising : List ℕ → Type 0
Rising [] = Unit {0}
Rising (x ∷ xs) = AllAbove x xs × Rising xs

-- What a pass took is what stood at its places, which rise. Each unit that was pushed is below its bound, and the owner's bound is
-- no greater.
pub record Knows (pushed : List ℕ) (least : ℕ) (v : DequeView) : Type 0 where
  pub stand : AllStand pushed v.taken
  pub rising : Rising (places_of v)
  pub below : AllBelow v.bound pushed
  pub bound : least ≤ v.bound

-- All that was ever pushed is what is gone, and then what is in the deque. Each place of what is gone was taken once, by one
-- pass, and no other place was.
pub record TakenInOrder (items : List ℕ) (views : List DequeView) : Type 0 where
  pub gone : List ℕ
  pub pushed : pushed_of views ≡ gone ++ items
  pub once : (place : ℕ) → place < length gone → times_taken place views ≡ 1
  pub no_other : (place : ℕ) → length gone ≤ place → times_taken place views ≡ 0
  pub each : (k : ℕ) (v : DequeView) → get_elem? views k ≡ some v → Knows (pushed_of views) (owner_of views).bound v

-- Where one of its passes knows this, the deque may be empty: what a pass learns that finds no unit there.
abbrev pub WasEmpty : DequeView → Type 0
WasEmpty v = (views : List DequeView) × (port : ℕ) × TakenInOrder [] views × (get_elem? views port ≡ some v)

-- the same pass, once it has pushed this unit
abbrev pub with_pushed : DequeView → ℕ → DequeView
with_pushed v unit = record { bound = v.bound; pushed = v.pushed ++ unit ∷ []; taken = v.taken }

-- the same pass, once it has taken this unit from this place
abbrev pub with_taken : DequeView → ℕ → ℕ → DequeView
with_taken v place unit =
    record { bound = v.bound; pushed = v.pushed; taken = v.taken ++ record { place = place; unit = unit } ∷ [] }

-- The pass took this unit, which joins what it took; its place is behind those of all that the pass took before.
abbrev pub Took : DequeView → ℕ → DequeView → Type 0
Took old unit new = (place : ℕ) × AllBelow place (places_of old) × (unit < old.bound) × (new ≡ with_taken old place unit)

-- The same of the owner, which knows what it pushed: the unit is the one at this place.
abbrev pub TookOwn : DequeView → ℕ → DequeView → Type 0
TookOwn old unit new =
    (place : ℕ) × AllBelow place (places_of old) × Stands old.pushed (record { place = place; unit = unit })
    × (new ≡ with_taken old place unit)

-- Words of the proofs: a reader of the contracts needs none of them.
-- What a step on a deque tells the pass that makes it, and how the other deques are tried one after another.
use Rattle.std.specs.Prelude.{◌≡◌, ℕ, ◌-◌, ◌<◌, ◌≤◌, List, [], ◌∷◌, ◌++◌, length, map, All}
use lib.ListN.{get_elem?}
use Rattle.steal_desk.specs.declared.view.DequeView.{DequeView}
use Rattle.steal_desk.specs.declared.seats.Other.{Other}
use Rattle.steal_desk.specs.Deques.{Took, TookOwn}
use Rattle.steal_desk.specs.Seats.{IsOther, deque_of}
use Rattle.steal_desk.specs.Taking.{FindNone, StealsFrom}

-- all that was pushed
abbrev pub pushed : DequeView → List ℕ → DequeView → Type 0
pushed v xs w = w ≡ record { bound = v.bound; pushed = v.pushed ++ xs; taken = v.taken }

-- one unit was taken
abbrev pub stolen : DequeView → List ℕ → DequeView → Type 0
stolen v [] w = ⊥
stolen v (x ∷ xs) w = Took v x w

abbrev pub popped : DequeView → List ℕ → DequeView → Type 0
popped v [] w = ⊥
popped v (x ∷ xs) w = (x < v.bound) × TookOwn v x w

abbrev pub with_one_less : DequeView → DequeView
with_one_less v = record { bound = v.bound - 1; pushed = v.pushed; taken = v.taken }

-- these are deques as they were
pub record AreKept (units : ℕ) (olds news : List Other) : Type 0 where
  pub others : All (IsOther units) news
  pub long : length news ≡ length olds
  pub deques : map deque_of news ≡ map deque_of olds

-- the first i have given no unit, and the rest were not tried
pub record AreTried (units i : ℕ) (olds news : List Other) : Type 0 where
  pub kept : AreKept units olds news
  pub none : FindNone i olds news
  pub rest : (j : ℕ) → i ≤ j → get_elem? news j ≡ get_elem? olds j

-- one of them has given the unit
pub record HaveGiven (units unit : ℕ) (olds news : List Other) : Type 0 where
  pub kept : AreKept units olds news
  pub below : unit < units
  pub steals : (k : ℕ) × StealsFrom k olds unit news

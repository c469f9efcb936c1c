-- Numbers that passes draw: each once, a pass's own rising.
use Rattle.std.specs.Prelude.{◌≡◌, ◌⊎◌, ℕ, suc, ◌+◌, ◌-◌, ◌*◌, ◌%◌, ◌^◌, ◌<◌, ◌≤◌, Bool, true, false, List, [], ◌∷◌, ◌++◌, length, slice_index, eqb, Option, Some, None}
use mathlib.Core.Option.{some}
use lib.ListN.{get_elem?}
use Rattle.atomic_table.specs.Table.{State}
use Rattle.turn_desk.specs.declared.view.PassView.{PassView}

-- a pass that has drawn nothing, at a desk that gives the numbers below the limit
abbrev pub new_pass : ℕ → PassView
new_pass limit = record { limit = limit; drawn = []; ended = false; passes = 1 }

-- the pass that all others come from
abbrev pub opening_pass : ℕ → PassView
opening_pass limit = record { limit = limit; drawn = []; ended = false; passes = 2 ^ 32 }

-- the same pass, once it has drawn this number too
abbrev pub with_number : PassView → ℕ → PassView
with_number v n = record { limit = v.limit; drawn = v.drawn ++ n ∷ []; ended = v.ended; passes = v.passes }

-- each number of the list is less than n
abbrev pub AllBelow : ℕ → List ℕ → Type 0
AllBelow n [] = Unit {0}
AllBelow n (x ∷ xs) = (x < n) × AllBelow n xs

-- What a draw answers: a number below the limit and greater than all that the pass drew before, which joins them;
-- or none, where a step of this pass found no number left, and from then on.
abbrev pub Draws : ℕ → PassView → Option ℕ → PassView → Type 0
Draws limit old (Some n) new = (n < limit) × AllBelow n old.drawn × (old.ended ≡ false) × (new ≡ with_number old n)
Draws limit old None new = (new.drawn ≡ old.drawn) × (new.ended ≡ true)

-- the unit that the drawn number stands for, or none
abbrev pub TakesTurn : ℕ → PassView → Option ℕ → PassView → Type 0
TakesTurn units old (Some unit) new = (n : ℕ) × Draws (32 * units) old (Some n) new × (unit ≡ n % units)
TakesTurn units old None new = Draws (32 * units) old None new

-- the number behind the last one that was drawn
abbrev pub behind : List ℕ → ℕ
behind [] = 0
behind (x ∷ []) = suc x
behind (x ∷ y ∷ ys) = behind (y ∷ ys)

-- how many numbers there are that the pass may still draw
abbrev pub left_of : ℕ → PassView → ℕ
left_of limit v = limit - behind v.drawn

abbrev pub one_if : Bool → ℕ
one_if true = 1
one_if false = 0

-- how often the number stands in the list
abbrev pub times : ℕ → List ℕ → ℕ
times x [] = 0
times x (y ∷ ys) = one_if (eqb y x) + times x ys

-- how often the passes drew the number
abbrev pub times_drawn : ℕ → List PassView → ℕ
times_drawn x [] = 0
times_drawn x (v ∷ vs) = times x v.drawn + times_drawn x vs

-- how many passes these may be
abbrev pub passes_of : List PassView → ℕ
passes_of [] = 0
passes_of (v ∷ vs) = v.passes + passes_of vs

-- The word is the number that is drawn next. Each number below it and below the limit was drawn once, by one pass, and no other number
-- was. A pass may end only where the word has reached the limit, and gives up its place among the 2^32; the word is above the limit
-- by no more than the places that were given up.
pub record EachDrawnOnce (limit : ℕ) (s : State (Unit {0}) PassView) : Type 0 where
  pub one_word : length s.words ≡ 1
  pub once : (x : ℕ) → x < limit → x < slice_index s.words 0 → times_drawn x s.views ≡ 1
  pub no_other : (x : ℕ) → (limit ≤ x) ⊎ (slice_index s.words 0 ≤ x) → times_drawn x s.views ≡ 0
  pub ended : (k : ℕ) (v : PassView) → get_elem? s.views k ≡ some v → v.ended ≡ true → limit ≤ slice_index s.words 0
  pub few : passes_of s.views ≤ 2 ^ 32
  pub short : slice_index s.words 0 + passes_of s.views ≤ limit + 2 ^ 32

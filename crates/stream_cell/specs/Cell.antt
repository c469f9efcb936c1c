-- The rule of a cell: between any two steps there is one history, and all that passes know is of it.
use Rattle.std.specs.Prelude.{◌≡◌, ◌<◌, ◌≤◌, ◌∷◌, ℕ, zero, suc, [], Bool, true, false, Contains, List, count_by, length, nat_eq, nat_lt, slice_index, sum_by, if◌then◌else◌}
use mathlib.Core.Option.{some}
use Rattle.std.specs.List.{AllByRecursion}
use Rattle.atomic_table.specs.Table.{State}
use Rattle.relaxation.specs.Tube.{Tube}
use Rattle.relaxation.specs.History.{History, numbered}
use Rattle.stream_cell.specs.declared.view.Opening.{Opening}
use Rattle.stream_cell.specs.declared.view.PassView.{PassView}
use Rattle.stream_cell.specs.declared.view.Turn.{Turn}
use Rattle.stream_cell.specs.declared.view.Turn.TheVariants.{Free, Held, Read}
use Rattle.stream_cell.specs.Histories.{IsHistoryOf}
use Rattle.stream_cell.specs.Passes.{IsOf, new_pass}

-- n new passes of so many, with numbers from k on
abbrev pub passes_from : Tube → ℕ → ℕ → ℕ → List PassView
passes_from opening passes k zero = []
passes_from opening passes k (suc n) = new_pass opening passes k ∷ passes_from opening passes (suc k) n

-- the seat that all others are cut off stands for all passes
abbrev pub opening_passes : Opening → List PassView
opening_passes about = passes_from about.tube about.passes 0 about.passes

abbrev pub is_taken : Turn → Bool
is_taken Free = false
is_taken (Held history) = true
is_taken Read = true

-- one of the seats stands for this pass
abbrev pub IsIn : List (List PassView) → PassView → Type 0
IsIn views v = (seat : List PassView) × Contains views seat × Contains seat v

-- how many passes the seats stand for
abbrev pub passes_in : List (List PassView) → ℕ
passes_in views = sum_by length views

-- how many of them have the turn
abbrev pub turns_in : List (List PassView) → ℕ
turns_in views = sum_by (count_by (λ (v : PassView). is_taken v.turn)) views

-- how many of them have this number
abbrev pub times_in : ℕ → List (List PassView) → ℕ
times_in k views = sum_by (count_by (λ (v : PassView). nat_eq v.number k)) views

-- It is of the history, and one of so many passes. What it holds with the turn is the history, and what it has read with the turn is
-- the whole of it.
pub record IsAmid (passes : ℕ) (history : History) (v : PassView) : Type 0 where
  pub of : IsOf history v
  pub among : v.passes ≡ passes
  pub holds : (held : History) → v.turn ≡ Held held → held ≡ history
  pub reads : v.turn ≡ Read → v.seen ≡ history

-- The first word is the number of passes that have the turn, 0 or 1; at 0 the history is at home. The second is the number of
-- versions. Each number below that of all passes is that of one pass, and these made all versions above 0.
pub record IsCell (about : Opening) (s : State History (List PassView)) : Type 0 where
  pub history : History
  pub of : IsHistoryOf about.tube history
  pub words : length s.words ≡ 2
  pub turns : slice_index s.words 0 ≡ turns_in s.views
  pub few : turns_in s.views ≤ 1
  pub home : turns_in s.views ≡ 0 → s.homes ≡ some history ∷ []
  pub counted : slice_index s.words 1 ≡ length history
  pub passes : AllByRecursion (AllByRecursion (IsAmid about.passes history)) s.views
  pub all : passes_in s.views ≡ about.passes
  pub once : (k : ℕ) → times_in k s.views ≡ (if nat_lt k about.passes then 1 else 0)
  pub makers : (k : ℕ) → 0 < k → k < length history → (numbered history k).maker < about.passes

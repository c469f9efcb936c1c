-- The made versions of all histories in one list, by stamp and then by stream.
use Rattle.std.specs.Prelude.{◌≡◌, ◌⊎◌, ℕ, ◌<◌, ◌≤◌, false, List, [], ◌∷◌, length, map, drop, flat_map, IsPermutation}
use Rattle.std.specs.List.{range_with_len}
use Rattle.relaxation.specs.Tube.{meet}
use Rattle.relaxation.specs.Window.{Window}
use Rattle.relaxation.specs.Core.{Versions, Step, versions_of, last_of, step_renewal, is_idle, after_step, IsLegal}
use Rattle.relaxation.specs.History.{Version, History, history_of}

-- a made version of a stream
pub record Made : Type 0 where
  pub stream : ℕ
  pub version : Version

-- the made versions of a stream: those after the opening one
abbrev pub made_of : List History → ℕ → List Made
made_of histories s = map (λ v. record { stream = s; version = v }) (drop 1 (history_of histories s))

-- of all streams, stream by stream
abbrev pub all_made : List History → List Made
all_made histories = flat_map (made_of histories) (range_with_len 0 (length histories))

-- in order: the lesser stamp first, and of one stamp the lesser stream
abbrev pub IsBefore : Made → Made → Type 0
IsBefore a b = (a.version.stamp < b.version.stamp) ⊎ ((a.version.stamp ≡ b.version.stamp) × (a.stream ≤ b.stream))

abbrev pub IsInOrder : List Made → Type 0
IsInOrder [] = Unit {0}
IsInOrder (a ∷ []) = Unit {0}
IsInOrder (a ∷ b ∷ rest) = IsBefore a b × IsInOrder (b ∷ rest)

-- every made version of every stream once, in order
pub record IsGathered (histories : List History) (made : List Made) : Type 0 where
  pub all : IsPermutation (all_made histories) made
  pub order : IsInOrder made

-- the step that a made version is
abbrev pub step_of : Made → Step
step_of made = record { stream = made.stream; inputs = made.version.refs }

-- The next version of its stream, from versions that are there, the meet of the last version with the renewal, which narrows it.
pub record CanAdopt (window : Window) (state : Versions) (made : Made) : Type 0 where
  pub next : made.version.number ≡ length (versions_of state made.stream)
  pub legal : IsLegal window state (step_of made)
  pub tube : made.version.tube ≡ meet (last_of state made.stream) (step_renewal window state (step_of made))
  pub narrows : is_idle window state (step_of made) ≡ false

-- each in its turn
abbrev pub CanAdoptAll : Window → Versions → List Made → Type 0
CanAdoptAll window state [] = Unit {0}
CanAdoptAll window state (made ∷ rest) = CanAdopt window state made × CanAdoptAll window (after_step window state (step_of made)) rest

-- the tubes of each history
abbrev pub tubes_of : List History → Versions
tubes_of histories = map (λ history. map (λ (v : Version). v.tube) history) histories

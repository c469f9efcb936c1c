-- The relaxation core: versions of each stream, and steps that narrow one stream by one renewal. It knows no threads.
use Rattle.std.specs.Prelude.{◌≡◌, ℕ, ◌-◌, ◌<◌, Bool, false, List, [], ◌∷◌, ◌++◌, length, map, sum_by, slice_index_or, slice_set, if◌then◌else◌}
use Rattle.std.specs.List.{range_with_len}
use Rattle.flowsheet.specs.Plant.{Origin, feed, port, unit_at, origin_of}
use Rattle.relaxation.specs.Tube.{Tube, IsWithin, is_within, meet}
use Rattle.relaxation.specs.Window.{Window, renewal}

-- the versions of each stream, oldest first
abbrev pub Versions : Type 0
Versions = List (List Tube)

-- each stream has its opening tube as version 0
abbrev pub opening_versions : Window → Versions
opening_versions window = map (λ s. window.opening s ∷ []) (range_with_len 0 (length window.plant.streams))

abbrev pub versions_of : Versions → ℕ → List Tube
versions_of state s = slice_index_or state s []

abbrev pub version_at : Versions → ℕ → ℕ → Tube
version_at state s k = slice_index_or (versions_of state s) k []

abbrev pub last_of : Versions → ℕ → Tube
last_of state s = version_at state s (length (versions_of state s) - 1)

-- a step: the stream, and the number of the version that is read at each input port of its unit
pub record Step : Type 0 where
  pub stream : ℕ
  pub inputs : List ℕ

-- the versions with these numbers of these streams
abbrev pub named : Versions → List ℕ → List ℕ → List Tube
named state [] numbers = []
named state (s ∷ streams) [] = []
named state (s ∷ streams) (k ∷ numbers) = version_at state s k ∷ named state streams numbers

-- they are there, one for each stream
abbrev pub AreThere : Versions → List ℕ → List ℕ → Type 0
AreThere state [] [] = Unit {0}
AreThere state [] (k ∷ numbers) = ⊥
AreThere state (s ∷ streams) [] = ⊥
AreThere state (s ∷ streams) (k ∷ numbers) = (k < length (versions_of state s)) × AreThere state streams numbers

-- the renewal of a stream from versions with these numbers; a feed renews to its last version
abbrev pub origin_renewal : Window → Versions → ℕ → List ℕ → Origin → Tube
origin_renewal window state s numbers (feed f) = last_of state s
origin_renewal window state s numbers (port u p) = renewal window u p (named state (unit_at window.plant u).reads numbers)

abbrev pub step_renewal : Window → Versions → Step → Tube
step_renewal window state step = origin_renewal window state step.stream step.inputs (origin_of window.plant step.stream)

-- a unit gives the stream, and each named version is there
abbrev pub IsLegalFrom : Window → Versions → List ℕ → Origin → Type 0
IsLegalFrom window state numbers (feed f) = ⊥
IsLegalFrom window state numbers (port u p) = AreThere state (unit_at window.plant u).reads numbers

pub record IsLegal (window : Window) (state : Versions) (step : Step) : Type 0 where
  pub stream : step.stream < length window.plant.streams
  pub inputs : IsLegalFrom window state step.inputs (origin_of window.plant step.stream)

-- the step narrows nothing: the stream's last version lies in the renewal
abbrev pub is_idle : Window → Versions → Step → Bool
is_idle window state step = is_within (last_of state step.stream) (step_renewal window state step)

-- the step appends the meet of the last version with the renewal, where that is narrower, and else nothing
abbrev pub after_step : Window → Versions → Step → Versions
after_step window state step =
    if is_idle window state step then state
    else slice_set state step.stream (versions_of state step.stream ++ meet (last_of state step.stream) (step_renewal window state step) ∷ [])

-- the versions after a list of steps
abbrev pub replay : Window → Versions → List Step → Versions
replay window state [] = state
replay window state (step ∷ steps) = replay window (after_step window state step) steps

-- the versions after steps from the opening ones
abbrev pub reached : Window → List Step → Versions
reached window steps = replay window (opening_versions window) steps

-- each step is legal in its turn
abbrev pub AreLegal : Window → Versions → List Step → Type 0
AreLegal window state [] = Unit {0}
AreLegal window state (step ∷ steps) = IsLegal window state step × AreLegal window (after_step window state step) steps

-- each step appends a version
abbrev pub AreNarrowing : Window → Versions → List Step → Type 0
AreNarrowing window state [] = Unit {0}
AreNarrowing window state (step ∷ steps) = (is_idle window state step ≡ false) × AreNarrowing window (after_step window state step) steps

-- the steps that append a version
abbrev pub narrowing : Window → Versions → List Step → List Step
narrowing window state [] = []
narrowing window state (step ∷ steps) =
    if is_idle window state step then narrowing window (after_step window state step) steps
    else step ∷ narrowing window (after_step window state step) steps

-- how many versions were appended
abbrev pub appended : Versions → ℕ
appended state = sum_by (λ versions. length versions - 1) state

-- the numbers of the last versions of these streams
abbrev pub last_numbers : Versions → List ℕ → List ℕ
last_numbers state streams = map (λ s. length (versions_of state s) - 1) streams

-- the step of a stream from the last versions of what this unit reads
abbrev pub last_step : Window → Versions → ℕ → ℕ → Step
last_step window state u s = record { stream = s; inputs = last_numbers state (unit_at window.plant u).reads }

-- the stream's last version lies in its renewal from the last versions
abbrev pub IsSettled : Window → Versions → ℕ → Origin → Type 0
IsSettled window state s (feed f) = Unit {0}
IsSettled window state s (port u p) =
    IsWithin (last_of state s) (renewal window u p (map (last_of state) (unit_at window.plant u).reads))

-- no renewal from the last versions narrows any stream
abbrev pub IsQuiet : Window → Versions → Type 0
IsQuiet window state = (s : ℕ) → s < length window.plant.streams → IsSettled window state s (origin_of window.plant s)

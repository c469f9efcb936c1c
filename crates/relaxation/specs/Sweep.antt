-- A sweep: each stream of a unit is renewed once from versions no older than the newest before the sweep, or is settled already.
use Rattle.std.specs.Prelude.{◌≡◌, ◌⊎◌, ℕ, ◌+◌, ◌*◌, ◌-◌, ◌<◌, ◌≤◌, List, [], ◌∷◌, length, map, Contains, count_by, ◌==◌}
use Rattle.flowsheet.specs.Plant.{Plant, Origin, feed, port, unit_at, origin_of, rank_of}
use Rattle.flowsheet.specs.Reading.{on_bands}
use Rattle.flowsheet.specs.Run.{run_streams}
use Rattle.relaxation.specs.Tube.{at}
use Rattle.relaxation.specs.Window.{Window}
use Rattle.relaxation.specs.Core.{Versions, Step, versions_of, last_of, AreLegal, replay, IsSettled}

-- each number is that of the newest version of its stream in the state, or greater
abbrev pub AreNewest : Versions → List ℕ → List ℕ → Type 0
AreNewest state [] numbers = Unit {0}
AreNewest state (s ∷ streams) [] = Unit {0}
AreNewest state (s ∷ streams) (k ∷ numbers) = (length (versions_of state s) - 1 ≤ k) × AreNewest state streams numbers

abbrev pub ReadsNewest : Window → Versions → List ℕ → Origin → Type 0
ReadsNewest window state numbers (feed f) = Unit {0}
ReadsNewest window state numbers (port u p) = AreNewest state (unit_at window.plant u).reads numbers

pub record IsSweep (window : Window) (state : Versions) (steps : List Step) : Type 0 where
  pub legal : AreLegal window state steps
  pub newest : (step : Step) → Contains steps step → ReadsNewest window state step.inputs (origin_of window.plant step.stream)
  pub once : (s : ℕ) → count_by (λ (step : Step). step.stream == s) steps ≤ 1
  pub covers : (s : ℕ) → s < length window.plant.streams →
      Contains (map (λ (step : Step). step.stream) steps) s ⊎ IsSettled window state s (origin_of window.plant s)

-- sweeps one after another
abbrev pub AreSweeps : Window → Versions → List (List Step) → Type 0
AreSweeps window state [] = Unit {0}
AreSweeps window state (steps ∷ sweeps) = IsSweep window state steps × AreSweeps window (replay window state steps) sweeps

abbrev pub replay_sweeps : Window → Versions → List (List Step) → Versions
replay_sweeps window state [] = state
replay_sweeps window state (steps ∷ sweeps) = replay_sweeps window (replay window state steps) sweeps

-- places in their order: by tick, and then by rank
abbrev pub place : Plant → ℕ → ℕ → ℕ
place plant t s = t * (plant.top + 1) + rank_of plant s

-- the last versions are the run at each place below the k-th
abbrev pub IsRunBelow : Window → Versions → ℕ → Type 0
IsRunBelow window state k = (t s : ℕ) → t < window.ticks → s < length window.plant.streams → place window.plant t s < k →
    at (last_of state s) t ≡ run_streams (on_bands window.plant) window.plant window.carried window.feeds t s

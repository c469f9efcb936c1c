-- A board's versions are those of a window that keeps the run, and a step that narrows leaves a board.
use Rattle.std.proofs.Common.{◌≡◌, ◌∙◌, ℕ, ◌<◌, List, [], ◌∷◌, ◌++◌, length, refl, sym, ap, subst, arith, false}
use Rattle.std.proofs.lemmas.List.{map-append}
use Rattle.std.proofs.lemmas.List.FromFn.{get_or-map-range_with_len}
use Rattle.relaxation.specs.Tube.{IsWithin}
use Rattle.relaxation.specs.Window.{Window, IsOpen, run_tube}
use Rattle.relaxation.specs.Core.{Versions, Step, opening_versions, versions_of, version_at, IsLegal, is_idle, after_step, replay, reached, AreLegal, AreNarrowing}
use Rattle.relaxation.proofs.Chains.{tube_at, versions-fall}
use Rattle.relaxation.proofs.Sequences.{replay-append, legal-append, narrowing-append}
use Rattle.relaxation.proofs.States.{KeepsRun, reached-kept}
use Rattle.relaxation.proofs.Stays.{replay-stays}
use Rattle.plant_streams.specs.Streams.{streams_of}
use Rattle.plant.proofs.Lookups.{streams-counted}
use Rattle.renewal.specs.Plan.{PlanOf, IsPlan, window_of}
use Rattle.renewal.proofs.Windows.{is-open}
use Rattle.relax_core.specs.Making.{AreVersionsWithin}
use Rattle.relax_core.proofs.Readings.{stream-there}
use Rattle.relax_core.specs.Board.{RowOf, BoardOf, IsBoard, step_in, rows_from, steps_in, opened, opening_board, after}

pub opening-is : (plan : PlanOf) → IsPlan plan → IsBoard (opening_board plan)
opening-is plan h = record { plan = h; legal = tt; narrowing = tt; numbered = refl; versions = refl }

-- the row of a step more
rows-more : (window : Window) (state : Versions) (steps more : List Step) →
    rows_from window state (steps ++ more) ≡ rows_from window state steps ++ rows_from window (replay window state steps) more
rows-more window state [] more = refl
rows-more window state (step ∷ steps) more =
    ap (λ (rows : List RowOf). record { stream = step.stream; version = length (versions_of state step.stream); refs = step.inputs } ∷ rows)
    (rows-more window (after_step window state step) steps more)

module _ (board : BoardOf) (is : IsBoard board) where
  abbrev window : Window
  window = window_of board.plan

  pub board-open : IsOpen (window_of board.plan)
  board-open = is-open board.plan is.plan

  pub board-kept : KeepsRun (window_of board.plan) board-open board.versions
  board-kept = subst (KeepsRun window board-open) (sym is.versions) (reached-kept window board-open (steps_in board) is.legal)

  pub streams-there : length board.versions ≡ length (streams_of board.plan.parts)
  streams-there = board-kept.counted ∙ streams-counted board.plan.parts

  pub stream-below : (s : ℕ) → s < length (streams_of board.plan.parts) → s < length window.plant.streams
  stream-below s l = subst (λ n. s < n) (sym (streams-counted board.plan.parts)) l

  pub some-version : (s : ℕ) → s < length (streams_of board.plan.parts) → 0 < length (versions_of board.versions s)
  some-version s l = (board-kept.each s (stream-below s l)).some

  -- version 0 is the opening tube
  pub first-version : (s : ℕ) → s < length (streams_of board.plan.parts) → version_at board.versions s 0 ≡ window.opening s
  first-version s l =
      let at : versions_of (opening_versions window) s ≡ window.opening s ∷ []
      = get_or-map-range_with_len (λ q. window.opening q ∷ []) 0 (length window.plant.streams) s s [] (stream-below s l) (omega arith) in
      ap (λ state. version_at state s 0) is.versions
      ∙ (replay-stays window (opening_versions window) (steps_in board) s).same 0 (omega (arith, ap length at))
      ∙ ap (λ versions. tube_at versions 0) at

  -- each version lies in the opening tube
  pub versions-within : (s k : ℕ) → s < length (streams_of board.plan.parts) → k < length (versions_of board.versions s) →
      IsWithin (version_at board.versions s k) ((window_of board.plan).opening s)
  versions-within s k l m = subst (IsWithin (version_at board.versions s k)) (first-version s l)
      (versions-fall (run_tube window s) (window.opening s) (versions_of board.versions s) (board-kept.each s (stream-below s l)) 0 k (omega arith) m)

  -- the steps of a board after one more
  steps-more : (step : Step) → steps_in (after board step) ≡ steps_in board ++ step ∷ []
  steps-more step = map-append step_in board.rows (rows_from window board.versions (step ∷ []))

  pub after-is : (step : Step) → IsLegal (window_of board.plan) board.versions step →
      is_idle (window_of board.plan) board.versions step ≡ false → IsBoard (after board step)
  after-is step legal narrows = record {
    plan = is.plan;
    legal = subst (AreLegal window (opened board.plan)) (sym (steps-more step))
        (legal-append window (opened board.plan) (steps_in board) (step ∷ []) is.legal
        (subst (λ state. AreLegal window state (step ∷ [])) is.versions (legal, tt)));
    narrowing = subst (AreNarrowing window (opened board.plan)) (sym (steps-more step))
        (narrowing-append window (opened board.plan) (steps_in board) (step ∷ []) is.narrowing
        (subst (λ state. AreNarrowing window state (step ∷ [])) is.versions (narrows, tt)));
    numbered =
        ap (λ rows. rows ++ rows_from window board.versions (step ∷ [])) is.numbered
        ∙ ap (λ state. rows_from window (opened board.plan) (steps_in board) ++ rows_from window state (step ∷ [])) is.versions
        ∙ sym (rows-more window (opened board.plan) (steps_in board) (step ∷ []))
        ∙ ap (rows_from window (opened board.plan)) (sym (steps-more step));
    versions =
        ap (λ state. after_step window state step) is.versions
        ∙ sym (replay-append window (opened board.plan) (steps_in board) (step ∷ []))
        ∙ ap (reached window) (sym (steps-more step));
  }

-- a board before any step, part by part
abbrev pub board_of : PlanOf → Versions → List RowOf → BoardOf
board_of plan versions rows = record { plan = plan; versions = versions; rows = rows }

pub opening-seen : (plan : PlanOf) (versions : Versions) (rows : List RowOf) → versions ≡ opened plan → rows ≡ [] →
    board_of plan versions rows ≡ opening_board plan
opening-seen plan versions rows e k = ap (λ state. board_of plan state rows) e ∙ ap (board_of plan (opened plan)) k

-- a stream of the board that is seen has a line, and a version
pub line-there : (board : BoardOf) (is : IsBoard board) (seen : BoardOf) → board ≡ seen → (s : ℕ) →
    s < length (streams_of seen.plan.parts) → s < length board.versions
line-there board is seen e s l =
    let there : s < length (streams_of board.plan.parts) = subst (λ (x : BoardOf). s < length (streams_of x.plan.parts)) (sym e) l in
    omega (arith, streams-there board is)

pub version-there : (board : BoardOf) (is : IsBoard board) (seen : BoardOf) → board ≡ seen → (s : ℕ) →
    s < length (streams_of seen.plan.parts) → 0 < length (versions_of board.versions s)
version-there board is seen e s l =
    some-version board is s (subst (λ (x : BoardOf). s < length (streams_of x.plan.parts)) (sym e) l)

-- each version lies in the tube that its stream opens with
pub all-within : (board : BoardOf) → IsBoard board → AreVersionsWithin board.plan board.versions
all-within board is s k m =
    versions-within board is s k (omega (arith, stream-there board.versions s k m, streams-there board is)) m

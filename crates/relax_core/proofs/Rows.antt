-- Rows of narrowing steps: of each stream as many as its versions grew by.
use Rattle.std.proofs.Common.{◌≡◌, ◌∙◌, ℕ, ◌+◌, ◌<◌, ◌≤◌, List, [], ◌∷◌, ◌++◌, length, length-set, cond}
use Rattle.std.proofs.Common.{refl, sym, ap, subst, arith, inl, inr, false, eq-eqb, ne_eqb, get_or-set_same}
use Rattle.std.specs.Prelude.{◌==◌, count_by}
use Rattle.std.proofs.lemmas.Bool.{cases_eq, cases_lt}
use Rattle.std.proofs.lemmas.List.{length_push}
use Rattle.std.proofs.lemmas.List.Sums.{sum_by-cons}
use Rattle.plant.proofs.Lookups.{streams-counted}
use Rattle.plant_streams.specs.Streams.{streams_of}
use Rattle.relaxation.specs.Tube.{meet}
use Rattle.relaxation.specs.Window.{Window}
use Rattle.relaxation.specs.Core.{Versions, Step, versions_of, last_of, step_renewal, is_idle, after_step, replay}
use Rattle.relaxation.specs.Core.{AreLegal, AreNarrowing}
use Rattle.relaxation.proofs.Sequences.{after-narrows, versions-elsewhere}
use Rattle.renewal.specs.Plan.{window_of}
use Rattle.relax_core.specs.Board.{RowOf, BoardOf, IsBoard, rows_from}
use Rattle.relax_core.specs.Settling.{GoesOn, BeginWith}
use Rattle.relax_core.proofs.Boards.{streams-there}

-- one for the stream itself, and none for another
abbrev pub marks : ℕ → ℕ → ℕ
marks q s = cond (q == s) 1 0

abbrev steps_of : List Step → ℕ → ℕ
steps_of steps s = count_by (λ (step : Step). step.stream == s) steps

abbrev rows_of : List RowOf → ℕ → ℕ
rows_of rows s = count_by (λ (row : RowOf). row.stream == s) rows

module _ (window : Window) where
  -- a row for each step
  rows-counted : (state : Versions) (steps : List Step) (s : ℕ) → rows_of (rows_from window state steps) s ≡ steps_of steps s
  rows-counted state [] s = refl
  rows-counted state (step ∷ steps) s =
      let next = after_step window state step in
      let row : RowOf
      = record { stream = step.stream; version = length (versions_of state step.stream); refs = step.inputs } in
      omega (
        arith,
        sum_by-cons (λ (x : RowOf). marks x.stream s) row (rows_from window next steps),
        sum_by-cons (λ (x : Step). marks x.stream s) step steps,
        rows-counted next steps s,
      )

  -- legal steps are of streams that are there
  none-past : (state : Versions) (steps : List Step) (s : ℕ) → AreLegal window state steps →
      length window.plant.streams ≤ s → steps_of steps s ≡ 0
  none-past state [] s legal past = refl
  none-past state (step ∷ steps) s legal past =
      let other : marks step.stream s ≡ 0
      = rw (ne_eqb step.stream s (λ e. absurd (omega (arith, legal.0.stream, e)))) refl in
      omega (
        arith,
        other,
        sum_by-cons (λ (x : Step). marks x.stream s) step steps,
        none-past (after_step window state step) steps s legal.1 past,
      )

  -- a narrowing step appends a version of its stream
  own-more : (state : Versions) (step : Step) → is_idle window state step ≡ false → step.stream < length state →
      length (versions_of (after_step window state step) step.stream) ≡ length (versions_of state step.stream) + 1
  own-more state step narrows there =
      let own = versions_of state step.stream in
      let tube = meet (last_of state step.stream) (step_renewal window state step) in
      ap (λ (x : Versions). length (versions_of x step.stream)) (after-narrows window state step narrows)
      ∙ ap length (get_or-set_same state step.stream (own ++ tube ∷ []) [] there)
      ∙ length_push own tube

  one-more : (state : Versions) (step : Step) (s : ℕ) → is_idle window state step ≡ false → s < length state →
      length (versions_of (after_step window state step) s) ≡ length (versions_of state s) + marks step.stream s
  one-more state step s narrows there = elim (cases_eq s step.stream) [
    | inl e ↦ subst (λ q. length (versions_of (after_step window state step) q) ≡ length (versions_of state q) + marks step.stream q)
        (sym e)
        (rw (eq-eqb step.stream step.stream refl)
        (own-more state step narrows (subst (λ q. q < length state) e there)))
    | inr n ↦ (let other : marks step.stream s ≡ 0 = rw (ne_eqb step.stream s (λ e. n (sym e))) refl in
        omega (arith, other, ap length (versions-elsewhere window state step s n)))
  ]

  step-lines : (state : Versions) (step : Step) → is_idle window state step ≡ false →
      length (after_step window state step) ≡ length state
  step-lines state step narrows =
      ap length (after-narrows window state step narrows) ∙ length-set state step.stream _

  -- and narrowing steps as many as there are of the stream
  versions-more : (state : Versions) (steps : List Step) (s : ℕ) → AreNarrowing window state steps → s < length state →
      length (versions_of (replay window state steps) s) ≡ length (versions_of state s) + steps_of steps s
  versions-more state [] s narrowing there = omega arith
  versions-more state (step ∷ steps) s narrowing there =
      let next = after_step window state step in
      omega (
        arith,
        one-more state step s narrowing.0 there,
        sum_by-cons (λ (x : Step). marks x.stream s) step steps,
        versions-more next steps s narrowing.1 (omega (arith, step-lines state step narrowing.0)),
      )

-- a board that goes on begins with the old rows
pub goes-begin : (start board : BoardOf) → IsBoard start → GoesOn start board → (most : ℕ) →
    ((s : ℕ) → s < length (streams_of start.plan.parts) →
    length (versions_of board.versions s) ≤ length (versions_of start.versions s) + most) →
    BeginWith start.rows most board.rows
goes-begin start board is h most few =
    let window = window_of start.plan in
    record {
      more = rows_from window start.versions h.steps;
      begin = ap (λ (b : BoardOf). b.rows) h.leads;
      few = λ s. elim (cases_lt s (length (streams_of start.plan.parts))) [
        | inl l ↦ omega (
          arith,
          rows-counted window start.versions h.steps s,
          versions-more window start.versions h.steps s h.narrowing (omega (arith, l, streams-there start is)),
          ap (λ (b : BoardOf). length (versions_of b.versions s)) h.leads,
          few s l,
        )
        | inr past ↦ omega (
          arith,
          rows-counted window start.versions h.steps s,
          none-past window start.versions h.steps s h.legal (omega (arith, past, streams-counted start.plan.parts)),
        )
      ];
    }

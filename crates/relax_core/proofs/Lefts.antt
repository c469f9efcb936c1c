-- What a board leaves is a window of its plant.
use Rattle.std.proofs.Common.{◌≡◌, ◌∙◌, ℕ, ◌-◌, ◌<◌, List, [], ◌∷◌, length, map, slice_index_or, sym, ap, subst, arith}
use Rattle.std.specs.List.{range_with_len, AllByRecursion}
use Rattle.std.proofs.lemmas.List.{ext_get_or, length-map}
use Rattle.std.proofs.lemmas.List.FromFn.{get_or-map-range_with_len, length-map-range_with_len}
use Rattle.quant.proofs.Calls.{inside-length}
use Rattle.relaxation.specs.Tube.{Tube, IsWithin, at}
use Rattle.relaxation.specs.Window.{Window, run_tube}
use Rattle.relaxation.specs.Core.{Versions, Step, versions_of, last_of, after_step, AreLegal, IsQuiet}
use Rattle.relaxation.proofs.Ticks.{within-at}
use Rattle.relaxation.proofs.States.{version-holds}
use Rattle.relaxation.proofs.Quiet.{quiet-run}
use Rattle.plant.proofs.Lookups.{streams-counted}
use Rattle.plant_streams.specs.Streams.{streams_of}
use Rattle.plant_streams.specs.Limits.{limits_at}
use Rattle.renewal.specs.Plan.{window_of}
use Rattle.renewal.proofs.Openings.{opening-limited}
use Rattle.relax_core.specs.Board.{RowOf, BoardOf, IsBoard, rows_from, steps_in, opened}
use Rattle.relax_core.specs.Settled.{window_on, IsWindow}
use Rattle.relax_core.proofs.Boards.{board-open, board-kept, streams-there, stream-below, some-version, versions-within}
use Rattle.relax_core.proofs.Readings.{within-shape}

-- the rows of legal steps name streams of the window's plant
rows-name : (window : Window) (state : Versions) (steps : List Step) → AreLegal window state steps →
    AllByRecursion (λ (row : RowOf). row.stream < length window.plant.streams) (rows_from window state steps)
rows-name window state [] legal = tt
rows-name window state (step ∷ steps) legal =
    (legal.0.stream, rows-name window (after_step window state step) steps legal.1)

module _ (board : BoardOf) (is : IsBoard board) where
  abbrev window : Window
  window = window_of board.plan

  last-is : (s : ℕ) → s < length (streams_of board.plan.parts) →
      slice_index_or (window_on board).tubes s [] ≡ last_of board.versions s
  last-is s l = get_or-map-range_with_len (last_of board.versions) 0 (length board.versions) s s []
      (subst (λ n. s < n) (sym (streams-there board is)) l) (omega arith)

  last-ticks : (s : ℕ) → s < length (streams_of board.plan.parts) → length (last_of board.versions s) ≡ board.plan.ticks
  last-ticks s l =
      let there : s < length window.plant.streams = stream-below board is s l in
      let holds : IsWithin (run_tube window s) (last_of board.versions s) =
      version-holds window (board-open board is) board.versions (board-kept board is) s (length (versions_of board.versions s) - 1) there
      (omega (arith, some-version board is s l)) in
      sym (length-map (last_of board.versions s) length)
      ∙ ap length (sym (within-shape (run_tube window s) (last_of board.versions s) holds))
      ∙ length-map (run_tube window s) length
      ∙ length-map-range_with_len _ 0 board.plan.ticks

  last-channels : (s t : ℕ) → s < length (streams_of board.plan.parts) → t < board.plan.ticks →
      length (at (last_of board.versions s) t) ≡ length (limits_at board.plan.parts s)
  last-channels s t l m =
      let opening = window.opening s in
      inside-length (at (last_of board.versions s) t) (at opening t)
      (within-at (last_of board.versions s) opening t
      (versions-within board is s (length (versions_of board.versions s) - 1) l (omega (arith, some-version board is s l))))
      ∙ inside-length (at opening t) (limits_at board.plan.parts s) (opening-limited board.plan is.plan s t l m)

  pub leaves-window : IsWindow board.plan.parts (window_on board)
  leaves-window = record {
    inside = is.plan.inside;
    streams = length-map-range_with_len (last_of board.versions) 0 (length board.versions) ∙ streams-there board is;
    ticked = λ s l. ap length (last-is s l) ∙ last-ticks s l;
    channels = λ s t l m. ap (λ (tube : Tube). length (at tube t)) (last-is s l) ∙ last-channels s t l m;
    rows =
        subst (λ (rows : List RowOf). AllByRecursion (λ (row : RowOf). row.stream < length (streams_of board.plan.parts)) rows) (sym is.numbered)
        (subst (λ n. AllByRecursion (λ (row : RowOf). row.stream < n) (rows_from window (opened board.plan) (steps_in board)))
        (streams-counted board.plan.parts) (rows-name window (opened board.plan) (steps_in board) is.legal));
  }

  pub leaves-run : IsQuiet (window_of board.plan) board.versions →
      (window_on board).tubes ≡ map (run_tube (window_of board.plan)) (range_with_len 0 (length (streams_of board.plan.parts)))
  leaves-run quiet = ext_get_or [] (window_on board).tubes
      (map (run_tube window) (range_with_len 0 (length (streams_of board.plan.parts))))
      (length-map-range_with_len (last_of board.versions) 0 (length board.versions) ∙ streams-there board is
      ∙ sym (length-map-range_with_len (run_tube window) 0 (length (streams_of board.plan.parts))))
      (λ s l.
      let there : s < length (streams_of board.plan.parts) = omega (
        arith,
        l,
        length-map-range_with_len (last_of board.versions) 0 (length board.versions),
        streams-there board is,
      ) in
      last-is s there
      ∙ quiet-run window (board-open board is) board.versions (board-kept board is) quiet s (stream-below board is s there)
      ∙ sym (get_or-map-range_with_len (run_tube window) 0 (length (streams_of board.plan.parts)) s s [] there (omega arith)))

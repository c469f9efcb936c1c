-- The equations of a column section, and what it may be given.
use Rattle.std.specs.Prelude.{ℕ, zero, suc, ◌+◌, ◌-◌, ◌≤◌, nat_lt, if◌then◌else◌, ℤ, pos, List, [], ◌∷◌, ◌++◌, map, slice_index_or}
use Rattle.std.specs.List.{range_with_len}
use Rattle.quant.specs.Interval.{Interval, Holds, AllHold, AllInside, point, wide}
use Rattle.quant.specs.Operation.{holdups, slopes, IsDrainable}
use Rattle.quant.specs.Limits.{AreLimits, wide_from}
use Rattle.quant.specs.Ports.{Stream, stream_at, stream_limits}
use Rattle.quant.specs.Term.{Term, state, gain_of, tray_of, clamped}
use Rattle.column_section.specs.declared.column.Column.{Column}

-- its inputs in order: the liquid that comes in at the top, and the vapour that comes in at the bottom
abbrev pub liquid : Stream
liquid = stream_at 0

abbrev pub vapour : Stream
vapour = stream_at 3

-- its stages from top to bottom, of which each is the state at its place
abbrev pub stages_of : Column → List ℕ
stages_of column = range_with_len 0 column.stages

-- the liquid that comes to a stage: from the stage above, or from outside
abbrev pub above : ℕ → Term
above zero = liquid.conc
above (suc i) = state i

-- the vapour that comes to a stage: from the stage below, or from outside
abbrev pub below : Column → ℕ → Term
below column i = if nat_lt (i + 1) column.stages then gain_of column.slope (state (i + 1)) else vapour.conc

-- a stage at the next tick
abbrev pub stage : Column → ℕ → Term
stage column i = clamped column.limits.conc (tray_of column.holdup column.slope (state i) (above i)
    (below column i) liquid.flow vapour.flow)

-- what leaves at the next tick has the flow and the temp of what comes in
abbrev pub registers : Column → List Term
registers column =
    clamped column.limits.flow liquid.flow ∷ clamped column.limits.temp liquid.temp
    ∷ clamped column.limits.flow vapour.flow ∷ clamped column.limits.temp vapour.temp ∷ []

abbrev pub next_terms : Column → List Term
next_terms column = map (stage column) (stages_of column) ++ registers column

-- its outputs: the liquid of the last stage, and the vapour of the first
abbrev pub view_terms : Column → List (List Term)
view_terms column =
    (state column.stages ∷ state (column.stages - 1) ∷ state (column.stages + 1) ∷ [])
    ∷ (state (column.stages + 2) ∷ clamped column.limits.conc (gain_of column.slope (state 0)) ∷ state
    (column.stages + 3) ∷ []) ∷ []

abbrev pub register_limits : Column → List Interval
register_limits column = column.limits.flow ∷ column.limits.temp ∷ column.limits.flow ∷ column.limits.temp ∷ []

abbrev pub state_limits : Column → List Interval
state_limits column = map (λ i. column.limits.conc) (stages_of column) ++ register_limits column

abbrev pub output_limits : Column → List (List Interval)
output_limits column = stream_limits column.limits ∷ stream_limits column.limits ∷ []

-- where its inputs may lie: no flow is negative
abbrev pub input_limits : List Interval
input_limits = wide_from (pos 0) ∷ wide ∷ wide ∷ wide_from (pos 0) ∷ wide ∷ wide ∷ []

-- the inputs lie there, and no more leaves a stage in a tick than it holds
pub record MayTake (column : Column) (ins : List ℤ) : Type 0 where
  pub held : AllHold input_limits ins
  pub drainable : IsDrainable column.holdup column.slope (slice_index_or ins 0 (pos 0)) (slice_index_or ins 3 (pos 0))

-- the same of bands, at the upper ends of the flows
pub record MayTakeBands (column : Column) (ins : List Interval) : Type 0 where
  pub held : AllInside ins input_limits
  pub drainable : IsDrainable column.holdup column.slope (slice_index_or ins 0 (point (pos 0))).hi
      (slice_index_or ins 3 (point (pos 0))).hi

-- its parameters are in range, and its limits are limits
pub record IsSound (column : Column) : Type 0 where
  pub some : 1 ≤ column.stages
  pub few : column.stages ≤ 64
  pub holdup : Holds holdups column.holdup
  pub slope : Holds slopes column.slope
  pub limits : AreLimits column.limits

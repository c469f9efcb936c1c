use Rattle.std.proofs.Common.{◌≡◌, ◌<◌}
use Rattle.plant.specs.Rows.{stream_in}
use Rattle.window_accept.specs.declared.wide.TooWide.{TooWide}
use Rattle.window_accept.specs.Wide.{IsTooWide}
use Rattle.window_accept.proofs.wide.wide_in_row.Given as goal

abbrev pub invariant-loop-stream : goal.invariant-loop-stream
invariant-loop-stream l = (other : TooWide) → other.tick ≡ l.tick → other.stream < l.stream →
    IsTooWide l.plant (λ t s. stream_in l.row s) other → ⊥

use Rattle.std.proofs.Common.{◌≡◌, ◌+◌, ◌<◌}
use Rattle.relax_core.specs.Settled.{bands_in}
use Rattle.window_accept.specs.declared.wide.TooWide.{TooWide}
use Rattle.window_accept.specs.Wide.{IsTooWide}
use Rattle.window_accept.proofs.wide.wide_at.Given as goal

abbrev pub invariant-loop-stream : goal.invariant-loop-stream
invariant-loop-stream l = (other : TooWide) → other.tick ≡ l.window.first + l.tick → other.stream < l.stream →
    IsTooWide l.plant (bands_in l.window) other → ⊥

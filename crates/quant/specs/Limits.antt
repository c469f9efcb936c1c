-- Limits that a plant or a unit may have.
use Rattle.std.specs.Prelude.{ℤ, pos}
use Rattle.quant.specs.Interval.{Interval, IsBand, IsInside, wide}
use Rattle.quant.specs.declared.limits.Limits.{Limits}

-- the wide numbers from a first one on
abbrev pub wide_from : ℤ → Interval
wide_from lo = record { lo = lo; hi = wide.hi }

-- each limit is a band of wide numbers; flows are not negative, and volumes are at least 1
pub record AreLimits (limits : Limits) : Type 0 where
  pub flow : IsBand limits.flow × IsInside limits.flow (wide_from (pos 0))
  pub conc : IsBand limits.conc × IsInside limits.conc wide
  pub temp : IsBand limits.temp × IsInside limits.temp wide
  pub volume : IsBand limits.volume × IsInside limits.volume (wide_from (pos 1))
  pub signal : IsBand limits.signal × IsInside limits.signal wide

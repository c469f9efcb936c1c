-- Words of the proofs: a reader of the contracts needs none of them.
-- Where the groups of a unit's keys lie.
use Rattle.quant.specs.Interval.{Holds, wide}
use Rattle.quant.specs.Operation.{ppm, gains, holdups, slopes}
use Rattle.parts.specs.InRange.{IsBetween, most_stages, IsWide, AreRatePoints, AreContents}
use Rattle.flow_file.specs.declared.kinds.Reaction.{Reaction}
use Rattle.flow_file.specs.declared.kinds.Stages.{Stages}
use Rattle.flow_file.specs.declared.kinds.Settings.{Settings}

pub record IsReaction (its : Reaction) : Type 0 where
  pub k : Holds ppm its.k
  pub rate : AreRatePoints its.rate
  pub heat : Holds gains its.heat
  pub ua : Holds ppm its.ua
  pub held : AreContents its.held.volume its.held.flow its.held.conc its.held.temp

pub record AreStages (its : Stages) : Type 0 where
  pub stages : IsBetween 1 most_stages its.stages
  pub holdup : Holds holdups its.holdup
  pub slope : Holds slopes its.slope

pub record AreSettings (its : Settings) : Type 0 where
  pub kp : Holds gains its.kp
  pub ki : Holds gains its.ki
  pub bias : Holds wide its.bias
  pub integral_limits : IsWide its.integral_limits
  pub integral : IsWide its.integral
  pub out : IsWide its.out

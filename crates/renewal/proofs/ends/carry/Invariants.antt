-- The units so far.
use Rattle.std.proofs.Common.{◌≡◌, map}
use Rattle.std.specs.List.{range_with_len}
use Rattle.renewal.proofs.Carrying.{carried_of}
use Rattle.renewal.proofs.ends.carry.Given as goal

abbrev pub invariant-loop-unit : goal.invariant-loop-unit
invariant-loop-unit l = l.units.items ≡ map (carried_of l.plan l.tubes) (range_with_len 0 l.unit)

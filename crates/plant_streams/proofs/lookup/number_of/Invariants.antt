use Rattle.std.proofs.Common.{◌≡◌, drop}
use Rattle.plant_streams.specs.Streams.{number_from}
use Rattle.plant_streams.proofs.lookup.number_of.Given as goal

-- the streams that are left decide
abbrev pub invariant-loop-number : goal.invariant-loop-number
invariant-loop-number l = number_from l.number (drop l.number l.streams) l.name ≡ number_from 0 l.streams l.name

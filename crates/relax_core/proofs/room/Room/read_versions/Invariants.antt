-- The versions at the ports so far are read in, and all tubes have the bands of those before at the ticks below `same`.
-- Nothing else of the room changes.
use Rattle.std.proofs.Common.{◌≡◌, ◌≤◌}
use Rattle.renewal.specs.Room.{planned}
use Rattle.relax_core.specs.Rooms.{reads_in}
use Rattle.relax_core.proofs.Readings.{IsReading, AreSamePorts}
use Rattle.relax_core.proofs.room.Room.read_versions.Given as goal

abbrev pub invariant-loop-port : goal.invariant-loop-port
invariant-loop-port l = IsReading l.plan l.lines (planned l.plan l.unit).reads l.versions l.port l.self.inputs
    × AreSamePorts l.same l.fn.self.inputs l.self.inputs
    × (l.self ≡ reads_in l.fn.self l.self.inputs)
    × (l.same ≤ l.plan.ticks)

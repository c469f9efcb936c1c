use Rattle.std.proofs.Common.{◌≡◌, ◌++◌, map, drop}
use Rattle.plant_streams.specs.Streams.{port_streams}
use Rattle.plant_streams.specs.Seen.{port_seen}
use Rattle.plant_streams.proofs.made_streams.add_ports.Given as goal

-- the streams so far, and those of the ports that are left
abbrev pub invariant-loop-number : goal.invariant-loop-number
invariant-loop-number l =
    l.streams.items ++ port_streams l.name l.unit l.number (map port_seen (drop l.number l.ports))
    ≡ l.fn.streams.items ++ port_streams l.name l.unit 0 (map port_seen l.ports)

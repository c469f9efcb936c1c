use Rattle.std.proofs.Common.{◌≡◌, map, drop, bytes_eq}
use Rattle.std.specs.List.{list_any}
use Rattle.plant_checks.specs.Seen.{name_seen}
use Rattle.plant_checks.proofs.names.is_among.Given as goal

-- the names that are left decide
abbrev pub invariant-loop-other : goal.invariant-loop-other
invariant-loop-other l = list_any (bytes_eq l.name) (map name_seen (drop l.other-index l.names)) ≡ list_any
    (bytes_eq l.name) (map name_seen l.names)

use Rattle.std.proofs.Common.{◌≡◌, ◌++◌, ◌+◌, ◌*◌, ◌≤◌, length, drop}
use Rattle.plant_units.specs.Units.{units_from}
use Rattle.plant_units.proofs.made_units.units_of.Given as goal

-- the units so far, and those of the parts that are left
abbrev pub invariant-loop-part : goal.invariant-loop-part
invariant-loop-part l = record {
  made : l.units.items ++ units_from l.parts l.first (drop l.part-index l.part-items) ≡ units_from l.parts
      (length l.parts.feeds) l.part-items;
  few : l.first ≤ 256 + 3 * l.part-index;
}

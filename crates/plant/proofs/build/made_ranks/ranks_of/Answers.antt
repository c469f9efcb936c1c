use Rattle.std.proofs.Common.{subst}
use Rattle.topology.specs.Faults.{IsRankFault}
use Rattle.plant.specs.PlantOf.{links_of}
use Rattle.plant.proofs.BuildVerdicts.{links_are, loop_there}
use Rattle.plant.proofs.build.made_ranks.ranks_of.Goals as goal

pub found_ranks-requires-clause-links : goal.found_ranks-requires-clause-links
found_ranks-requires-clause-links c =
    links_are c.args.parts.now c.in_ok-links.links c.args.streams.now c.args.units.now c.in_ok-links.ensures
    c.requires.streams c.requires.units

pub unit_name-requires : goal.unit_name-requires
unit_name-requires c =
    loop_there c.args.parts.now c.in-Err-Loop.unit
    (subst (IsRankFault (links_of c.args.parts.now)) c.in-Err-Loop.field-0-is c.in-Err-Loop.ensures.fault)

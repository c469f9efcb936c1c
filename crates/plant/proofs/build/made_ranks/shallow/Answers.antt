use Rattle.plant.proofs.BuildVerdicts.{above_there, deep}
use Rattle.plant.proofs.build.made_ranks.shallow.Goals as goal

pub unit_name-requires : goal.unit_name-requires
unit_name-requires c = above_there c.args.parts.now c.in-Some.unit c.args.ranks.items c.requires.ranked
    (rw (← c.deref.ensures.value) c.in-Some.ensures.some)

pub returns-in_ok-unit_name-in-Some-clause-exact : goal.returns-in_ok-unit_name-in-Some-clause-exact
returns-in_ok-unit_name-in-Some-clause-exact c =
    deep c.args.parts.now c.in-Some.unit c.args.ranks.items c.in_ok-unit_name-in-Some.field-0 c.requires.passes
    c.requires.ranked c.requires.found
    (rw (← c.deref.ensures.value) c.in-Some.ensures.some) c.in_ok-unit_name-in-Some.ensures

use Rattle.std.proofs.Common.{ℕ, List, Option, Some, None}
use Rattle.parts.specs.Parts.{FileParts}
use Rattle.flow_top.specs.declared.words.Command.TheVariants.{Run, Direct}
use Rattle.flow_top.specs.Course.{Course}
use Rattle.flow_top.specs.Courses.{IsWork}
use Rattle.flow_top.specs.WindowsCourse.{traced_in}
use Rattle.flow_top.proofs.Courses.{AreOne, Agree, windows-agree}
use Rattle.flow_top.proofs.laws.direct_prints_the_run.Goals as goal

agree : AreOne → (parts : FileParts) (records : Option (List ℕ)) (a b : Course) → IsWork Run parts records a →
    IsWork Direct parts records b → Agree a b
agree unique parts records a b one other =
    windows-agree unique Run Direct (Some (traced_in parts records)) None parts records a b one.follows other.follows

pub returns-clause-windows : goal.returns-clause-windows
returns-clause-windows c parts records a b one other = (agree c.first_wide_places_are_one.ensures parts records a b one other).windows

pub returns-clause-text : goal.returns-clause-text
returns-clause-text c parts records a b one other k h = (agree c.first_wide_places_are_one.ensures parts records a b one other).text k h

pub returns-clause-stop : goal.returns-clause-stop
returns-clause-stop c parts records a b one other = (agree c.first_wide_places_are_one.ensures parts records a b one other).stop

use Rattle.flow_top.proofs.Courses.{work-exists, work-agrees, traces-agree}
use Rattle.flow_top.proofs.laws.commands_have_one_course.Goals as goal

pub returns-clause-exists : goal.returns-clause-exists
returns-clause-exists c = work-exists c.wide_places_are_found.ensures

pub returns-clause-windows : goal.returns-clause-windows
returns-clause-windows c command parts records a b one other =
    (work-agrees c.first_wide_places_are_one.ensures command parts records a b one.follows other.follows).windows

pub returns-clause-text : goal.returns-clause-text
returns-clause-text c command parts records a b one other k h =
    (work-agrees c.first_wide_places_are_one.ensures command parts records a b one.follows other.follows).text k h

pub returns-clause-trace : goal.returns-clause-trace
returns-clause-trace c command parts records a b one other = traces-agree command parts records a b one.follows other.follows

pub returns-clause-stop : goal.returns-clause-stop
returns-clause-stop c command parts records a b one other =
    (work-agrees c.first_wide_places_are_one.ensures command parts records a b one.follows other.follows).stop

use Rattle.std.proofs.Common.{inl, inr, subst, []}
use Rattle.tables.specs.Output.{rank_header}
use Rattle.report.specs.Ranks.{rank_rows}
use Rattle.demo.specs.Summary.{summary}
use Rattle.flow_top.specs.Ended.{HasParts}
use Rattle.flow_top.specs.declared.words.Command.{Command}
use Rattle.flow_top.specs.Courses.{IsCourse}
use Rattle.flow_top.proofs.Channels.{run-channels}
use Rattle.flow_top.proofs.Courses.{once-printed, course-stops}
use Rattle.flow_top.proofs.RunRows.{work-windows, work-text}
use Rattle.flow_top.proofs.Stopping.{run-narrow, run-first, run-taken}
use Rattle.flow_top.specs.Ended.{records_for}
use Rattle.flow_top.proofs.laws.courses_print_the_run.Goals as goal

pub returns-clause-windows : goal.returns-clause-windows
returns-clause-windows c words plant extra at writes k h = work-windows at.request.command at.parts (records_for at.request extra) at.course writes at.work.follows k h

pub returns-clause-run : goal.returns-clause-run
returns-clause-run c words plant extra at writes whole = work-text at.request.command at.parts (records_for at.request extra) at.course writes at.work.follows whole

pub returns-clause-taken : goal.returns-clause-taken
returns-clause-taken c words plant extra at writes w h =
    run-taken at.request.command at.parts (records_for at.request extra) at.course writes at.work.follows w h

pub returns-clause-stop : goal.returns-clause-stop
returns-clause-stop c words plant extra at stop e =
    elim (course-stops at.request.command at.parts (records_for at.request extra) at.course stop at.work.follows e) [
      | inl by ↦ inl (by.found, by.fault, by.fault_is, by.stop_is, by.taken)
      | inr by ↦ inr (
        by.place,
        by.stop_is,
        by.taken,
        by.first.among,
        run-first at.request.command at.parts (records_for at.request extra) at.course stop at.work.follows e by.place by.first,
      )
    ]

pub returns-clause-narrow : goal.returns-clause-narrow
returns-clause-narrow c words plant extra at writes whole = run-narrow at.request.command at.parts (records_for at.request extra) at.course writes at.work.follows whole

pub returns-clause-check : goal.returns-clause-check
returns-clause-check c words plant extra at check =
    once-printed rank_header (rank_rows at.parts) at.course (subst (λ (k : Command). IsCourse k at.parts (records_for at.request extra) at.course) check at.work.follows)

pub returns-clause-demo : goal.returns-clause-demo
returns-clause-demo c words plant extra at stages demo = (
  (subst (λ (k : Command). HasParts k plant at.parts) demo at.has).0,
  once-printed [] (summary stages) at.course
      (subst (λ (k : Command). IsCourse k at.parts (records_for at.request extra) at.course) demo at.work.follows),
)

pub returns-clause-channels : goal.returns-clause-channels
returns-clause-channels c words plant extra at tick s h = run-channels at.parts _ at.work.plant (c.records_stay_in_limits.ensures at.parts (records_for at.request extra) at.work.plant) tick s h

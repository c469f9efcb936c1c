use Rattle.std.proofs.Common.{arith, ◌∙◌, ◌<◌, ℕ, map, sym, subst, Some}
use Rattle.plant.proofs.Lookups.{streams-counted}
use Rattle.renewal.specs.Plan.{window_of}
use Rattle.relax_core.specs.Board.{step_in}
use Rattle.feeds.specs.Given.{run_plan, given_by}
use Rattle.flow_top.specs.declared.words.Command.{Command}
use Rattle.flow_top.specs.declared.words.Command.TheVariants.{Run}
use Rattle.flow_top.specs.Courses.{IsCourse}
use Rattle.report.specs.Trace.{names_of}
use Rattle.flow_top.specs.WindowsCourse.{first_tick, ticks_in, traced_in}
use Rattle.flow_top.proofs.RunRows.{window-inside}
use Rattle.flow_top.specs.Ended.{records_for}
use Rattle.flow_top.proofs.laws.traces_lead_to_the_run.Goals as goal

pub returns-clause-leads : goal.returns-clause-leads
returns-clause-leads c words plant extra at run w s l m rows settles =
    let parts = at.parts in
    let follows = subst (λ (k : Command). IsCourse k parts (records_for at.request extra) at.course) run at.work.follows in
    let inside = window-inside Run (Some (traced_in parts (records_for at.request extra))) parts (records_for at.request extra) at.course at.work.plant follows w l in
    let first = first_tick parts w in
    let n = ticks_in parts w in
    let given = given_by parts (records_for at.request extra) in
    let laws = c.windows_cut_the_run.ensures in
    let opens = c.windows_are_open.ensures (run_plan parts given first n)
    (laws.plan parts (records_for at.request extra) first n at.work.plant inside.0 inside.1 inside.2) in
    c.legal_steps_keep_the_run.ensures.quiet (window_of (run_plan parts given first n)) (map step_in rows) opens settles.legal settles.quiet s
    (subst (λ (n : ℕ). s < n) (sym (streams-counted parts)) m)
    ∙ laws.run parts (records_for at.request extra) first n s at.work.plant inside.0 inside.1 inside.2 m

pub returns-clause-listed : goal.returns-clause-listed
returns-clause-listed c words plant extra at run k w text few l legal =
    let parts = at.parts in
    let traced = traced_in parts (records_for at.request extra) in
    let stands = c.traces_settle_their_windows.ensures (names_of parts) traced.window k text legal w l in (
      stands.0,
      stands.1,
      stands.2,
      stands.4,
      stands.3,
      λ s m. returns-clause-leads c words plant extra at run w s (omega (arith, l, few)) m stands.1 stands.3,
    )

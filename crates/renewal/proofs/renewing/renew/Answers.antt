-- The bands that are carried in are renewed up to the first tick.
use Rattle.std.proofs.Common.{◌∙◌, List, length, ap, sym, subst}
use Rattle.std.specs.Prelude.{slice_set}
use Rattle.quant.specs.Interval.{Interval}
use Rattle.renewal.specs.Room.{RenewalOf}
use Rattle.renewal.specs.Ticks.{IsRenewed}
use Rattle.renewal.proofs.Givers.{some-giver}
use Rattle.renewal.proofs.Renewed.{carried-is, carried-wide, renewed-none}
use Rattle.renewal.proofs.renewing.renew.Goals as goal

-- the room with these states at the first tick
abbrev carried : RenewalOf → List Interval → RenewalOf
carried made bands = record { ports = made.ports; states = slice_set made.states 0 bands }

pub carry-requires-clause-counted : goal.carry-requires-clause-counted
carry-requires-clause-counted c =
    let plan = c.args.plan.now in
    let f = some-giver plan c.args.unit c.carried.ensures.plan c.requires.unit in
    ap length (carried-is plan c.args.unit _ _ c.carried.ensures.carried c.unit.ensures)
    ∙ carried-wide plan c.args.unit f.0 f.1 c.args.inputs.now c.args.outputs.now c.requires.room

pub renew_ticks-requires-clause-renewed : goal.renew_ticks-requires-clause-renewed
renew_ticks-requires-clause-renewed c =
    let plan = c.args.plan.now in
    let f = some-giver plan c.args.unit c.carried.ensures.plan c.requires.unit in
    let is = carried-is plan c.args.unit _ _ c.carried.ensures.carried c.unit.ensures in
    subst (IsRenewed plan c.args.unit c.args.inputs.now 0) (sym (c.carry.ensures ∙ ap (carried c.args.outputs.now) is))
    (renewed-none plan c.args.unit f.0 f.1 c.args.inputs.now c.args.outputs.now c.requires.room)

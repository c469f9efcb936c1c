use Rattle.std.proofs.Common.{◌≡◌, Err, Ok, sym, ap, ◌∙◌}
use Rattle.plant.specs.Verdict.{IsVerdict}
use Rattle.flow_file.specs.Plant.{parts_in}
use Rattle.flow_top.proofs.Judging.{unread-judged, unbuilt-judged, built-judged}
use Rattle.flow_top.proofs.plant_text.plant_in.Goals as goal

pub returns-in-Err-Fault : goal.returns-in-Err-Fault
returns-in-Err-Fault c =
    let read : parts_in c.args.text.now ≡ Err c.in-Err-Fault.fault = rw c.in-Err-Fault.field-0-is at c.in-Err-Fault.ensures in
    rw (c.fault_of_text.ensures, c.in-Err-Fault.fault-is) (unread-judged c.args.text.now c.in-Err-Fault.fault c.requires read)

pub returns-in-Err-Fault-build : goal.returns-in-Err-Fault-build
returns-in-Err-Fault-build c =
    let verdict : IsVerdict c.in-Ok.parts (Err c.in-Err-Fault-build.fault) =
    rw c.in-Err-Fault-build.field-0-is at c.in-Err-Fault-build.ensures.exact in
    rw (c.fault_of_plant.ensures, c.in-Err-Fault-build.fault-is)
    (unbuilt-judged c.args.text.now c.in-Ok.parts c.in-Err-Fault-build.fault c.requires c.in-Ok.ensures verdict)

pub returns : goal.returns
returns c =
    let read : parts_in c.args.text.now ≡ Ok c.in-Ok-build.plant = c.in-Ok.ensures ∙ ap Ok (sym c.in-Ok-build.ensures.same) in
    built-judged c.args.text.now c.in-Ok-build.plant c.requires read c.in-Ok-build.ensures.plant

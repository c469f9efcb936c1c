use Rattle.std.proofs.Common.{refl}
use Rattle.flow_top.specs.Ended.{worked}
use Rattle.flow_top.proofs.Work.{plantless-ended, read-parts}
use Rattle.flow_top.proofs.top.do_command.Goals as goal

pub returns-in-Ok : goal.returns-in-Ok
returns-in-Ok g c =
    let ends = c.do_on_plant.ensures in
    worked c.in-Ok.plant (read-parts c.args.request.command _ _ c.requires.reads c.in-Ok.ensures.says) ends.worked ends.blamed ends.unasked

pub returns-in-Err : goal.returns-in-Err
returns-in-Err g c = plantless-ended c.args.request c.in-Err.end _ _ _ c.requires.reads (record { text = refl; count = refl })
    (record { out = record { text = refl; count = refl }; trace = record { text = refl; count = refl } }) c.in-Err.ensures

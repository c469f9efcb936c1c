use Rattle.std.proofs.Common.{refl}
use Rattle.flow_top.proofs.Requests.{generated}
use Rattle.flow_top.proofs.top.do_request.Goals as goal

pub returns-in-Demo : goal.returns-in-Demo
returns-in-Demo g c =
    generated c.args.request c.in-Demo.stages _ _ _ c.write_summary.result c.in-Demo.is c.requires.asked
    (record { text = refl; count = refl }) (record { text = refl; count = refl })
    (c.write_summary.ensures _ _ (record { text = refl; count = refl }))

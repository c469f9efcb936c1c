use Rattle.std.proofs.Common.{refl, sym, ◌∙◌}
use Rattle.flow_top.specs.Ended.{misread, asked}
use Rattle.flow_top.proofs.Options.{request-asked}
use Rattle.flow_top.proofs.top.work.Goals as goal

pub do_request-requires-clause-asked : goal.do_request-requires-clause-asked
do_request-requires-clause-asked g c κs within = request-asked c.args.words.now c.in-Ok.request (sym c.request_in.ensures ∙ c.in-Ok.is)

pub returns-in-Ok : goal.returns-in-Ok
returns-in-Ok g c = asked c.in-Ok.request (sym c.request_in.ensures ∙ c.in-Ok.is) c.do_request.ensures

pub returns-in-Err : goal.returns-in-Err
returns-in-Err g c =
    misread c.in-Err.at (sym c.request_in.ensures ∙ c.in-Err.is) (record { text = refl; count = refl })
    (record { text = refl; count = refl })
    (record { out = record { text = refl; count = refl }; trace = record { text = refl; count = refl } }) refl

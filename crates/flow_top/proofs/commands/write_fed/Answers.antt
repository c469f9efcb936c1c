use Rattle.std.proofs.Common.{ap, refl, Some, None}
use Rattle.feeds.specs.ReaderOf.{ReaderOf}
use Rattle.flow_top.proofs.Requests.{stands-over, recorded, unrecorded, unfailed}
use Rattle.flow_top.proofs.commands.write_fed.Goals as goal

pub returns-in_ok-feeds-in-Some : goal.returns-in_ok-feeds-in-Some
returns-in_ok-feeds-in-Some g c =
    let session = g.W.MakesTexts.session c.args.windows.now in
    let left = g.E.Source.left c.args.extra.now in
    let faults = g.E.Source.faults c.args.extra.now in
    let reader = c.in_ok-feeds-in-Some.feeds in
    recorded c.args.request c.in-Some.field-0 session.parts _ _ c.write_windows.result c.in-Some.is
    (λ text told. c.write_windows.ensures.ended (Some text)
    (stands-over c.plant.result.now session.parts reader left text faults c.plant.ensures.plant told
    (c.in_ok-feeds-in-Some.ensures.stands text faults)))
    c.write_windows.ensures.blamed

pub returns-in_ok-feeds-in-None : goal.returns-in_ok-feeds-in-None
returns-in_ok-feeds-in-None g c =
    unrecorded c.args.request (g.W.MakesTexts.session c.args.windows.now).parts _ _ _ c.write_windows-in-None.result c.in-None.is unfailed
    (record { text = refl; count = refl })
    (c.write_windows-in-None.ensures.ended None (ap (λ (r : ReaderOf). r.records) c.in_ok-feeds-in-None.ensures.plain))
    c.write_windows-in-None.ensures.blamed

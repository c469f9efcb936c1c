use Rattle.std.proofs.Common.{refl}
use Rattle.flow_top.specs.declared.words.Command.TheVariants.{Check}
use Rattle.flow_top.proofs.Requests.{unread-of}
use Rattle.flow_top.proofs.top.do_on_plant.Goals as goal

pub returns-in-Check : goal.returns-in-Check
returns-in-Check g c =
    unread-of c.args.request Check c.args.plant _ _ c.write_ranks.result c.in-Check.is refl c.requires.asked
    (record { text = refl; count = refl }) (λ course work. work.follows.stop)
    (c.write_ranks.ensures _ _ (record { text = refl; count = refl }))

use Rattle.std.proofs.Common.{◌∙◌, sym, ap, subst}
use Rattle.window_accept.specs.Session.{SessionOf}
use Rattle.demo.specs.Following.{IsSmallPlant}
use Rattle.demo.proofs.Trains.{train-small}
use Rattle.demo.proofs.summary.summary_of.Goals as goal

pub run_sums-requires-clause-small : goal.run_sums-requires-clause-small
run_sums-requires-clause-small g c κs within =
    subst IsSmallPlant (sym (ap (λ (s : SessionOf). s.parts) c.in_ok-session.ensures ∙ c.in_ok-generated_plant.ensures))
    (train-small c.args.stages c.requires.some c.requires.few)

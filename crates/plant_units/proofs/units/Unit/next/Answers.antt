-- A reactor steps as its kind does.
use Rattle.std.proofs.Common.{sym, ap, ◌∙◌}
use Rattle.plant_units.specs.declared.units.Unit.{Unit}
use Rattle.plant_units.specs.Steps.{steps}
use Rattle.plant_units.proofs.units.Unit.next.Goals as goal

pub returns-in-Reactor : goal.returns-in-Reactor
unfolding steps
returns-in-Reactor c = c.next_band-in-Reactor.ensures
    ∙ sym (ap (λ (x : Unit). steps x c.args.state.now c.args.ins.now) c.in-Reactor.is)

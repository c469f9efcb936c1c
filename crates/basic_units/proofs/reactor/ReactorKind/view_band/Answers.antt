-- The stream and the level, and then the temperature.
use Rattle.std.proofs.Common.{pos, ap, ◌∙◌, arith}
use Rattle.quant.specs.Interval.{point}
use Rattle.quant.specs.Hull.{hull1}
use Rattle.quant.specs.Operation.{clamp}
use Rattle.quant.proofs.Calls.{inside-length, read}
use Rattle.basic_units.specs.Reactor.{state_limits}
use Rattle.basic_units.proofs.Vessels.{are_state_bands, appended}
use Rattle.basic_units.proofs.reactor.ReactorKind.view_band.Goals as goal

pub show-requires-clause-states : goal.show-requires-clause-states
show-requires-clause-states c = (are_state_bands c.args.self.now.limits c.args.state.now c.requires.sound.limits
    c.requires.states).four

pub bounds-state-3 : goal.bounds-state-3
bounds-state-3 c =
    let e = inside-length c.args.state.now (state_limits c.args.self.now) c.requires.states in omega arith

pub returns : goal.returns
returns c =
    let e = inside-length c.args.state.now (state_limits c.args.self.now) c.requires.states in
    appended _ _ c.split_at_mut-shown.result.1.now _ _ (c.show.ensures (point (pos 0)))
    (omega (arith, c.split_at_mut-shown.ensures.back_len, c.requires.room))
    (c.clamp_band.ensures.hull ∙ ap (hull1 (clamp c.args.self.now.limits.signal))
    (read c.args.state.now 3 _ (omega arith) c.index-state-3.is))

-- The stream and the level, and then the temperature.
use Rattle.std.proofs.Common.{ℤ, pos, rules, arith}
use Rattle.std.proofs.lemmas.Int.{to_z-of_z}
use Rattle.std.specs.Int.{w64}
use Rattle.std.specs.Prelude.{slice_index_or}
use Rattle.quant.specs.Operation.{clamp}
use Rattle.quant.proofs.Calls.{given1}
use Rattle.basic_units.proofs.Vessels.{are_states, appended}
use Rattle.basic_units.proofs.reactor.ReactorKind.view_point.Goals as goal

pub show-requires-clause-states : goal.show-requires-clause-states
show-requires-clause-states c = (are_states c.args.self.now.limits c.args.state.now c.requires.sound.limits
    c.requires.states).four

pub returns : goal.returns
returns c =
    let temp : ℤ = slice_index_or c.args.state.now 3 (pos 0) in
    appended _ _ c.split_at_mut-shown.result.1.now _ _ (c.show.ensures (pos 0))
    (omega (arith, c.split_at_mut-shown.ensures.back_len, c.requires.room))
    (given1 (clamp c.args.self.now.limits.signal) _ _ temp (search rules) c.clamp.ensures.value
    (to_z-of_z w64 temp (search rules)))

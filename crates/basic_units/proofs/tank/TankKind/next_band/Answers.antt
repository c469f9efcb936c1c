-- The rows hold what a vessel's steps need, and the row that is put is that of the terms.
use Rattle.std.proofs.Common.{ℤ, [], ap, ◌∙◌, rules}
use Rattle.std.proofs.lemmas.Int.{to_z-of_z}
use Rattle.std.specs.Int.{w64}
use Rattle.quant.specs.Hull.{hull1}
use Rattle.quant.specs.Operation.{clamp}
use Rattle.quant.specs.Rounding.{Floor}
use Rattle.quant.specs.Term.{interval}
use Rattle.basic_units.specs.Vessel.{volume_after, outflow}
use Rattle.basic_units.proofs.Vessels.{are_state_bands, are_input_bands, four_same}
use Rattle.basic_units.proofs.tank.TankKind.next_band.Goals as goal

pub stir_band-requires-clause-states : goal.stir_band-requires-clause-states
stir_band-requires-clause-states c = are_state_bands c.args.self.now.limits c.args.state.now c.requires.sound.limits
    c.requires.states

pub stir_band-requires-clause-inputs : goal.stir_band-requires-clause-inputs
stir_band-requires-clause-inputs c = are_input_bands [] c.args.ins.now c.requires.inputs

pub returns : goal.returns
returns c =
    let l = c.args.self.now.limits in
    let states = c.args.state.now in
    let ins = c.args.ins.now in
    let s = c.stir_band.ensures in
    let drains = to_z-of_z w64 c.args.self.now.k (search rules) in
    c.put.ensures ∙ four_same (hull1 (clamp l.volume)) (hull1 (clamp l.flow)) (hull1 (clamp l.conc))
    (hull1 (clamp l.temp)) _ _ _ _ _ _ _ _
    (s.volume ∙ ap (λ (k : ℤ). interval Floor states ins (volume_after k)) drains)
    (s.flow ∙ ap (λ (k : ℤ). interval Floor states ins (outflow k)) drains)
    s.conc s.temp

-- Each call gives what its term is, from the innermost outward.
use Rattle.std.proofs.Common.{◌≡◌, ℤ, pos, ◌+ℤ◌, to_z, of_z, rules, refl, ap, ◌∙◌, arith}
use Rattle.std.proofs.lemmas.Int.{ints, to_z-of_z}
use Rattle.std.specs.Int.{w64}
use Rattle.std.specs.Prelude.{slice_index_or}
use Rattle.quant.specs.Rounding.{Floor}
use Rattle.quant.specs.Operation.{million, share, keep, gain, blend, lookup, clamp}
use Rattle.quant.specs.Term.{value}
use Rattle.quant.proofs.Calls.{held-length, given1, given2, given4}
use Rattle.quant.proofs.Terms.{place-holds}
use Rattle.basic_units.specs.Reactor.{input_limits}
use Rattle.basic_units.specs.Vessel.{volume_after, outflow, blended, warmed}
use Rattle.basic_units.proofs.Vessels.{are_states, four_same}
use Rattle.basic_units.proofs.Ranges.{content-read}
use Rattle.basic_units.proofs.Reactors.{shared-wide, heated-around}
use Rattle.basic_units.proofs.reactor.ReactorKind.next_point.Goals as goal

pub stir_point-stirred-requires-clause-states : goal.stir_point-stirred-requires-clause-states
stir_point-stirred-requires-clause-states c = are_states c.args.self.now.limits c.args.state.now
    c.requires.sound.limits c.requires.states

pub gain-requires-clause-number : goal.gain-requires-clause-number
gain-requires-clause-number c =
    let h = shared-wide _ c.share.result c.stir_point-stirred.ensures.wide.0 c.share.ensures.between in
    record { above = omega (arith, ints); below = omega (arith, ints) }

pub keep-requires : goal.keep-requires
keep-requires c = content-read _ c.stir_point-stirred.ensures.wide.0

pub bounds-ins-4 : goal.bounds-ins-4
bounds-ins-4 c = let e = held-length input_limits c.args.ins.now c.requires.inputs in omega arith

pub blend-requires-clause-old : goal.blend-requires-clause-old
blend-requires-clause-old c =
    let w = c.stir_point-stirred.ensures.wide in
    let h = heated-around _ _ _ _ c.add-heated.result w.1
    (shared-wide _ c.share.result w.0 c.share.ensures.between) c.requires.sound.heat c.gain.ensures.value
    c.add-heated.ensures in
    record { above = omega (arith, ints); below = omega (arith, ints) }

pub blend-requires-clause-added : goal.blend-requires-clause-added
blend-requires-clause-added c = content-read _ (place-holds input_limits c.args.ins.now 4 c.requires.inputs)

pub returns : goal.returns
returns c =
    let reactor = c.args.self.now in
    let state = c.args.state.now in
    let ins = c.args.ins.now in
    let s = c.stir_point-stirred in
    let drains = to_z-of_z w64 reactor.k (search rules) in
    let temp : ℤ = slice_index_or state 3 (pos 0) in
    let jacket : ℤ = slice_index_or ins 4 (pos 0) in
    let conc : ℤ = value Floor state ins blended in
    let warm : ℤ = value Floor state ins warmed in
    let reacting : ℤ = lookup Floor reactor.rate temp in
    let reacts : ℤ = share Floor conc reacting in
    let hot : ℤ = warm +ℤ gain Floor reactor.heat reacts in
    let held : to_z w64 (of_z w64 s.result.conc) ≡ conc = to_z-of_z w64 s.result.conc (search rules) ∙ s.ensures.conc in
    let rate : to_z w64 (of_z w64 c.lookup-rate.result) ≡ reacting =
    given1 (lookup Floor reactor.rate) _ _ temp (search rules) c.lookup-rate.ensures.value
    (to_z-of_z w64 temp (search rules)) in
    let reacted : to_z w64 (of_z w64 c.share.result) ≡ reacts =
    given2 (share Floor) _ _ _ conc reacting (search rules) c.share.ensures.value held rate in
    let heat : to_z w64 (of_z w64 c.gain.result) ≡ gain Floor reactor.heat reacts =
    given2 (gain Floor) _ _ _ reactor.heat reacts (search rules) c.gain.ensures.value
    (to_z-of_z w64 reactor.heat (search rules)) reacted in
    let heated : to_z w64 (of_z w64 c.add-heated.result) ≡ hot =
    given2 ◌+ℤ◌ (to_z w64 (of_z w64 s.result.temp)) (to_z w64 (of_z w64 c.gain.result)) _ warm
    (gain Floor reactor.heat reacts) (search rules) c.add-heated.ensures
    (to_z-of_z w64 s.result.temp (search rules) ∙ s.ensures.temp) heat in
    c.put.ensures ∙ four_same (clamp reactor.limits.volume) (clamp reactor.limits.flow)
    (clamp reactor.limits.conc) (clamp reactor.limits.temp) _ _ _ _ _ _ _ _
    (to_z-of_z w64 s.result.volume (search rules) ∙ s.ensures.volume ∙
    ap (λ (k : ℤ). value Floor state ins (volume_after k)) drains)
    (to_z-of_z w64 s.result.flow (search rules) ∙ s.ensures.flow ∙
    ap (λ (k : ℤ). value Floor state ins (outflow k)) drains)
    (given2 (keep Floor) _ _ _ conc reacting (search rules) c.keep.ensures.value held rate)
    (given4 (blend Floor) _ _ _ _ _ hot jacket reactor.ua million (search rules) c.blend.ensures.value heated
    (to_z-of_z w64 jacket (search rules))
    (to_z-of_z w64 reactor.ua (search rules)) refl)

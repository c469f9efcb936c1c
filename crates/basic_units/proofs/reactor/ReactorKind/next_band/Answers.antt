-- Each call gives what its term is, from the innermost outward.
use Rattle.std.proofs.Common.{◌≡◌, ℤ, pos, ◌+ℤ◌, rules, [], ◌∷◌, ap, ◌∙◌, arith}
use Rattle.std.proofs.lemmas.Int.{ints, to_z-of_z}
use Rattle.std.specs.Int.{w64}
use Rattle.std.specs.Prelude.{slice_index_or}
use Rattle.quant.specs.Interval.{Interval, point, wide}
use Rattle.quant.specs.Hull.{hull1, hull2, hull4}
use Rattle.quant.specs.Rounding.{Floor}
use Rattle.quant.specs.Operation.{million, share, keep, gain, blend, lookup, clamp}
use Rattle.quant.specs.Term.{interval}
use Rattle.quant.proofs.Calls.{hulled2, hulled4, read, read-inside, inside-length}
use Rattle.quant.proofs.Hulls.{hull-band}
use Rattle.quant.proofs.Terms.{place-inside}
use Rattle.basic_units.specs.Reactor.{state_limits, input_limits}
use Rattle.basic_units.specs.Vessel.{volume_after, outflow, blended, warmed}
use Rattle.basic_units.proofs.Vessels.{are_state_bands, are_input_bands, four_same}
use Rattle.basic_units.proofs.Ranges.{content-inside}
use Rattle.basic_units.proofs.Reactors.{from_zero-wide, heated-inside}
use Rattle.basic_units.proofs.reactor.ReactorKind.next_band.Goals as goal

pub stir_band-stirred-requires-clause-states : goal.stir_band-stirred-requires-clause-states
stir_band-stirred-requires-clause-states c = are_state_bands c.args.self.now.limits c.args.state.now
    c.requires.sound.limits c.requires.states

pub stir_band-stirred-requires-clause-inputs : goal.stir_band-stirred-requires-clause-inputs
stir_band-stirred-requires-clause-inputs c = are_input_bands (wide ∷ []) c.args.ins.now c.requires.inputs

pub bounds-state-3 : goal.bounds-state-3
bounds-state-3 c =
    let e = inside-length c.args.state.now (state_limits c.args.self.now) c.requires.states in omega arith

pub gain_band-requires-clause-number : goal.gain_band-requires-clause-number
gain_band-requires-clause-number c =
    let h = from_zero-wide _ c.share_band.result c.stir_band-stirred.ensures.wide.0 c.share_band.ensures.between in
    record { above = omega (arith, ints); below = omega (arith, ints) }

pub add_band-heated-requires-clause-left : goal.add_band-heated-requires-clause-left
add_band-heated-requires-clause-left c =
    let h = c.stir_band-stirred.ensures.wide.1 in
    record { above = omega (arith, ints); below = omega (arith, ints) }

pub keep_band-requires : goal.keep_band-requires
keep_band-requires c = content-inside _ c.stir_band-stirred.ensures.wide.0

pub bounds-ins-4 : goal.bounds-ins-4
bounds-ins-4 c = let e = inside-length c.args.ins.now input_limits c.requires.inputs in omega arith

pub blend_band-requires-clause-old : goal.blend_band-requires-clause-old
blend_band-requires-clause-old c =
    let w = c.stir_band-stirred.ensures.wide in
    heated-inside _ c.share_band.result c.gain_band.result c.add_band-heated.result c.args.self.now.heat
    c.stir_band-stirred.ensures.band (hull-band _ _ c.share_band.ensures.exact)
    (hull-band _ _ c.gain_band.ensures.exact) w.1
    (from_zero-wide _ c.share_band.result w.0 c.share_band.ensures.between) c.requires.sound.heat
    c.gain_band.ensures.hull c.add_band-heated.ensures.hull

pub blend_band-requires-clause-added : goal.blend_band-requires-clause-added
blend_band-requires-clause-added c =
    let e = inside-length c.args.ins.now input_limits c.requires.inputs in
    content-inside _ (read-inside c.args.ins.now 4 c.index-ins-4.result _ (omega arith) c.index-ins-4.is
    (place-inside c.args.ins.now input_limits 4 c.requires.inputs))

pub returns : goal.returns
returns c =
    let reactor = c.args.self.now in
    let l = reactor.limits in
    let states = c.args.state.now in
    let ins = c.args.ins.now in
    let n = inside-length states (state_limits reactor) c.requires.states in
    let m = inside-length ins input_limits c.requires.inputs in
    let s = c.stir_band-stirred in
    let drains = to_z-of_z w64 reactor.k (search rules) in
    let temp : Interval = slice_index_or states 3 (point (pos 0)) in
    let jacket : Interval = slice_index_or ins 4 (point (pos 0)) in
    let conc : Interval = interval Floor states ins blended in
    let warm : Interval = interval Floor states ins warmed in
    let reacting : Interval = hull1 (lookup Floor reactor.rate) temp in
    let reacts : Interval = hull2 (share Floor) conc reacting in
    let hot : Interval = hull2 ◌+ℤ◌ warm (hull1 (gain Floor reactor.heat) reacts) in
    let rate : c.lookup_band-rate.result ≡ reacting =
    c.lookup_band-rate.ensures.hull ∙ ap (hull1 (lookup Floor reactor.rate))
    (read states 3 _ (omega arith) c.index-state-3.is) in
    let reacted : c.share_band.result ≡ reacts =
    hulled2 (hull2 (share Floor)) _ c.lookup_band-rate.result _ conc reacting c.share_band.ensures.hull s.ensures.conc
    rate in
    let heat : c.gain_band.result ≡ hull1 (gain Floor reactor.heat) reacts =
    c.gain_band.ensures.hull ∙ (ap (λ (g : ℤ). hull1 (gain Floor g) c.share_band.result)
    (to_z-of_z w64 reactor.heat (search rules)) ∙ ap (hull1 (gain Floor reactor.heat)) reacted) in
    let heated : c.add_band-heated.result ≡ hot =
    hulled2 (hull2 ◌+ℤ◌) _ c.gain_band.result _ warm
    (hull1 (gain Floor reactor.heat) reacts) c.add_band-heated.ensures.hull s.ensures.temp heat in
    c.put.ensures ∙ four_same (hull1 (clamp l.volume)) (hull1 (clamp l.flow)) (hull1 (clamp l.conc))
    (hull1 (clamp l.temp)) _ _ _ _ _ _ _ _
    (s.ensures.volume ∙ ap (λ (k : ℤ). interval Floor states ins (volume_after k)) drains)
    (s.ensures.flow ∙ ap (λ (k : ℤ). interval Floor states ins (outflow k)) drains)
    (hulled2 (hull2 (keep Floor)) _ c.lookup_band-rate.result _ conc reacting c.keep_band.ensures.hull s.ensures.conc
    rate)
    (hulled4 (hull4 (blend Floor)) c.add_band-heated.result c.index-ins-4.result c.point.result c.point-2.result _ hot
    jacket (point reactor.ua) (point million) c.blend_band.ensures.hull
    heated (read ins 4 _ (omega arith) c.index-ins-4.is)
    (c.point.ensures ∙ ap point (to_z-of_z w64 reactor.ua (search rules))) c.point-2.ensures)

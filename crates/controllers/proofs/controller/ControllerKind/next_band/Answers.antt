-- Each call gives what its term is, from the innermost outward.
use Rattle.std.proofs.Common.{◌≡◌, ℤ, pos, ◌+ℤ◌, ◌-ℤ◌, to_z, of_z, rules, [], ◌∷◌, refl, ap, ◌∙◌, lit<, arith}
use Rattle.std.proofs.lemmas.Int.{ints, clamps, to_z-of_z}
use Rattle.std.specs.Int.{w64}
use Rattle.std.specs.Prelude.{slice_index_or}
use Rattle.quant.specs.Interval.{Interval, point}
use Rattle.quant.specs.Hull.{hull1, hull2}
use Rattle.quant.specs.Rounding.{Floor}
use Rattle.quant.specs.Operation.{gain, clamp}
use Rattle.quant.proofs.Calls.{filled, same_cons, hulled2, read, inside-length}
use Rattle.controllers.specs.Controller.{state_limits, input_limits}
use Rattle.controllers.proofs.Controllers.{integral-inside, input-inside}
use Rattle.controllers.proofs.controller.ControllerKind.next_band.Goals as goal

pub gain_band-requires-clause-number : goal.gain_band-requires-clause-number
gain_band-requires-clause-number c =
    let h = input-inside c.args.ins.now 0 c.index-ins-0.result c.requires.inputs (lit< tt) c.index-ins-0.is in
    let k = input-inside c.args.ins.now 1 c.index-ins-1.result c.requires.inputs (lit< tt) c.index-ins-1.is in
    let low = ap (λ (A : Interval). A.lo) c.sub_band-error.ensures.hull in
    let high = ap (λ (A : Interval). A.hi) c.sub_band-error.ensures.hull in
    record { above = omega (arith, ints, clamps); below = omega (arith, ints, clamps) }

pub add_band-requires-clause-left : goal.add_band-requires-clause-left
add_band-requires-clause-left c =
    let h = integral-inside c.args.self.now c.args.state.now c.index-state-0.result c.requires.sound c.requires.states
    c.index-state-0.is in
    record { above = omega (arith, ints); below = omega (arith, ints) }

pub gain_band-requires-2-clause-number : goal.gain_band-requires-2-clause-number
gain_band-requires-2-clause-number c =
    let h = input-inside c.args.ins.now 0 c.index-ins-0.result c.requires.inputs (lit< tt) c.index-ins-0.is in
    let k = input-inside c.args.ins.now 1 c.index-ins-1.result c.requires.inputs (lit< tt) c.index-ins-1.is in
    let low = ap (λ (A : Interval). A.lo) c.sub_band-error.ensures.hull in
    let high = ap (λ (A : Interval). A.hi) c.sub_band-error.ensures.hull in
    record { above = omega (arith, ints, clamps); below = omega (arith, ints, clamps) }

pub add_band-requires-2-clause-left : goal.add_band-requires-2-clause-left
add_band-requires-2-clause-left c =
    let h = c.requires.sound.bias in
    let low = ap (λ (A : Interval). A.lo) c.point-bias.ensures in
    let high = ap (λ (A : Interval). A.hi) c.point-bias.ensures in
    record { above = omega (arith, ints); below = omega (arith, ints) }

pub add_band-requires-3-clause-left : goal.add_band-requires-3-clause-left
add_band-requires-3-clause-left c =
    let h = c.requires.sound.bias in
    let s = c.gain_band-2.ensures.size in
    let low = ap (λ (A : Interval). A.lo) c.point-bias.ensures in
    let high = ap (λ (A : Interval). A.hi) c.point-bias.ensures in
    let least = ap (λ (A : Interval). A.lo) c.add_band-2.ensures.hull in
    let most = ap (λ (A : Interval). A.hi) c.add_band-2.ensures.hull in
    record { above = omega (arith, ints, clamps); below = omega (arith, ints, clamps) }

pub add_band-requires-3-clause-right : goal.add_band-requires-3-clause-right
add_band-requires-3-clause-right c =
    let h = integral-inside c.args.self.now c.args.state.now c.index-state-0-2.result c.requires.sound
    c.requires.states c.index-state-0-2.is in
    record { above = omega (arith, ints); below = omega (arith, ints) }

pub returns : goal.returns
returns c =
    let controller = c.args.self.now in
    let states = c.args.state.now in
    let ins = c.args.ins.now in
    let l = inside-length states (state_limits controller) c.requires.states in
    let n = inside-length ins input_limits c.requires.inputs in
    let integral : Interval = slice_index_or states 0 (point (pos 0)) in
    let set : Interval = slice_index_or ins 0 (point (pos 0)) in
    let measured : Interval = slice_index_or ins 1 (point (pos 0)) in
    let kp : to_z w64 (of_z w64 controller.kp) ≡ controller.kp = to_z-of_z w64 controller.kp (search rules) in
    let ki : to_z w64 (of_z w64 controller.ki) ≡ controller.ki = to_z-of_z w64 controller.ki (search rules) in
    let bias : c.point-bias.result ≡ point controller.bias = c.point-bias.ensures ∙
    ap point (to_z-of_z w64 controller.bias (search rules)) in
    let error : Interval = hull2 ◌-ℤ◌ set measured in
    let e : c.sub_band-error.result ≡ error =
    hulled2 (hull2 ◌-ℤ◌) c.index-ins-0.result c.index-ins-1.result _ set measured c.sub_band-error.ensures.hull
    (read ins 0 _ (omega arith) c.index-ins-0.is) (read ins 1 _ (omega arith) c.index-ins-1.is) in
    let adds : c.gain_band.result ≡ hull1 (gain Floor controller.ki) error =
    c.gain_band.ensures.hull ∙ (ap (λ (k : ℤ). hull1 (gain Floor k) c.sub_band-error.result) ki ∙
    ap (hull1 (gain Floor controller.ki)) e) in
    let summed : c.add_band.result ≡ hull2 ◌+ℤ◌ integral (hull1 (gain Floor controller.ki) error) =
    hulled2 (hull2 ◌+ℤ◌) c.index-state-0.result c.gain_band.result _ integral
    (hull1 (gain Floor controller.ki) error) c.add_band.ensures.hull
    (read states 0 _ (omega arith) c.index-state-0.is) adds in
    let acts : c.gain_band-2.result ≡ hull1 (gain Floor controller.kp) error =
    c.gain_band-2.ensures.hull ∙ (ap (λ (k : ℤ). hull1 (gain Floor k) c.sub_band-error.result) kp ∙
    ap (hull1 (gain Floor controller.kp)) e) in
    let based : c.add_band-2.result ≡ hull2 ◌+ℤ◌ (point controller.bias) (hull1 (gain Floor controller.kp) error) =
    hulled2 (hull2 ◌+ℤ◌) c.point-bias.result c.gain_band-2.result _ (point controller.bias)
    (hull1 (gain Floor controller.kp) error) c.add_band-2.ensures.hull bias acts in
    let whole : c.add_band-3.result ≡ hull2 ◌+ℤ◌
    (hull2 ◌+ℤ◌ (point controller.bias) (hull1 (gain Floor controller.kp) error)) integral =
    hulled2 (hull2 ◌+ℤ◌) c.add_band-2.result c.index-state-0-2.result _
    (hull2 ◌+ℤ◌ (point controller.bias) (hull1 (gain Floor controller.kp) error)) integral c.add_band-3.ensures.hull
    based (read states 0 _ (omega arith) c.index-state-0-2.is) in
    filled c.args.new.now (_ ∷ _ ∷ []) c.requires.room
    ∙ same_cons _ _ _ _ (c.clamp_band.ensures.hull ∙ ap (hull1 (clamp controller.integral_limits)) summed)
    (same_cons _ _ _ _ (c.clamp_band-2.ensures.hull ∙ ap (hull1 (clamp controller.limits.signal)) whole) refl)

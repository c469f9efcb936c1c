-- Each call gives what its term is, from the innermost outward.
use Rattle.std.proofs.Common.{◌≡◌, ℤ, pos, ◌+ℤ◌, ◌-ℤ◌, to_z, of_z, rules, [], ◌∷◌, refl, ◌∙◌, arith}
use Rattle.std.proofs.lemmas.Int.{ints, to_z-of_z}
use Rattle.std.specs.Int.{w64}
use Rattle.std.specs.Prelude.{slice_index_or}
use Rattle.quant.specs.Rounding.{Floor}
use Rattle.quant.specs.Operation.{gain, clamp}
use Rattle.quant.proofs.Calls.{filled, same_cons, given1, given2}
use Rattle.controllers.proofs.Controllers.{integral-held, input-held}
use Rattle.controllers.proofs.controller.ControllerKind.next_point.Goals as goal

pub sub-error-requires-clause-right : goal.sub-error-requires-clause-right
sub-error-requires-clause-right c =
    let h = input-held c.args.ins.now 1 c.requires.inputs in
    record { above = omega (arith, ints); below = omega (arith, ints) }

pub gain-requires-clause-number : goal.gain-requires-clause-number
gain-requires-clause-number c =
    let h = input-held c.args.ins.now 0 c.requires.inputs in
    let k = input-held c.args.ins.now 1 c.requires.inputs in
    let e = c.sub-error.ensures in
    record { above = omega (arith, ints); below = omega (arith, ints) }

pub add-requires-clause-left : goal.add-requires-clause-left
add-requires-clause-left c =
    let h = integral-held c.args.self.now c.args.state.now c.requires.sound c.requires.states in
    record { above = omega (arith, ints); below = omega (arith, ints) }

pub gain-requires-2-clause-number : goal.gain-requires-2-clause-number
gain-requires-2-clause-number c =
    let h = input-held c.args.ins.now 0 c.requires.inputs in
    let k = input-held c.args.ins.now 1 c.requires.inputs in
    let e = c.sub-error.ensures in
    record { above = omega (arith, ints); below = omega (arith, ints) }

pub add-requires-3-clause-right : goal.add-requires-3-clause-right
add-requires-3-clause-right c =
    let h = integral-held c.args.self.now c.args.state.now c.requires.sound c.requires.states in
    record { above = omega (arith, ints); below = omega (arith, ints) }

pub returns : goal.returns
returns c =
    let controller = c.args.self.now in
    let integral : ℤ = slice_index_or c.args.state.now 0 (pos 0) in
    let set : ℤ = slice_index_or c.args.ins.now 0 (pos 0) in
    let measured : ℤ = slice_index_or c.args.ins.now 1 (pos 0) in
    let kp : to_z w64 (of_z w64 controller.kp) ≡ controller.kp = to_z-of_z w64 controller.kp (search rules) in
    let ki : to_z w64 (of_z w64 controller.ki) ≡ controller.ki = to_z-of_z w64 controller.ki (search rules) in
    let bias : to_z w64 (of_z w64 controller.bias) ≡ controller.bias = to_z-of_z w64 controller.bias (search rules) in
    let i : to_z w64 (of_z w64 integral) ≡ integral = to_z-of_z w64 integral (search rules) in
    let s : to_z w64 (of_z w64 set) ≡ set = to_z-of_z w64 set (search rules) in
    let m : to_z w64 (of_z w64 measured) ≡ measured = to_z-of_z w64 measured (search rules) in
    let error : ℤ = set -ℤ measured in
    let e : to_z w64 (of_z w64 c.sub-error.result) ≡ error =
    given2 ◌-ℤ◌ (to_z w64 (of_z w64 set)) (to_z w64 (of_z w64 measured)) _ set measured
    (search rules) c.sub-error.ensures s m in
    let adds : to_z w64 (of_z w64 c.gain.result) ≡ gain Floor controller.ki error =
    given2 (gain Floor) _ _ _ controller.ki error (search rules) c.gain.ensures.value ki e in
    let summed : to_z w64 (of_z w64 c.add.result) ≡ integral +ℤ gain Floor controller.ki error =
    given2 ◌+ℤ◌ (to_z w64 (of_z w64 integral)) (to_z w64 (of_z w64 c.gain.result)) _ integral
    (gain Floor controller.ki error) (search rules) c.add.ensures i adds in
    let acts : to_z w64 (of_z w64 c.gain-2.result) ≡ gain Floor controller.kp error =
    given2 (gain Floor) _ _ _ controller.kp error (search rules) c.gain-2.ensures.value kp e in
    let based : to_z w64 (of_z w64 c.add-2.result) ≡ controller.bias +ℤ gain Floor controller.kp error =
    given2 ◌+ℤ◌ (to_z w64 (of_z w64 controller.bias)) (to_z w64 (of_z w64 c.gain-2.result)) _ controller.bias
    (gain Floor controller.kp error) (search rules) c.add-2.ensures bias acts in
    let whole : to_z w64 (of_z w64 c.add-3.result) ≡ (controller.bias +ℤ gain Floor controller.kp error) +ℤ integral =
    given2 ◌+ℤ◌ (to_z w64 (of_z w64 c.add-2.result)) (to_z w64 (of_z w64 integral)) _
    (controller.bias +ℤ gain Floor controller.kp error) integral (search rules) c.add-3.ensures based i in
    filled c.args.new.now (_ ∷ _ ∷ []) c.requires.room
    ∙ same_cons _ _ _ _ (given1 (clamp controller.integral_limits) _ _ _ (search rules) c.clamp.ensures.value summed)
    (same_cons _ _ _ _ (given1 (clamp controller.limits.signal) _ _ _ (search rules) c.clamp-2.ensures.value whole)
    refl)

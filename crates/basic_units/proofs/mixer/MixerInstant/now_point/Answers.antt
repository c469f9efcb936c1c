-- Each stream is mixed into those before it.
use Rattle.std.proofs.Common.{◌≡◌, ℤ, pos, ◌+◌, ◌-◌, ◌*◌, ◌+ℤ◌, to_z, of_z, rules, [], ◌∷◌, refl, subst, ◌∙◌, arith}
use Rattle.std.proofs.lemmas.Int.{ints, clamps, to_z-of_z}
use Rattle.std.specs.Int.{w64}
use Rattle.std.specs.Prelude.{slice_index_or}
use Rattle.quant.specs.Rounding.{Floor}
use Rattle.quant.specs.Operation.{mix, clamp}
use Rattle.quant.specs.Term.{value}
use Rattle.quant.proofs.Calls.{filled, same_cons, given1, given2, given4}
use Rattle.basic_units.specs.Mixer.{flow_of, content_of}
use Rattle.basic_units.proofs.Mixers.{AreMixed, channels-held, flow-more, content-more}
use Rattle.basic_units.proofs.Ranges.{flow-read, content-read}
use Rattle.basic_units.proofs.mixer.MixerInstant.now_point.Goals as goal

pub loop-i-init : goal.loop-i-init
loop-i-init c =
    let ins = c.args.ins.now in
    let held = channels-held _ 0 ins c.requires.inputs (omega (arith, c.requires.sound.some)) in
    let f = held.flow in
    let g = held.conc in
    let h = held.temp in
    record {
      flow_is = to_z-of_z w64 (slice_index_or ins 0 (pos 0)) (search rules);
      conc_is = to_z-of_z w64 (slice_index_or ins 1 (pos 0)) (search rules);
      temp_is = to_z-of_z w64 (slice_index_or ins 2 (pos 0)) (search rules);
      flow_held = record { above = omega (arith, ints); below = omega (arith, ints) };
      conc_held = record { above = omega (arith, ints); below = omega (arith, ints) };
      temp_held = record { above = omega (arith, ints); below = omega (arith, ints) };
    }

pub mix-conc-requires : goal.mix-conc-requires
mix-conc-requires c =
    let held = channels-held _ _ _ c.requires.inputs c.loop-i-test.true in
    record { first = search rules; second = content-read _ held.conc; first_flow = search rules; second_flow = flow-read _ held.flow }

pub mix-temp-requires : goal.mix-temp-requires
mix-temp-requires c =
    let held = channels-held _ _ _ c.requires.inputs c.loop-i-test.true in
    record { first = search rules; second = content-read _ held.temp; first_flow = search rules; second_flow = flow-read _ held.flow }

pub add-flow-requires-clause-right : goal.add-flow-requires-clause-right
add-flow-requires-clause-right c =
    let h = (channels-held _ _ _ c.requires.inputs c.loop-i-test.true).flow in
    record { above = omega (arith, ints); below = omega (arith, ints) }

pub loop-i-preserved : goal.loop-i-preserved
loop-i-preserved c =
    let ins = c.args.ins.now in
    let i = c.loop-i.i in
    let w = c.loop-i.invariant in
    let more : ℤ = slice_index_or ins (3 * c.loop-i.i) (pos 0) in
    let conc : ℤ = slice_index_or ins (3 * c.loop-i.i + 1) (pos 0) in
    let temp : ℤ = slice_index_or ins (3 * c.loop-i.i + 2) (pos 0) in
    let m : to_z w64 (of_z w64 more) ≡ more = to_z-of_z w64 more (search rules) in
    let d : to_z w64 (of_z w64 conc) ≡ conc = to_z-of_z w64 conc (search rules) in
    let t : to_z w64 (of_z w64 temp) ≡ temp = to_z-of_z w64 temp (search rules) in
    let held = channels-held _ _ _ c.requires.inputs c.loop-i-test.true in
    let f = held.flow in
    let g = held.conc in
    let h = held.temp in
    let flow : ℤ = value Floor [] ins (flow_of (c.loop-i.i - 1)) in
    let a = c.add-flow.ensures in
    let b = c.mix-conc.ensures.between in
    let e = c.mix-temp.ensures.between in
    record {
      flow_is = given2 ◌+ℤ◌ (to_z w64 c.loop-i.flow-bits) (to_z w64 (of_z w64 more)) c.add-flow.result flow more
          (search rules) c.add-flow.ensures w.flow_is m ∙ flow-more ins c.loop-i.i c.loop-i.auto.i;
      conc_is = given4 (mix Floor) _ _ _ _ c.mix-conc.result
          (value Floor [] ins (content_of 1 (c.loop-i.i - 1))) conc flow more
          (search rules) c.mix-conc.ensures.value w.conc_is d w.flow_is m ∙
          content-more ins 1 c.loop-i.i c.loop-i.auto.i;
      temp_is = given4 (mix Floor) _ _ _ _ c.mix-temp.result
          (value Floor [] ins (content_of 2 (c.loop-i.i - 1))) temp flow more
          (search rules) c.mix-temp.ensures.value w.temp_is t w.flow_is m ∙
          content-more ins 2 c.loop-i.i c.loop-i.auto.i;
      flow_held = record {
        above = omega (arith, ints, w.flow_held.above, f.above);
        below = omega (arith, ints, w.flow_held.below, f.below);
      };
      conc_held = record {
        above = omega (arith, ints, clamps, w.conc_held.above);
        below = omega (arith, ints, clamps, w.conc_held.below);
      };
      temp_held = record {
        above = omega (arith, ints, clamps, w.temp_held.above);
        below = omega (arith, ints, clamps, w.temp_held.below);
      };
    }

pub returns : goal.returns
returns c =
    let mixer = c.args.self.now in
    let all : c.loop-i.i ≡ c.args.self.now.inputs = omega (arith, c.requires.sound.some) in
    let w = subst (λ n. AreMixed c.args.ins.now n (to_z w64 c.loop-i.flow-bits) (to_z w64 c.loop-i.conc-bits)
    (to_z w64 c.loop-i.temp-bits)) all c.loop-i.invariant in
    filled c.args.outs.now (_ ∷ _ ∷ _ ∷ []) c.requires.room
    ∙ same_cons _ _ _ _ (given1 (clamp mixer.limits.flow) _ _ _ (search rules) c.clamp.ensures.value w.flow_is)
    (same_cons _ _ _ _ (given1 (clamp mixer.limits.conc) _ _ _ (search rules) c.clamp-2.ensures.value w.conc_is)
    (same_cons _ _ _ _ (given1 (clamp mixer.limits.temp) _ _ _ (search rules) c.clamp-3.ensures.value w.temp_is) refl))

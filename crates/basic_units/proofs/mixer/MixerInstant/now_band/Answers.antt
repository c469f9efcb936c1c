-- Each stream is mixed into those before it.
use Rattle.std.proofs.Common.{◌≡◌, pos, ◌+◌, ◌-◌, ◌*◌, ◌+ℤ◌, [], ◌∷◌, refl, ap, subst, ◌∙◌, lit<, rules, arith}
use Rattle.std.proofs.lemmas.Int.{ints}
use Rattle.std.specs.Prelude.{slice_index_or}
use Rattle.quant.specs.Interval.{Interval, point}
use Rattle.quant.specs.Hull.{hull1, hull2, hull4}
use Rattle.quant.specs.Rounding.{Floor}
use Rattle.quant.specs.Operation.{mix, clamp}
use Rattle.quant.specs.Term.{interval}
use Rattle.quant.proofs.Calls.{filled, same_cons, inside-length, read, hulled2, hulled4}
use Rattle.basic_units.specs.Mixer.{flow_of, content_of, streams}
use Rattle.basic_units.proofs.Reactors.{joined-wide}
use Rattle.basic_units.proofs.Mixers.{AreMixedBands, channel-inside, channels-inside, streams-length, flow-more_bands, content-more_bands, sum-inside}
use Rattle.basic_units.proofs.Ranges.{flow-inside, content-inside}
use Rattle.basic_units.proofs.mixer.MixerInstant.now_band.Goals as goal

pub loop-i-init : goal.loop-i-init
loop-i-init c =
    let ins = c.args.ins.now in
    let e = inside-length c.args.ins.now (streams c.args.self.now.inputs) c.requires.inputs in
    let n = streams-length c.args.self.now.inputs in
    let some = c.requires.sound.some in
    let held = channels-inside _ 0 _ _ _ _ c.requires.inputs (omega (arith, c.requires.sound.some)) c.index-ins-0.is
    c.index-ins-1.is c.index-ins-2.is in
    let f = held.flow in
    record {
      flow_is = read ins 0 _ (omega arith) c.index-ins-0.is;
      conc_is = read ins 1 _ (omega arith) c.index-ins-1.is;
      temp_is = read ins 2 _ (omega arith) c.index-ins-2.is;
      flow_held = record { above = omega (arith, ints); below = omega (arith, ints) };
      conc_held = held.conc;
      temp_held = held.temp;
    }

pub mix_band-conc-requires : goal.mix_band-conc-requires
mix_band-conc-requires c =
    let l = c.loop-i-test.true in
    record {
      first = search rules;
      second = content-inside _ (channel-inside _ c.loop-i.i 1 _ _ _ c.requires.inputs l (lit< tt) refl
          c.index-ins-i-in-loop-i.is);
      first_flow = search rules;
      second_flow = flow-inside _ (channel-inside _ c.loop-i.i 0 _ _ _ c.requires.inputs l (lit< tt) (omega arith)
          c.index-ins-i.is);
    }

pub mix_band-temp-requires : goal.mix_band-temp-requires
mix_band-temp-requires c =
    let held = channels-inside _ _ _ _ _ _ c.requires.inputs c.loop-i-test.true c.index-ins-i.is
    c.index-ins-i-in-loop-i.is c.index-ins-i-in-loop-i-2.is in
    record {
      first = search rules;
      second = content-inside _ held.temp;
      first_flow = search rules;
      second_flow = flow-inside _ held.flow;
    }

pub add_band-flow-requires-clause-right : goal.add_band-flow-requires-clause-right
add_band-flow-requires-clause-right c =
    let h = channel-inside _ c.loop-i.i 0 _ _ _ c.requires.inputs c.loop-i-test.true (lit< tt) (omega arith)
    c.index-ins-i.is in
    record { above = omega (arith, ints); below = omega (arith, ints) }

pub loop-i-preserved : goal.loop-i-preserved
loop-i-preserved c =
    let ins = c.args.ins.now in
    let w = c.loop-i.invariant in
    let e = inside-length c.args.ins.now (streams c.args.self.now.inputs) c.requires.inputs in
    let n = streams-length c.args.self.now.inputs in
    let l = c.loop-i-test.true in
    let more : Interval = slice_index_or ins (3 * c.loop-i.i) (point (pos 0)) in
    let conc : Interval = slice_index_or ins (3 * c.loop-i.i + 1) (point (pos 0)) in
    let temp : Interval = slice_index_or ins (3 * c.loop-i.i + 2) (point (pos 0)) in
    let m : c.index-ins-i.result ≡ more = read ins (3 * c.loop-i.i) _ (omega arith) c.index-ins-i.is in
    let d : c.index-ins-i-in-loop-i.result ≡ conc =
    read ins (3 * c.loop-i.i + 1) _ (omega arith) c.index-ins-i-in-loop-i.is in
    let t : c.index-ins-i-in-loop-i-2.result ≡ temp =
    read ins (3 * c.loop-i.i + 2) _ (omega arith) c.index-ins-i-in-loop-i-2.is in
    let held = channels-inside _ _ _ _ _ _ c.requires.inputs l c.index-ins-i.is c.index-ins-i-in-loop-i.is
    c.index-ins-i-in-loop-i-2.is in
    let flow : Interval = interval Floor [] ins (flow_of (c.loop-i.i - 1)) in
    record {
      flow_is = hulled2 (hull2 ◌+ℤ◌) c.loop-i.flow c.index-ins-i.result c.add_band-flow.result flow more
          c.add_band-flow.ensures.hull w.flow_is m ∙ flow-more_bands ins c.loop-i.i c.loop-i.auto.i;
      conc_is = hulled4 (hull4 (mix Floor)) c.loop-i.conc c.index-ins-i-in-loop-i.result c.loop-i.flow
          c.index-ins-i.result c.mix_band-conc.result
          (interval Floor [] ins (content_of 1 (c.loop-i.i - 1))) conc flow more
          c.mix_band-conc.ensures.hull w.conc_is d w.flow_is m ∙ content-more_bands ins 1 c.loop-i.i c.loop-i.auto.i;
      temp_is = hulled4 (hull4 (mix Floor)) c.loop-i.temp c.index-ins-i-in-loop-i-2.result c.loop-i.flow
          c.index-ins-i.result c.mix_band-temp.result
          (interval Floor [] ins (content_of 2 (c.loop-i.i - 1))) temp flow more
          c.mix_band-temp.ensures.hull w.temp_is t w.flow_is m ∙ content-more_bands ins 2 c.loop-i.i c.loop-i.auto.i;
      flow_held = sum-inside c.loop-i.i c.loop-i.flow c.index-ins-i.result c.add_band-flow.result w.flow_held held.flow
          c.add_band-flow.ensures.exact;
      conc_held = joined-wide c.loop-i.conc c.index-ins-i-in-loop-i.result c.mix_band-conc.result w.conc_held held.conc
          c.mix_band-conc.ensures.between;
      temp_held = joined-wide c.loop-i.temp c.index-ins-i-in-loop-i-2.result c.mix_band-temp.result w.temp_held held.temp
          c.mix_band-temp.ensures.between;
    }

pub returns : goal.returns
returns c =
    let mixer = c.args.self.now in
    let all : c.loop-i.i ≡ c.args.self.now.inputs = omega (arith, c.requires.sound.some) in
    let w = subst (λ n. AreMixedBands c.args.ins.now n c.loop-i.flow c.loop-i.conc c.loop-i.temp) all
    c.loop-i.invariant in
    filled c.args.outs.now (_ ∷ _ ∷ _ ∷ []) c.requires.room
    ∙ same_cons _ _ _ _ (c.clamp_band.ensures.hull ∙ ap (hull1 (clamp mixer.limits.flow)) w.flow_is)
    (same_cons _ _ _ _ (c.clamp_band-2.ensures.hull ∙ ap (hull1 (clamp mixer.limits.conc)) w.conc_is)
    (same_cons _ _ _ _ (c.clamp_band-3.ensures.hull ∙ ap (hull1 (clamp mixer.limits.temp)) w.temp_is) refl))

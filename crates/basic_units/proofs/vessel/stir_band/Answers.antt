-- Each call gives what its term is, from the innermost outward.
use Rattle.std.proofs.Common.{◌≡◌, pos, ◌+ℤ◌, ap, ◌∙◌, arith}
use Rattle.std.proofs.lemmas.Int.{ints, clamps, to_z-of_z}
use Rattle.std.specs.Int.{w64}
use Rattle.std.specs.Prelude.{slice_index_or}
use Rattle.quant.specs.Interval.{Interval, point, wide}
use Rattle.quant.specs.Hull.{hull2, hull4}
use Rattle.quant.specs.Rounding.{Floor}
use Rattle.quant.specs.Operation.{share, keep, blend}
use Rattle.quant.proofs.Calls.{hulled2, hulled4, read, read-inside}
use Rattle.quant.proofs.Hulls.{hull-band}
use Rattle.basic_units.proofs.Reactors.{joined-wide}
use Rattle.basic_units.proofs.vessel.stir_band.Goals as goal

pub add_band-requires-clause-left : goal.add_band-requires-clause-left
add_band-requires-clause-left c =
    let four = c.requires.states.four in
    let h = read-inside c.args.state.now 0 c.index-state-0.result _
    (omega arith) c.index-state-0.is c.requires.states.volume in
    let k = c.keep_band-kept.ensures.between in
    record { above = omega (arith, ints, clamps); below = omega (arith, ints, clamps) }

pub returns : goal.returns
returns c =
    let k = c.args.k in
    let states = c.args.state.now in
    let ins = c.args.ins.now in
    let four = c.requires.states.four in
    let more = c.requires.inputs.four in
    let volume : Interval = slice_index_or states 0 (point (pos 0)) in
    let in_flow : Interval = slice_index_or ins 0 (point (pos 0)) in
    let valve : Interval = slice_index_or ins 3 (point (pos 0)) in
    let part : Interval = hull2 (share Floor) (point k) valve in
    let drained : c.share_band-drained.result ≡ part =
    hulled2 (hull2 (share Floor)) c.point.result c.index-ins-3.result _
    (point k) valve c.share_band-drained.ensures.hull
    (c.point.ensures ∙ ap point (to_z-of_z w64 k c.ranges.k)) (read ins 3 _ (omega arith) c.index-ins-3.is) in
    let kept : c.keep_band-kept.result ≡ hull2 (keep Floor) volume part =
    hulled2 (hull2 (keep Floor)) c.index-state-0.result c.share_band-drained.result _ volume part
    c.keep_band-kept.ensures.hull
    (read states 0 _ (omega arith) c.index-state-0.is) drained in
    record {
      volume = hulled2 (hull2 ◌+ℤ◌) c.keep_band-kept.result c.index-ins-0.result _
          (hull2 (keep Floor) volume part) in_flow c.add_band.ensures.hull kept
          (read ins 0 _ (omega arith) c.index-ins-0.is);
      flow = hulled2 (hull2 (share Floor)) c.index-state-0-2.result c.share_band-drained.result _ volume part
          c.share_band.ensures.hull
          (read states 0 _ (omega arith) c.index-state-0-2.is) drained;
      conc = hulled4 (hull4 (blend Floor)) _ _ _ _ _ _ _ in_flow volume c.blend_band.ensures.hull
          (read states 2 _ (omega arith) c.index-state-2.is)
          (read ins 1 _ (omega arith) c.index-ins-1.is) (read ins 0 _ (omega arith) c.index-ins-0-2.is)
          (read states 0 _ (omega arith) c.index-state-0-3.is);
      temp = hulled4 (hull4 (blend Floor)) _ _ _ _ _ _ _ in_flow volume c.blend_band-2.ensures.hull
          (read states 3 _ (omega arith) c.index-state-3.is)
          (read ins 2 _ (omega arith) c.index-ins-2.is) (read ins 0 _ (omega arith) c.index-ins-0-3.is)
          (read states 0 _ (omega arith) c.index-state-0-4.is);
      band = hull-band _ _ c.blend_band-2.ensures.exact;
      wide = (
        joined-wide _ _ _ (read-inside states 2 _ wide (omega arith) c.index-state-2.is c.requires.states.conc)
            (read-inside ins 1 _ wide (omega arith) c.index-ins-1.is c.requires.inputs.conc)
            c.blend_band.ensures.between,
        joined-wide _ _ _ (read-inside states 3 _ wide (omega arith) c.index-state-3.is c.requires.states.temp)
            (read-inside ins 2 _ wide (omega arith) c.index-ins-2.is c.requires.inputs.temp)
            c.blend_band-2.ensures.between,
      );
    }

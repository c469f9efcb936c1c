-- Each call gives what its term is, from the innermost outward.
use Rattle.std.proofs.Common.{◌≡◌, ℤ, pos, ◌+ℤ◌, to_z, of_z, rules, arith}
use Rattle.std.proofs.lemmas.Int.{ints, clamps, to_z-of_z}
use Rattle.std.specs.Int.{w64}
use Rattle.std.specs.Prelude.{slice_index_or}
use Rattle.quant.specs.Rounding.{Floor}
use Rattle.quant.specs.Operation.{share, keep, blend}
use Rattle.quant.proofs.Calls.{given2, given4}
use Rattle.basic_units.proofs.Reactors.{blended-wide, read-wide}
use Rattle.basic_units.proofs.vessel.stir_point.Goals as goal

pub add-requires-clause-left : goal.add-requires-clause-left
add-requires-clause-left c = let h = c.requires.states.volume in let k = c.keep.ensures.between in
    record { above = omega (arith, ints, clamps); below = omega (arith, ints, clamps) }

pub returns : goal.returns
returns c =
    let state = c.args.state.now in
    let ins = c.args.ins.now in
    let volume : ℤ = slice_index_or state 0 (pos 0) in
    let v : to_z w64 (of_z w64 volume) ≡ volume = to_z-of_z w64 volume (search rules) in
    let conc : ℤ = slice_index_or state 2 (pos 0) in
    let temp : ℤ = slice_index_or state 3 (pos 0) in
    let in_flow : ℤ = slice_index_or ins 0 (pos 0) in
    let valve : ℤ = slice_index_or ins 3 (pos 0) in
    let f : to_z w64 (of_z w64 in_flow) ≡ in_flow = to_z-of_z w64 in_flow (search rules) in
    let part : ℤ = share Floor c.args.k valve in
    let drained : to_z w64 (of_z w64 c.share-drained.result) ≡ part =
    given2 (share Floor) _ _ _ c.args.k valve (search rules) c.share-drained.ensures.value
    (to_z-of_z w64 c.args.k c.ranges.k)
    (to_z-of_z w64 valve (search rules)) in
    let kept : to_z w64 (of_z w64 c.keep.result) ≡ keep Floor volume part =
    given2 (keep Floor) _ _ _ volume part (search rules) c.keep.ensures.value v drained in
    record {
      volume = given2 ◌+ℤ◌ (to_z w64 (of_z w64 c.keep.result)) (to_z w64 (of_z w64 in_flow)) _
          (keep Floor volume part) in_flow (search rules) c.add.ensures kept f;
      flow = given2 (share Floor) _ _ _ volume part (search rules) c.share.ensures.value v drained;
      conc = given4 (blend Floor) _ _ _ _ _ conc _ in_flow volume (search rules) c.blend.ensures.value
          (to_z-of_z w64 conc (search rules)) (to_z-of_z w64 _ (search rules)) f v;
      temp = given4 (blend Floor) _ _ _ _ _ temp _ in_flow volume (search rules) c.blend-2.ensures.value
          (to_z-of_z w64 temp (search rules)) (to_z-of_z w64 _ (search rules)) f v;
      wide = (
        read-wide _ (blended-wide _ _ c.blend.result c.requires.states.conc c.requires.inputs.conc
            c.blend.ensures.between),
        read-wide _ (blended-wide _ _ c.blend-2.result c.requires.states.temp c.requires.inputs.temp
            c.blend-2.ensures.between),
      );
    }

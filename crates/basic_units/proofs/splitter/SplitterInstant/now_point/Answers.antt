-- Each call gives what its term is, from the innermost outward.
use Rattle.std.proofs.Common.{◌≡◌, ℤ, pos, to_z, of_z, rules, refl, ◌∙◌}
use Rattle.std.proofs.lemmas.Int.{to_z-of_z}
use Rattle.std.specs.Int.{w64}
use Rattle.std.specs.Prelude.{slice_index_or}
use Rattle.quant.specs.Rounding.{Floor}
use Rattle.quant.specs.Operation.{share, keep, clamp}
use Rattle.quant.proofs.Calls.{same_cons, given1, given2}
use Rattle.basic_units.proofs.splitter.SplitterInstant.now_point.Goals as goal

pub returns : goal.returns
returns c =
    let splitter = c.args.self.now in
    let ins = c.args.ins.now in
    let in_flow : ℤ = slice_index_or ins 0 (pos 0) in
    let in_conc : ℤ = slice_index_or ins 1 (pos 0) in
    let in_temp : ℤ = slice_index_or ins 2 (pos 0) in
    let g : to_z w64 (of_z w64 splitter.share) ≡ splitter.share = to_z-of_z w64 splitter.share (search rules) in
    let f : to_z w64 (of_z w64 in_flow) ≡ in_flow = to_z-of_z w64 in_flow (search rules) in
    let d : to_z w64 (of_z w64 in_conc) ≡ in_conc = to_z-of_z w64 in_conc (search rules) in
    let t : to_z w64 (of_z w64 in_temp) ≡ in_temp = to_z-of_z w64 in_temp (search rules) in
    let first : to_z w64 (of_z w64 c.share.result) ≡ share Floor in_flow splitter.share =
    given2 (share Floor) _ _ _ in_flow splitter.share (search rules) c.share.ensures.value f g in
    let second : to_z w64 (of_z w64 c.keep.result) ≡ keep Floor in_flow splitter.share =
    given2 (keep Floor) _ _ _ in_flow splitter.share (search rules) c.keep.ensures.value f g in
    let conc : to_z w64 (of_z w64 c.clamp-conc.result) ≡ clamp splitter.limits.conc in_conc =
    given1 (clamp splitter.limits.conc) _ _ _ (search rules) c.clamp-conc.ensures.value d in
    let temp : to_z w64 (of_z w64 c.clamp-temp.result) ≡ clamp splitter.limits.temp in_temp =
    given1 (clamp splitter.limits.temp) _ _ _ (search rules) c.clamp-temp.ensures.value t in
    c.copy_from_slice.ensures.after ∙
    same_cons _ _ _ _ (given1 (clamp splitter.limits.flow) _ _ _ (search rules) c.clamp-first.ensures.value first)
    (same_cons _ _ _ _ conc (same_cons _ _ _ _ temp
    (same_cons _ _ _ _ (given1 (clamp splitter.limits.flow) _ _ _ (search rules) c.clamp-second.ensures.value second)
    (same_cons _ _ _ _ conc (same_cons _ _ _ _ temp refl)))))

pub bounds-ins-0 : goal.bounds-ins-0
bounds-ins-0 c = search rules

pub bounds-ins-0-2 : goal.bounds-ins-0-2
bounds-ins-0-2 c = search rules

pub bounds-ins-1 : goal.bounds-ins-1
bounds-ins-1 c = search rules

pub bounds-ins-2 : goal.bounds-ins-2
bounds-ins-2 c = search rules

pub keep-requires : goal.keep-requires
keep-requires c = search rules

pub share-requires : goal.share-requires
share-requires c = search rules

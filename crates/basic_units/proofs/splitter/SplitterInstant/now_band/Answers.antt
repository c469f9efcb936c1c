-- Each call gives what its term is, from the innermost outward.
use Rattle.std.proofs.Common.{◌≡◌, pos, List, get_or, rules, refl, ap, ◌∙◌, arith}
use Rattle.std.proofs.lemmas.Int.{ints, to_z-of_z}
use Rattle.std.specs.Int.{w64}
use Rattle.std.specs.Prelude.{slice_index_or}
use Rattle.quant.specs.Interval.{Interval, AllInside, IsInside, point}
use Rattle.quant.specs.Hull.{hull1, hull2}
use Rattle.quant.specs.Rounding.{Floor}
use Rattle.quant.specs.Operation.{contents, share, keep, clamp}
use Rattle.quant.proofs.Calls.{same_cons, hulled2, read, read-inside, inside-length}
use Rattle.quant.proofs.Terms.{place-inside}
use Rattle.basic_units.specs.Splitter.{input_limits}
use Rattle.basic_units.proofs.splitter.SplitterInstant.now_band.Goals as goal

-- the rows are as long as their limits, and no share of the flow is too great
flow-taken : (ins : List Interval) (A : Interval) → AllInside ins input_limits → A ≡ get_or ins 0 A → IsInside A contents
flow-taken ins A h e =
    let n = inside-length ins input_limits h in
    let k = read-inside ins 0 A _ (omega arith) e (place-inside ins input_limits 0 h) in
    record { above = omega (arith, ints); below = omega (arith, ints) }

pub bounds-ins-1 : goal.bounds-ins-1
bounds-ins-1 c = let n = inside-length c.args.ins.now input_limits c.requires.inputs in omega arith

pub bounds-ins-2 : goal.bounds-ins-2
bounds-ins-2 c = let n = inside-length c.args.ins.now input_limits c.requires.inputs in omega arith

pub share_band-requires : goal.share_band-requires
share_band-requires c = flow-taken c.args.ins.now _ c.requires.inputs c.index-ins-0.is

pub keep_band-requires : goal.keep_band-requires
keep_band-requires c = flow-taken c.args.ins.now _ c.requires.inputs c.index-ins-0-2.is

pub returns : goal.returns
returns c =
    let splitter = c.args.self.now in
    let ins = c.args.ins.now in
    let n = inside-length ins input_limits c.requires.inputs in
    let in_flow : Interval = slice_index_or ins 0 (point (pos 0)) in
    let in_conc : Interval = slice_index_or ins 1 (point (pos 0)) in
    let in_temp : Interval = slice_index_or ins 2 (point (pos 0)) in
    let g : c.point-share.result ≡ point splitter.share = c.point-share.ensures ∙
    ap point (to_z-of_z w64 splitter.share (search rules)) in
    let first : c.share_band.result ≡ hull2 (share Floor) in_flow (point splitter.share) =
    hulled2 (hull2 (share Floor)) c.index-ins-0.result c.point-share.result _ in_flow
    (point splitter.share) c.share_band.ensures.hull (read ins 0 _ (omega arith) c.index-ins-0.is) g in
    let second : c.keep_band.result ≡ hull2 (keep Floor) in_flow (point splitter.share) =
    hulled2 (hull2 (keep Floor)) c.index-ins-0-2.result c.point-share.result _ in_flow
    (point splitter.share) c.keep_band.ensures.hull (read ins 0 _ (omega arith) c.index-ins-0-2.is) g in
    let conc : c.clamp_band-conc.result ≡ hull1 (clamp splitter.limits.conc) in_conc =
    c.clamp_band-conc.ensures.hull ∙ ap (hull1 (clamp splitter.limits.conc))
    (read ins 1 _ (omega arith) c.index-ins-1.is) in
    let temp : c.clamp_band-temp.result ≡ hull1 (clamp splitter.limits.temp) in_temp =
    c.clamp_band-temp.ensures.hull ∙ ap (hull1 (clamp splitter.limits.temp))
    (read ins 2 _ (omega arith) c.index-ins-2.is) in
    c.copy_from_slice.ensures.after ∙
    same_cons _ _ _ _ (c.clamp_band-first.ensures.hull ∙ ap (hull1 (clamp splitter.limits.flow)) first)
    (same_cons _ _ _ _ conc (same_cons _ _ _ _ temp
    (same_cons _ _ _ _ (c.clamp_band-second.ensures.hull ∙ ap (hull1 (clamp splitter.limits.flow)) second)
    (same_cons _ _ _ _ conc (same_cons _ _ _ _ temp refl)))))

use Rattle.std.proofs.Common.{◌≡◌, ◌∙◌, ◌≤◌, ◌<◌, ℕ, [], List, length, get_or, sym, ap, subst, arith}
use Rattle.std.specs.Prelude.{slice_index_or}
use Rattle.std.proofs.lemmas.List.{get_or_default}
use Rattle.quant.specs.Interval.{Interval}
use Rattle.relaxation.specs.Tube.{Tube, at}
use Rattle.relax_core.specs.Settled.{WindowOf}
use Rattle.demo.specs.Summary.{sum_below, sum_of_bands}
use Rattle.demo.specs.Adding.{IsSmallRow}
use Rattle.demo.proofs.Bounds.{far-inside, rows-within, row-within}
use Rattle.demo.proofs.window_sums.tick_sums.Goals as goal

pub plus-sums-requires-clause-these : goal.plus-sums-requires-clause-these
plus-sums-requires-clause-these c =
    let window = c.args.window.now in
    let tick = c.args.tick in
    let rows : ℕ → List Interval = λ s. at (slice_index_or window.tubes s []) tick in
    let streams : c.loop-s.s ≤ length window.tubes =
    omega (arith, c.loop-s.auto.s-end, c.len-s-end.ensures, ap (λ (w : WindowOf). length w.tubes) c.window.view_is) in
    far-inside c.loop-s.sums (λ f. sum_below c.loop-s.s (λ s. sum_of_bands f (rows s))) 2412000000000000 (omega arith)
    c.loop-s.invariant
    (λ f measure. rows-within f measure rows c.loop-s.s
    (λ s l. c.requires.window.rows tick s c.requires.tick (omega (arith, l, streams))) (omega (arith, streams, c.requires.window.streams)))

pub plus-sums-requires-clause-others : goal.plus-sums-requires-clause-others
plus-sums-requires-clause-others c =
    let window = c.args.window.now in
    let s = c.loop-s.s in
    let tubes : c.window.inside.tubes.items ≡ window.tubes = ap (λ (w : WindowOf). w.tubes) c.window.view_is in
    let there : s < length window.tubes = omega (arith, c.loop-s-test.true, c.len-s-end.ensures, ap length tubes) in
    let tube : c.index.result.now ≡ slice_index_or window.tubes s [] =
    c.index.ensures ∙ (ap (λ (list : List Tube). get_or list s c.index.result.now) tubes
    ∙ get_or_default window.tubes s c.index.result.now [] there) in
    let small : IsSmallRow c.row.result.now = subst IsSmallRow (sym (c.row.ensures ∙ ap (λ (x : Tube). at x c.args.tick) tube))
    (c.requires.window.rows c.args.tick s c.requires.tick there) in
    far-inside c.row_sums.result (λ f. sum_of_bands f c.row.result.now) 6000000000000 (omega arith) c.row_sums.ensures
    (λ f measure. row-within f measure c.row.result.now small)

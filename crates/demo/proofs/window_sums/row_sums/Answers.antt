use Rattle.std.proofs.Common.{◌∙◌, ◌+ℤ◌, take, sym, ap, arith}
use Rattle.demo.specs.Summary.{sum_of_bands}
use Rattle.demo.proofs.Totals.{added-up, bands-more}
use Rattle.demo.proofs.Bounds.{far-inside, part-within}
use Rattle.demo.proofs.window_sums.row_sums.Goals as goal

pub plus-sums-requires-clause-these : goal.plus-sums-requires-clause-these
plus-sums-requires-clause-these c =
    let row = c.args.row.now in
    let i = c.loop-band.band-index in
    far-inside c.loop-band.sums (λ f. sum_of_bands f (take i row)) 6000000000000 (omega arith) c.loop-band.invariant
    (λ f measure. part-within f measure row i c.requires)

pub loop-band-preserved : goal.loop-band-preserved
loop-band-preserved c =
    let row = c.args.row.now in
    let i = c.loop-band.band-index in
    let band = c.band-item.result in
    added-up c.loop-band.sums c.of.result c.plus-sums.result (λ f. sum_of_bands f (take i row)) (λ f. f band) _
    c.loop-band.invariant (record { width = c.of.ensures.width; ends = c.of.ensures.ends }) c.plus-sums.ensures.width
    c.plus-sums.ensures.ends
    (λ f. bands-more f row i band c.loop-band-test.true ∙ ap (λ z. sum_of_bands f (take i row) +ℤ f z) (sym c.band-item.is))

use Rattle.std.proofs.Common.{ℕ, ◌<◌, [], List, length, ap, arith}
use Rattle.std.specs.Prelude.{slice_index_or}
use Rattle.quant.specs.Interval.{Interval}
use Rattle.relaxation.specs.Tube.{at}
use Rattle.relax_core.specs.Settled.{WindowOf}
use Rattle.demo.specs.Summary.{sum_below}
use Rattle.demo.specs.Adding.{sum_at}
use Rattle.demo.proofs.Bounds.{far-inside, rows-within, ticks-within}
use Rattle.demo.proofs.window_sums.window_sums.Goals as goal

pub plus-sums-requires-clause-these : goal.plus-sums-requires-clause-these
plus-sums-requires-clause-these c =
    let window = c.args.window.now in
    let ticks : c.loop-tick.tick < window.ticks =
    omega (arith, c.loop-tick-test.true, ap (λ (w : WindowOf). w.ticks) c.window.view_is) in
    let rows : ℕ → ℕ → List Interval = λ t s. at (slice_index_or window.tubes s []) t in
    far-inside c.loop-tick.sums (λ f. sum_below c.loop-tick.tick (λ t. sum_at window t f)) 115776000000000000 (omega arith)
    c.loop-tick.invariant
    (λ f measure. ticks-within f measure rows c.loop-tick.tick (length window.tubes)
    (λ t s m l. c.requires.rows t s (omega (arith, m, ticks)) l) (omega (arith, ticks, c.requires.ticks)) c.requires.streams)

pub plus-sums-requires-clause-others : goal.plus-sums-requires-clause-others
plus-sums-requires-clause-others c =
    let window = c.args.window.now in
    let tick = c.loop-tick.tick in
    let there : tick < window.ticks =
    omega (arith, c.loop-tick-test.true, ap (λ (w : WindowOf). w.ticks) c.window.view_is) in
    far-inside c.tick_sums.result (sum_at window tick) 2412000000000000 (omega arith) c.tick_sums.ensures
    (λ f measure. rows-within f measure (λ s. at (slice_index_or window.tubes s []) tick) (length window.tubes)
    (λ s l. c.requires.rows tick s there l) c.requires.streams)

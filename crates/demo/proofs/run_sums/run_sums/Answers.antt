use Rattle.std.proofs.Common.{◌∙◌, None, subst}
use Rattle.feeds.specs.Standing.{IsReaderFor}
use Rattle.demo.specs.Following.{IsWindowCount}
use Rattle.demo.proofs.Bounds.{window-inside}
use Rattle.demo.proofs.Passing.{summing-none, summed-more, left-over, next-small, sums-inside}
use Rattle.demo.proofs.run_sums.run_sums.Goals as goal

pub loop-init : goal.loop-init
loop-init g c =
    let session = c.args.session.now in
    summing-none session c.in_ok-feeds.feeds c.requires.opening c.plant.ensures.session c.in_ok-feeds.ensures.plain
    (subst (λ parts. IsReaderFor parts c.in_ok-feeds.feeds) c.plant.ensures.plant c.in_ok-feeds.ensures.reader)
    (c.sessions_follow_the_run.ensures.opening session.parts None)

pub window_sums-requires : goal.window_sums-requires
window_sums-requires g c =
    next-small _ c.loop.counter c.loop.session c.loop.feeds c.loop.sums c.loop.invariant c.in_ok-window.window c.requires.small
    c.in_ok-window.ensures.run

pub plus-sums-requires-clause-these : goal.plus-sums-requires-clause-these
plus-sums-requires-clause-these g c =
    sums-inside _ c.loop.counter c.loop.session c.loop.feeds c.loop.sums c.loop.invariant c.requires.small

pub plus-sums-requires-clause-others : goal.plus-sums-requires-clause-others
plus-sums-requires-clause-others g c =
    window-inside c.in_ok-window.window c.window_sums.result
    (next-small _ c.loop.counter c.loop.session c.loop.feeds c.loop.sums c.loop.invariant c.in_ok-window.window c.requires.small
    c.in_ok-window.ensures.run) c.window_sums.ensures

pub loop-preserved : goal.loop-preserved
loop-preserved g c =
    let session = c.loop.session in
    let parts = c.args.session.now.parts in
    let count : IsWindowCount parts c.window_count-count.result = subst (λ parts. IsWindowCount parts c.window_count-count.result) (c.parts.ensures.parts ∙ c.plant-2.ensures.plant)
    c.window_count-count.ensures in
    summed-more parts c.loop.counter session c.loop.feeds c.loop.sums c.loop.invariant c.next_window.new.session
    c.next_window.new.feeds c.in_ok-window.window c.window_sums.result c.plus-sums.result
    (left-over parts c.loop.counter session c.loop.feeds c.loop.sums c.loop.invariant c.window_count-count.result count c.loop-test.true)
    c.in_ok-window.ensures.moved c.in_ok-window.ensures.run c.window_sums.ensures c.plus-sums.ensures.width c.plus-sums.ensures.ends

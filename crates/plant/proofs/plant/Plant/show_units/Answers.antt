-- All ranks have been shown.
use Rattle.std.proofs.Common.{ap, subst, ◌∙◌, arith}
use Rattle.plant.specs.Steps.{greatest, HaveShown}
use Rattle.plant.proofs.Rounds.{are-shown, have_shown-none, kept-none, kept-more}
use Rattle.plant.proofs.plant.Plant.show_units.Goals as goal

pub loop-rank-init : goal.loop-rank-init
loop-rank-init c = (
  have_shown-none c.args.self.now c.args.states.now c.args.streams.now c.requires,
  kept-none c.args.self.now c.args.streams.now,
)

pub loop-rank-preserved : goal.loop-rank-preserved
loop-rank-preserved c = (
  c.show_rank.ensures.shown,
  kept-more c.args.self.now c.args.streams.now c.loop-rank.streams c.show_rank.new.streams c.loop-rank.invariant.1
      c.show_rank.ensures.kept,
)

pub returns : goal.returns
returns c =
    let parts = c.args.self.now in
    let most = c.greatest_rank-greatest.ensures ∙ ap greatest c.ranks.ensures.ranks in
    are-shown parts c.args.states.now c.args.streams.now c.loop-rank.streams c.sound.ensures c.ranked.ensures.ranked
    c.loop-rank.invariant.1
    (subst (λ r. HaveShown parts r 0 c.args.states.now c.loop-rank.streams)
    (omega (arith, c.loop-rank-test.false, c.loop-rank.auto.rank-end, most)) c.loop-rank.invariant.0)

use Rattle.std.proofs.Common.{◌≡◌, sum, refl, sym, ap, ◌∙◌, subst, below_more, arith}
use Rattle.std.proofs.lemmas.Bool.{false≢true}
use Rattle.topology.specs.Rising.{IsRankAt}
use Rattle.topology.proofs.Ascents.{all_right}
use Rattle.topology.proofs.rise.raise_all.Goals as goal
use Rattle.topology.proofs.rise.raise_all.Goals.{in-Kept, in-Raised}

pub loop-unit-preserved : goal.loop-unit-preserved
loop-unit-preserved c =
    elim c.match-raise.branch [
      | in-Kept w ↦
          let kept = w.in-Kept.ensures.kept refl in
          let same : sum c.raise.new.ranks ≡ sum c.loop-unit.ranks = ap sum kept in
          record {
            rising = c.raise.ensures.rising;
            right = λ e. below_more (IsRankAt c.args.links.now c.raise.new.ranks) c.loop-unit.unit
                (λ u h. subst (λ ranks. IsRankAt c.args.links.now ranks u) (sym kept)
                (c.loop-unit.invariant.right (sym w.raised-is ∙ e) u h))
                (w.in-Kept.ensures.right refl);
            grown = omega (arith, c.loop-unit.invariant.grown);
            greater = λ e. omega (arith, c.loop-unit.invariant.greater (sym w.raised-is ∙ e));
          }
      | in-Raised w ↦ record {
        rising = c.raise.ensures.rising;
        right = λ e. absurd (false≢true (sym e ∙ w.raised-is));
        grown = omega (arith, c.loop-unit.invariant.grown, w.in-Raised.ensures.raised refl);
        greater = λ _. omega (arith, c.loop-unit.invariant.grown, w.in-Raised.ensures.raised refl);
      }
    ]

pub returns-else-raised-clause-right : goal.returns-else-raised-clause-right
returns-else-raised-clause-right c =
    let n = c.units-unit-end.ensures in
    λ _. all_right c.args.links.now c.loop-unit.ranks c.loop-unit.invariant.rising.counted
    (λ u h. c.loop-unit.invariant.right c.if-raised.false u (omega arith))

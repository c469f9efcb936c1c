-- A window has at most 64 ticks, and a plant ranks of at most 16.
use Rattle.std.proofs.Common.{◌∙◌, ◌+◌, ◌*◌, ℕ, ap, arith}
use Rattle.renewal.specs.Plan.{PlanOf}
use Rattle.relax_core.proofs.Settled.{greatest-is, top-few, places-few}
use Rattle.relax_core.proofs.board.Board.places.Goals as goal

pub overflow_add-result : goal.overflow_add-result
overflow_add-result c =
    let plan = c.args.self.now.plan in
    omega (
      arith,
      greatest-is plan _ _ _ _ c.plan-plan.ensures.plan c.plant.ensures.plant c.ranks.ensures.ranks
          c.greatest_rank.ensures,
      top-few plan c.plan-plan.ensures.board.plan,
    )

pub overflow_mul-result : goal.overflow_mul-result
overflow_mul-result c =
    let plan = c.args.self.now.plan in
    let top = greatest-is plan _ _ _ _ c.plan-plan.ensures.plan c.plant.ensures.plant c.ranks.ensures.ranks
    c.greatest_rank.ensures in
    let ticks = c.ticks.ensures ∙ ap (λ (p : PlanOf). p.ticks) c.plan-plan.ensures.plan in
    let few = places-few c.ticks.result c.greatest_rank.result
    (omega (arith, ticks, c.plan-plan.ensures.board.plan.few))
    (omega (arith, top, top-few plan c.plan-plan.ensures.board.plan)) in
    omega (arith, few)

pub returns-clause-places : goal.returns-clause-places
returns-clause-places c =
    let plan = c.args.self.now.plan in
    let top = greatest-is plan _ _ _ _ c.plan-plan.ensures.plan c.plant.ensures.plant c.ranks.ensures.ranks
    c.greatest_rank.ensures in
    let ticks = c.ticks.ensures ∙ ap (λ (p : PlanOf). p.ticks) c.plan-plan.ensures.plan in
    ap (λ (n : ℕ). n * (c.greatest_rank.result + 1)) ticks ∙ ap (λ (n : ℕ). plan.ticks * (n + 1)) top

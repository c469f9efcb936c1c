use Rattle.std.proofs.Common.{arith}
use Rattle.plant_checks.proofs.Rates.{rises_later}
use Rattle.plant_checks.proofs.rate_checks.rises_well.Goals as goal

pub returns-else-index-eq0 : goal.returns-else-index-eq0
returns-else-index-eq0 c =
    rises_later c.args.points.now c.args.index c.args.point c.point_at.result c.rises.result (λ z. let t =
    c.if-index-eq0.false in grind arith)
    c.point_at.ensures c.rises.ensures

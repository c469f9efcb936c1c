use Rattle.plant_checks.proofs.Products.{products_are_more}
use Rattle.plant_checks.proofs.column_checks.may_run_dry.Goals as goal

pub returns : goal.returns
returns c =
    products_are_more c.product.result c.product-2.result c.product-3.result c.args.liquid c.args.vapour
    c.args.slope c.args.holdup
    c.product.ensures c.product-2.ensures c.product-3.ensures c.ranges.liquid c.ranges.vapour c.ranges.slope
    c.ranges.holdup

-- The least blend is that of the lower ends, and the greatest that of the upper ones, each at opposite ends of the
-- other two.
use Rattle.std.proofs.Common.{to_z, of_z, rules}
use Rattle.std.specs.Int.{w64}
use Rattle.quant.specs.Rounding.{Floor}
use Rattle.quant.specs.Operation.{blend, contents}
use Rattle.quant.proofs.Bands.{is_read, read-high}
use Rattle.quant.proofs.Corners.{IsBlended, blended, blend-blends}
use Rattle.quant.proofs.blends.blend_band.Goals as goal

made : (c : goal.After-blend-2) → IsBlended (blend Floor) c.args.c c.args.d c.args.m c.args.v
    (record { lo = to_z w64 (of_z w64 c.blend.result); hi = to_z w64 (of_z w64 c.blend-2.result) })
made c =
    let l = c.opposite_ends-least.ensures in
    let g = c.opposite_ends-greatest.ensures in
    blended (blend Floor) (blend-blends Floor) _ _ _ _ _ _ _ _ _ _
    (is_read _ _ c.c.view_is c.c.invariant (search rules) (search rules))
    (is_read _ _ c.d.view_is c.d.invariant (search rules) (search rules))
    (record { first = l.first; second = l.second; inside = l.inside })
    (record { first = g.first; second = g.second; inside = g.inside })
    (search rules) (search rules) (search rules) (search rules) (search rules) (search rules) c.blend.ensures.value c.blend-2.ensures.value

pub invariant_of-result : goal.invariant_of-result
invariant_of-result c = (made c).0.ordered

pub returns : goal.returns
returns c = let m = made c in record { hull = m.0.hull; exact = m.0.exact; between = m.1 }

pub blend-requires : goal.blend-requires
blend-requires c = record { old = search rules; added = search rules; volume = search rules }

pub blend-requires-2 : goal.blend-requires-2
blend-requires-2 c = record {
  old = read-high _ _ contents c.c.view_is c.c.invariant (search rules) c.requires.old;
  added = read-high _ _ contents c.d.view_is c.d.invariant (search rules) c.requires.added;
  volume = search rules;
}

-- The least mix is that of the lower ends, and the greatest that of the upper ones, each at opposite ends of the flows.
use Rattle.std.proofs.Common.{to_z, of_z, rules}
use Rattle.std.specs.Int.{w64}
use Rattle.quant.specs.Rounding.{Floor}
use Rattle.quant.specs.Operation.{mix, contents}
use Rattle.quant.proofs.Bands.{is_read, read-high}
use Rattle.quant.proofs.Mixing.{mix-monotone}
use Rattle.quant.proofs.Corners.{IsBlended, blended, blended-exchanged, mix-blends}
use Rattle.quant.proofs.mixes.mix_band.Goals as goal

made : (c : goal.After-mix-2) → IsBlended (mix Floor) c.args.c c.args.d c.args.m c.args.n
    (record { lo = to_z w64 (of_z w64 c.mix.result); hi = to_z w64 (of_z w64 c.mix-2.result) })
made c =
    let l = c.opposite_ends-least.ensures in
    let g = c.opposite_ends-greatest.ensures in
    blended-exchanged (mix Floor) _ _ _ _ _ (mix-monotone Floor)
    (blended (λ c d n m. mix Floor c d m n) (mix-blends Floor) _ _ _ _ _ _ _ _ _ _
    (is_read _ _ c.c.view_is c.c.invariant (search rules) (search rules))
    (is_read _ _ c.d.view_is c.d.invariant (search rules) (search rules))
    (record { first = l.first; second = l.second; inside = l.inside })
    (record { first = g.first; second = g.second; inside = g.inside })
    (search rules) (search rules) (search rules) (search rules) (search rules) (search rules) c.mix.ensures.value c.mix-2.ensures.value)

pub invariant_of-result : goal.invariant_of-result
invariant_of-result c = (made c).0.ordered

pub returns : goal.returns
returns c = let m = made c in record { hull = m.0.hull; exact = m.0.exact; between = m.1 }

pub mix-requires : goal.mix-requires
mix-requires c = search rules

pub mix-requires-2 : goal.mix-requires-2
mix-requires-2 c = record {
  first = read-high _ _ contents c.c.view_is c.c.invariant (search rules) c.requires.first;
  second = read-high _ _ contents c.d.view_is c.d.invariant (search rules) c.requires.second;
  first_flow = search rules;
  second_flow = search rules;
}

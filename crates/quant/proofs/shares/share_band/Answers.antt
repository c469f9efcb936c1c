-- A share is least at the lower end of its whole, and greatest at the upper one, each at the end of the ppm that its
-- sign picks.
use Rattle.std.proofs.Common.{to_z, of_z, rules, refl}
use Rattle.std.specs.Int.{w64}
use Rattle.quant.specs.Rounding.{Floor}
use Rattle.quant.specs.Operation.{share, contents}
use Rattle.quant.proofs.Bands.{is_read, read-high}
use Rattle.quant.proofs.Corners.{takes, IsShared, shared, share-shares}
use Rattle.quant.proofs.shares.share_band.Goals as goal

made : (c : goal.After-share-2) → IsShared (share Floor) c.args.a c.args.g
    (record { lo = to_z w64 (of_z w64 c.share.result); hi = to_z w64 (of_z w64 c.share-2.result) })
made c =
    let a = is_read _ c.args.a c.a.view_is c.a.invariant (search rules) (search rules) in
    let g = is_read _ c.args.g c.g.view_is c.g.invariant (search rules) (search rules) in
    shared (share Floor) _ _ (share-shares Floor) _ _ _ _ _ _ _ a g.band
    (takes _ _ _ _ _ _ _ _ _ refl a.ends.0 g.ends.0 g.ends.1 c.by_sign.ensures)
    (takes _ _ _ _ _ _ _ _ _ refl a.ends.1 g.ends.1 g.ends.0 c.by_sign-2.ensures)
    (search rules) (search rules) (search rules) (search rules) c.share.ensures.value c.share-2.ensures.value

pub invariant_of-result : goal.invariant_of-result
invariant_of-result c = (made c).0.ordered

pub returns : goal.returns
returns c = let m = made c in record { hull = m.0.hull; exact = m.0.exact; between = m.1 }

pub share-requires-2 : goal.share-requires-2
share-requires-2 c = read-high _ _ contents c.a.view_is c.a.invariant (search rules) c.requires

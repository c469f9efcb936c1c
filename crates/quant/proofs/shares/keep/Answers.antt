use Rattle.std.proofs.Common.{◌≡◌, pos, ◌-ℤ◌, ℤ, to_z, of_z, sym, ◌∙◌, ap, subst, arith}
use Rattle.std.proofs.lemmas.Int.{ints, to_z-of_z}
use Rattle.std.specs.Int.{w64}
use Rattle.quant.specs.Interval.{Holds, join, point}
use Rattle.quant.specs.Rounding.{Floor}
use Rattle.quant.specs.Operation.{share, keep, contents, greatest_content}
use Rattle.quant.proofs.Operations.{keep-is, keep-between, share-around, keep-around}
use Rattle.quant.proofs.shares.keep.Goals as goal

-- the difference is that of the definition
kept : (a g x y s : ℤ) → x ≡ a → y ≡ g → s ≡ share Floor x y → Holds contents a →
    to_z w64 (of_z w64 (to_z w64 (of_z w64 a) -ℤ to_z w64 (of_z w64 s))) ≡ keep Floor a g
kept a g x y s e f h k =
    let i : s ≡ share Floor a g = h ∙ ap (λ (t : ℤ). share Floor t y) e ∙ ap (share Floor a) f in
    omega (
      arith,
      ints,
      keep-is Floor a g,
      share-around Floor a g greatest_content k,
      keep-around Floor a g greatest_content k,
    )

pub returns-clause-value : goal.returns-clause-value
returns-clause-value c =
    kept c.args.a c.args.g (to_z w64 (of_z w64 c.args.a)) (to_z w64 (of_z w64 c.args.g)) c.share.result
    (to_z-of_z w64 c.args.a c.ranges.a) (to_z-of_z w64 c.args.g c.ranges.g) c.share.ensures.value c.requires

pub returns-clause-between : goal.returns-clause-between
returns-clause-between c = subst (λ (z : ℤ). Holds (join (point (pos 0)) (point c.args.a)) z)
    (sym (returns-clause-value c)) (keep-between Floor c.args.a c.args.g)

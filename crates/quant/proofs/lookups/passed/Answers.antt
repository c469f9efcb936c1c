use Rattle.std.proofs.Common.{◌≡◌, ℕ, ◌<◌, ◌≤◌, ◌^◌, ap, ℤ, pos, ◌-ℤ◌, ◌≤ℤ◌, FitsSigned, to_z, of_z, ◌∙◌, rules, arith, unsigned_abs}
use Rattle.std.proofs.lemmas.Int.{ints, clamps, to_z_pos}
use Rattle.std.specs.Int.{w64, int_max, int_min}
use Rattle.quant.specs.Interval.{Holds}
use Rattle.quant.specs.Operation.{part}
use Rattle.quant.specs.Table.{rates}
use Rattle.quant.proofs.Tables.{natural-passed}
use Rattle.quant.proofs.lookups.passed.Goals as goal

-- what the code hands over, without its casts
distance-is : (a b : ℤ) → FitsSigned w64 a → FitsSigned w64 b → a ≤ℤ b →
    pos (unsigned_abs (to_z w64 (of_z w64 b) -ℤ to_z w64 (of_z w64 a))) ≡ b -ℤ a
distance-is a b f g h = omega (arith, ints)

gone-is : (a b t r : ℤ) → FitsSigned w64 a → FitsSigned w64 b → FitsSigned w64 t → a ≤ℤ b →
    r ≡ int_max (to_z w64 (of_z w64 a)) (int_min (to_z w64 (of_z w64 t)) (to_z w64 (of_z w64 b))) →
    pos (unsigned_abs (to_z w64 (of_z w64 r) -ℤ to_z w64 (of_z w64 a))) ≡ part (b -ℤ a) (t -ℤ a)
gone-is a b t r f g h l e = omega (arith, ints, clamps)

-- a rise is small, and so is what is passed of it
small : (a b : ℤ) (rise passed : ℕ) → Holds rates a → Holds rates b → a ≤ℤ b →
    rise ≡ unsigned_abs (to_z w64 (of_z w64 b) -ℤ to_z w64 (of_z w64 a)) → passed ≤ rise → passed < 2 ^ 63
small a b rise passed h k l e m = omega (arith, ints)

pub overflow_cast-result : goal.overflow_cast-result
overflow_cast-result c =
    let n = small c.args.from.1 c.args.to.1 _ c.portion.result c.requires.from c.requires.to c.requires.step.no_less
    c.abs_diff.ensures c.portion.ensures.size in
    omega (arith, ints)

pub returns : goal.returns
returns c =
    let s = c.requires.step in
    let a : FitsSigned w64 c.args.from.0 = search rules in
    let b : FitsSigned w64 c.args.to.0 = search rules in
    let e : FitsSigned w64 c.args.from.1 = search rules in
    let f : FitsSigned w64 c.args.to.1 = search rules in
    let h : c.args.from.0 ≤ℤ c.args.to.0 = omega (arith, ints) in
    let rise : pos c.abs_diff.result ≡ c.args.to.1 -ℤ c.args.from.1 = ap pos c.abs_diff.ensures ∙
    distance-is c.args.from.1 c.args.to.1 e f s.no_less in
    let gone : pos c.abs_diff-gone.result ≡ part (c.args.to.0 -ℤ c.args.from.0) (c.args.t -ℤ c.args.from.0) =
    ap pos c.abs_diff-gone.ensures ∙ gone-is c.args.from.0 c.args.to.0 c.args.t c.clamp.result a b c.ranges.t h
    c.clamp.ensures.value in
    let gap : pos c.abs_diff-2.result ≡ c.args.to.0 -ℤ c.args.from.0 = ap pos c.abs_diff-2.ensures ∙
    distance-is c.args.from.0 c.args.to.0 a b h in
    to_z_pos w64 c.portion.result (small c.args.from.1 c.args.to.1 _ c.portion.result c.requires.from c.requires.to
    s.no_less c.abs_diff.ensures c.portion.ensures.size)
    ∙ ap pos c.portion.ensures.value
    ∙ natural-passed c.args.from c.args.to c.args.t c.abs_diff.result c.abs_diff-gone.result c.abs_diff-2.result s rise
    gone gap

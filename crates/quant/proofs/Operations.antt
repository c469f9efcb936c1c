-- Each operation is monotone in each argument.
use Rattle.std.proofs.Common.{◌≡◌, ℕ, ◌*◌, ℤ, pos, ◌+ℤ◌, ◌-ℤ◌, ◌*ℤ◌, neg_ℤ, ◌≤ℤ◌, arith, refl, sym, subst, ap, ◌∙◌}
use Rattle.std.proofs.lemmas.Int.{ints, clamps, by_lt_z}
use Rattle.std.proofs.Math.IntN.{*ℤ_comm}
use Rattle.std.specs.Int.{int_min, int_max}
use Rattle.quant.specs.Interval.{Interval, Holds, join, point, around}
use Rattle.quant.specs.Hull.{IsMonotone1, IsMonotone2, IsMonotone4}
use Rattle.quant.specs.Rounding.{Rounding, quotient, divisor}
use Rattle.quant.specs.Operation.{million, part, share, keep, gain, blend, clamp, amounts, contents, gains, greatest_amount, greatest_content, steepest}
use Rattle.quant.proofs.Casts.{product-around}
use Rattle.quant.proofs.Division.{add-times, times-times, sub-times, times-le, le-times, ge-times, one-le_divisor, divisor-same, quotient-rises, quotient-shifts, quotient-between, quotient-between_whole, quotient-le_whole}

-- what rises, and what falls, is monotone
pub rises : (f : ℤ → ℤ) → ((a b : ℤ) → a ≤ℤ b → f a ≤ℤ f b) → IsMonotone1 f
rises f h a b c p q = let x = h a b p in let y =
    h b c q in record { above = omega (arith, ints, clamps); below = omega (arith, ints, clamps) }

pub falls : (f : ℤ → ℤ) → ((a b : ℤ) → a ≤ℤ b → f b ≤ℤ f a) → IsMonotone1 f
falls f h a b c p q = let x = h a b p in let y =
    h b c q in record { above = omega (arith, ints, clamps); below = omega (arith, ints, clamps) }

-- either of two cases by order
pub by_le_z : {P : Type 0} (a b : ℤ) → (a ≤ℤ b → P) → (b ≤ℤ a → P) → P
by_le_z a b f g = by_lt_z a b (λ l. f (omega (arith, ints))) g

-- it rises where c is not above d, and falls where c is not below d
pub record IsDrawn (c d : ℤ) (f : ℤ → ℤ) : Type 0 where
  pub up : (x y : ℤ) → c ≤ℤ d → x ≤ℤ y → f x ≤ℤ f y
  pub down : (x y : ℤ) → d ≤ℤ c → x ≤ℤ y → f y ≤ℤ f x

-- so it is monotone, and so is its quotient
pub drawn-monotone : (c d : ℤ) (f : ℤ → ℤ) → IsDrawn c d f → IsMonotone1 f
drawn-monotone c d f h = by_le_z c d (λ p. rises f (λ a b l. h.up a b p l)) (λ p. falls f (λ a b l. h.down a b p l))

pub quotient-drawn : (r : Rounding) (c d : ℤ) (f : ℤ → ℤ) (w : ℤ) → IsDrawn c d f →
    IsDrawn c d (λ x. quotient r (f x) w)
quotient-drawn r c d f w h = record {
  up = λ x y p l. quotient-rises r (f x) (f y) w (h.up x y p l);
  down = λ x y p l. quotient-rises r (f y) (f x) w (h.down x y p l);
}

-- and so is what it makes of something that rises
pub drawn-after : (c d : ℤ) (f u g : ℤ → ℤ) → IsDrawn c d f → ((x y : ℤ) → x ≤ℤ y → u x ≤ℤ u y) →
    ((x : ℤ) → g x ≡ f (u x)) →
    IsDrawn c d g
drawn-after c d f u g h m e = record {
  up = λ x y p l. omega (arith, ints, e x, e y, h.up (u x) (u y) p (m x y l));
  down = λ x y p l. omega (arith, ints, e x, e y, h.down (u x) (u y) p (m x y l));
}

-- what rises with its first two arguments, and is monotone in the other two
pub monotone4 : (f : ℤ → ℤ → ℤ → ℤ → ℤ) → ((a b c d m v : ℤ) → a ≤ℤ b → c ≤ℤ d → f a c m v ≤ℤ f b d m v) →
    ((c d v : ℤ) → IsMonotone1 (λ m. f c d m v)) → ((c d m : ℤ) → IsMonotone1 (f c d m)) → IsMonotone4 f
monotone4 f both third fourth = (
  (λ d m v. rises (λ c. f c d m v) (λ a b h. both a b d d m v h (omega (arith, ints)))),
  (λ c. (
    (λ m v. rises (λ d. f c d m v) (λ a b h. both c c a b m v (omega (arith, ints)) h)),
    (λ d. (third c d, fourth c d)),
  )),
)

-- clamp rises
pub clamp-rises : (limits : Interval) (a b : ℤ) → a ≤ℤ b → clamp limits a ≤ℤ clamp limits b
unfolding clamp
clamp-rises limits a b h = omega (arith, ints, clamps)

pub clamp-monotone : (limits : Interval) → IsMonotone1 (clamp limits)
clamp-monotone limits = rises (clamp limits) (clamp-rises limits)

pub sum-monotone : IsMonotone2 ◌+ℤ◌
sum-monotone = (
  (λ b. rises (λ a. a +ℤ b) (λ x y h. omega (arith, ints))),
  (λ a. rises (λ b. a +ℤ b) (λ x y h. omega (arith, ints))),
)

pub difference-monotone : IsMonotone2 ◌-ℤ◌
difference-monotone = (
  (λ b. rises (λ a. a -ℤ b) (λ x y h. omega (arith, ints))),
  (λ a. falls (λ b. a -ℤ b) (λ x y h. omega (arith, ints))),
)

-- a part lies from 0 to the whole, and rises with what it is made from
pub part-above : (w m : ℤ) → pos 0 ≤ℤ part w m
part-above w m = omega (arith, ints, clamps)

pub part-below : (w m : ℤ) → pos 0 ≤ℤ w → part w m ≤ℤ w
part-below w m h = omega (arith, ints, clamps)

pub part-rises : (w m n : ℤ) → m ≤ℤ n → part w m ≤ℤ part w n
part-rises w m n h = omega (arith, ints, clamps)

-- `gain` rises where its ppm are not negative, and else falls
pub gain-up : (r : Rounding) (k a b : ℤ) → pos 0 ≤ℤ k → a ≤ℤ b → gain r k a ≤ℤ gain r k b
unfolding gain
gain-up r k a b p h = quotient-rises r (a *ℤ k) (b *ℤ k) million (times-le a b k p h)

pub gain-down : (r : Rounding) (k a b : ℤ) → k ≤ℤ pos 0 → a ≤ℤ b → gain r k b ≤ℤ gain r k a
unfolding gain
gain-down r k a b p h = quotient-rises r (b *ℤ k) (a *ℤ k) million
    (omega (arith, ints, ge-times a b k p h, *ℤ_comm k a, *ℤ_comm k b))

pub gain-drawn : (r : Rounding) (k : ℤ) → IsDrawn (pos 0) k (gain r k)
gain-drawn r k = record { up = λ a b p h. gain-up r k a b p h; down = λ a b p h. gain-down r k a b p h }

pub gain-monotone : (r : Rounding) (k : ℤ) → IsMonotone1 (gain r k)
gain-monotone r k = drawn-monotone (pos 0) k (gain r k) (gain-drawn r k)

-- what is divided in a blend: w at c, of which n are replaced by d
abbrev pub weighed : ℤ → ℤ → ℤ → ℤ → ℤ
weighed c d w n = c *ℤ (w -ℤ n) +ℤ d *ℤ n

pub weighed-is : (c d w n : ℤ) → weighed c d w n ≡ c *ℤ w +ℤ (d -ℤ c) *ℤ n
weighed-is c d w n = omega (arith, ints, *ℤ_comm c (w -ℤ n), sub-times w n c, sub-times d c n, *ℤ_comm w c, *ℤ_comm n c)

weighed-times : (c d w n u : ℤ) → weighed c d w n *ℤ u ≡ c *ℤ (w *ℤ u) +ℤ (d -ℤ c) *ℤ (n *ℤ u)
weighed-times c d w n u =
    omega (
      arith,
      ints,
      ap (λ (t : ℤ). t *ℤ u) (weighed-is c d w n),
      add-times (c *ℤ w) ((d -ℤ c) *ℤ n) u,
      times-times c w u,
      times-times (d -ℤ c) n u,
    )

-- `blend` rises with what is there and with what is added
pub blend-rises : (r : Rounding) (a b c d m v : ℤ) → a ≤ℤ b → c ≤ℤ d → blend r a c m v ≤ℤ blend r b d m v
unfolding blend
blend-rises r a b c d m v h k =
    let w = divisor v in
    let n = part w m in
    let kept : pos 0 ≤ℤ (w -ℤ n) = omega (arith, ints, part-below w m (omega (arith, ints, one-le_divisor v))) in
    quotient-rises r (weighed a c w n) (weighed b d w n) w
    (omega (arith, ints, times-le a b (w -ℤ n) kept h, times-le c d n (part-above w m) k))

-- it rises with the part where what is added is not less, and else falls
weighed-steps : (c d w m n : ℤ) → ((d -ℤ c) *ℤ m) ≤ℤ ((d -ℤ c) *ℤ n) → weighed c d w m ≤ℤ weighed c d w n
weighed-steps c d w m n h = omega (arith, ints, weighed-is c d w m, weighed-is c d w n)

weighed-drawn : (c d w : ℤ) → IsDrawn c d (weighed c d w)
weighed-drawn c d w = record {
  up = λ m n p h. weighed-steps c d w m n (le-times m n (d -ℤ c) (omega (arith, ints)) h);
  down = λ m n p h. weighed-steps c d w n m (ge-times m n (d -ℤ c) (omega (arith, ints)) h);
}

pub blend-part : (r : Rounding) (c d v : ℤ) → IsDrawn c d (λ m. blend r c d m v)
unfolding blend
blend-part r c d v =
    let w = divisor v in
    drawn-after c d (λ n. quotient r (weighed c d w n) w) (part w) (λ m. blend r c d m v)
    (quotient-drawn r c d (weighed c d w) w (weighed-drawn c d w)) (part-rises w) (λ m. refl)

-- of a greater whole a part is no greater a share
cross-same : (k n w u : ℤ) → k ≡ n → pos 0 ≤ℤ n → w ≤ℤ u → (k *ℤ w) ≤ℤ (n *ℤ u)
cross-same k n w u e p h = omega (arith, ints, ap (λ (t : ℤ). t *ℤ w) e, le-times w u n p h)

cross-whole : (k n w u : ℤ) → n ≡ w → k ≤ℤ u → pos 0 ≤ℤ w → (k *ℤ w) ≤ℤ (n *ℤ u)
cross-whole k n w u e h p = omega (arith, ints, ap (λ (t : ℤ). t *ℤ u) e, times-le k u w p h, *ℤ_comm u w)

part-cross : (w u m : ℤ) → pos 1 ≤ℤ w → w ≤ℤ u → (part u m *ℤ w) ≤ℤ (part w m *ℤ u)
part-cross w u m p h =
    by_le_z m w
    (λ l. cross-same (part u m) (part w m) w u (omega (arith, ints, clamps)) (part-above w m) h)
    (λ l. cross-whole (part u m) (part w m) w u (omega (arith, ints, clamps)) (part-below u m (omega (arith, ints)))
    (omega (arith, ints)))

divisor-rises : (u v : ℤ) → u ≤ℤ v → divisor u ≤ℤ divisor v
divisor-rises u v h = omega (arith, ints, clamps)

-- so of two volumes the blend is no greater where the part that is replaced weighs no more
blend-volume_less : (r : Rounding) (c d m u v : ℤ) →
    ((d -ℤ c) *ℤ (part (divisor v) m *ℤ divisor u)) ≤ℤ ((d -ℤ c) *ℤ (part (divisor u) m *ℤ divisor v)) →
    blend r c d m v ≤ℤ blend r c d m u
unfolding blend
blend-volume_less r c d m u v h =
    let x = divisor u in
    let y = divisor v in
    quotient-le_whole r (weighed c d y (part y m)) (weighed c d x (part x m)) y x (one-le_divisor v) (one-le_divisor u)
    (omega (
      arith,
      ints,
      weighed-times c d y (part y m) x,
      weighed-times c d x (part x m) y,
      ap (λ (t : ℤ). c *ℤ t) (*ℤ_comm x y),
      h,
    ))

-- it falls with the volume where what is added is not less, and else rises
pub blend-volume : (r : Rounding) (c d m : ℤ) → IsDrawn d c (blend r c d m)
blend-volume r c d m = record {
  up = λ u v p h. blend-volume_less r c d m v u (ge-times _ _ (d -ℤ c) (omega (arith, ints))
      (part-cross (divisor u) (divisor v) m (one-le_divisor u) (divisor-rises u v h)));
  down = λ u v p h. blend-volume_less r c d m u v (le-times _ _ (d -ℤ c) (omega (arith, ints))
      (part-cross (divisor u) (divisor v) m (one-le_divisor u) (divisor-rises u v h)));
}

pub blend-monotone : (r : Rounding) → IsMonotone4 (blend r)
blend-monotone r = monotone4 (blend r) (blend-rises r)
    (λ c d v. drawn-monotone c d (λ m. blend r c d m v) (blend-part r c d v))
    (λ c d m. drawn-monotone d c (blend r c d m) (blend-volume r c d m))

weighed-same : (a w n : ℤ) → weighed a a w n ≡ a *ℤ w
weighed-same a w n = omega (arith, ints, *ℤ_comm a (w -ℤ n), sub-times w n a, *ℤ_comm w a, *ℤ_comm n a)

-- what is divided is no less than the whole at any number that is not above both, and no more at one that is not below
weighed-over : (a c d w n : ℤ) → pos 0 ≤ℤ n → n ≤ℤ w → a ≤ℤ c → a ≤ℤ d → (a *ℤ w) ≤ℤ weighed c d w n
weighed-over a c d w n p q h k =
    omega (
      arith,
      ints,
      weighed-same a w n,
      times-le a c (w -ℤ n) (omega (arith, ints)) h,
      times-le a d n p k,
    )

weighed-under : (b c d w n : ℤ) → pos 0 ≤ℤ n → n ≤ℤ w → c ≤ℤ b → d ≤ℤ b → weighed c d w n ≤ℤ (b *ℤ w)
weighed-under b c d w n p q h k =
    omega (arith, ints, weighed-same b w n, times-le c b (w -ℤ n) (omega (arith, ints)) h, times-le d b n p k)

-- so a blend lies between what is there and what is added
pub blend-between : (r : Rounding) (c d m v : ℤ) → Holds (join (point c) (point d)) (blend r c d m v)
unfolding blend
blend-between r c d m v =
    let w = divisor v in
    let n = part w m in
    let low = part-above w m in
    let high = part-below w m (omega (arith, ints, one-le_divisor v)) in
    let both = quotient-between_whole r (int_min c d) (int_max c d) (weighed c d w n) w (one-le_divisor v)
    (weighed-over (int_min c d) c d w n low high (omega (arith, ints, clamps)) (omega (arith, ints, clamps)))
    (weighed-under (int_max c d) c d w n low high (omega (arith, ints, clamps)) (omega (arith, ints, clamps))) in
    record { above = both.0; below = both.1 }

-- a share is a blend of 0 with its whole: so it rises with the whole, with the ppm where the whole is not negative, and
-- lies from 0 to the whole
share-is_blend : (r : Rounding) (a g : ℤ) → share r a g ≡ blend r (pos 0) a g million
unfolding share blend
share-is_blend r a g =
    let n = part million g in
    let same : a *ℤ n ≡ weighed (pos 0) a million n = omega (arith, ints) in
    ap (λ (t : ℤ). quotient r t million) same

pub share-rises : (r : Rounding) (a b g : ℤ) → a ≤ℤ b → share r a g ≤ℤ share r b g
share-rises r a b g h =
    omega (
      arith,
      ints,
      share-is_blend r a g,
      share-is_blend r b g,
      blend-rises r (pos 0) (pos 0) a b g million (omega (arith, ints)) h,
    )

pub share-drawn : (r : Rounding) (a : ℤ) → IsDrawn (pos 0) a (share r a)
share-drawn r a = drawn-after (pos 0) a (λ g. blend r (pos 0) a g million) (λ g. g) (share r a)
    (blend-part r (pos 0) a million) (λ x y h. h) (share-is_blend r a)

pub share-monotone : (r : Rounding) → IsMonotone2 (share r)
share-monotone r = (
  (λ g. rises (λ a. share r a g) (λ a b h. share-rises r a b g h)),
  (λ a. drawn-monotone (pos 0) a (share r a) (share-drawn r a)),
)

pub share-between : (r : Rounding) (a g : ℤ) → Holds (join (point (pos 0)) (point a)) (share r a g)
share-between r a g = subst (Holds (join (point (pos 0)) (point a))) (sym (share-is_blend r a g))
    (blend-between r (pos 0) a g million)

-- a share rises by at most as much as its whole
share-gains : (r : Rounding) (a b g : ℤ) → a ≤ℤ b → share r b g ≤ℤ (share r a g +ℤ (b -ℤ a))
unfolding share
share-gains r a b g h =
    let n = part million g in
    let gain : ((b -ℤ a) *ℤ n) ≤ℤ ((b -ℤ a) *ℤ divisor million) =
    le-times n million (b -ℤ a) (omega (arith, ints)) (part-below million g (omega (arith, ints))) in
    let more : (b *ℤ n) ≤ℤ (a *ℤ n +ℤ (b -ℤ a) *ℤ divisor million) = omega (arith, ints, gain, sub-times b a n) in
    omega (
      arith,
      ints,
      quotient-rises r (b *ℤ n) (a *ℤ n +ℤ (b -ℤ a) *ℤ divisor million) million more,
      quotient-shifts r (a *ℤ n) (b -ℤ a) million,
    )

-- `keep` rises with the whole, and falls with the ppm where the whole is not negative
pub keep-rises : (r : Rounding) (a b g : ℤ) → a ≤ℤ b → keep r a g ≤ℤ keep r b g
unfolding keep
keep-rises r a b g h = omega (arith, ints, share-gains r a b g h)

pub keep-drawn : (r : Rounding) (a : ℤ) → IsDrawn a (pos 0) (keep r a)
unfolding keep
keep-drawn r a = record {
  up = λ g h p q. omega (arith, ints, (share-drawn r a).down g h p q);
  down = λ g h p q. omega (arith, ints, (share-drawn r a).up g h p q);
}

pub keep-monotone : (r : Rounding) → IsMonotone2 (keep r)
keep-monotone r = (
  (λ g. rises (λ a. keep r a g) (λ a b h. keep-rises r a b g h)),
  (λ a. drawn-monotone a (pos 0) (keep r a) (keep-drawn r a)),
)

-- what keep leaves lies from 0 to the number too
pub keep-between : (r : Rounding) (a g : ℤ) → Holds (join (point (pos 0)) (point a)) (keep r a g)
unfolding keep
keep-between r a g =
    let h = share-between r a g in
    record { above = omega (arith, ints, clamps); below = omega (arith, ints, clamps) }

-- so each fits where the numbers do
between-around : (a b z : ℤ) (n : ℕ) → Holds (around n) a → Holds (around n) b → Holds (join (point a) (point b)) z →
    Holds (around n) z
between-around a b z n h k l = record { above = omega (arith, ints, clamps); below = omega (arith, ints, clamps) }

zero-around : (n : ℕ) → Holds (around n) (pos 0)
zero-around n = record { above = omega (arith, ints); below = omega (arith, ints) }

pub share-around : (r : Rounding) (a g : ℤ) (n : ℕ) → Holds (around n) a → Holds (around n) (share r a g)
share-around r a g n h = between-around (pos 0) a (share r a g) n (zero-around n) h (share-between r a g)

-- a gain of a number up to m in size by ppm up to p
pub gain-within : (r : Rounding) (k a : ℤ) (m p n : ℕ) → m * p ≡ n * 1000000 → Holds (around m) a → Holds (around p) k →
    Holds (around n) (gain r k a)
unfolding gain
gain-within r k a m p n e h i =
    let size = product-around a k m p h i in
    let both = quotient-between r (neg_ℤ (pos n)) (pos n) (a *ℤ k) million (omega (arith, ints, clamps))
    (omega (arith, ints, clamps)) in
    record { above = both.0; below = both.1 }

pub gain-around : (r : Rounding) (k a : ℤ) → Holds amounts a → Holds gains k → Holds contents (gain r k a)
gain-around r k a h p = gain-within r k a greatest_amount steepest greatest_content refl h p

pub keep-around : (r : Rounding) (a g : ℤ) (n : ℕ) → Holds (around n) a → Holds (around n) (keep r a g)
keep-around r a g n h = between-around (pos 0) a (keep r a g) n (zero-around n) h (keep-between r a g)

-- the definitions, opened
same-blend : (r : Rounding) (c d m w v n : ℤ) → w ≡ v → n ≡ part v m →
    quotient r (weighed c d w (part w m)) w ≡ quotient r (weighed c d v n) v
same-blend r c d m w v n e f = ap (λ (t : ℤ). quotient r (weighed c d t (part t m)) t) e ∙
    ap (λ (t : ℤ). quotient r (weighed c d v t) v) (sym f)

pub share-is : (r : Rounding) (a g : ℤ) → share r a g ≡ quotient r (a *ℤ part million g) million
unfolding share
share-is r a g = refl

pub gain-is : (r : Rounding) (k a : ℤ) → gain r k a ≡ quotient r (a *ℤ k) million
unfolding gain
gain-is r k a = refl

pub keep-is : (r : Rounding) (a g : ℤ) → keep r a g ≡ a -ℤ share r a g
unfolding keep
keep-is r a g = refl

pub blend-is : (r : Rounding) (c d m v n : ℤ) → pos 1 ≤ℤ v → n ≡ part v m →
    blend r c d m v ≡ quotient r (weighed c d v n) v
unfolding blend
blend-is r c d m v n h e = same-blend r c d m (divisor v) v n (divisor-same v h) e

-- A stage's content is a linear form in each argument, so it is monotone in each.
use Rattle.std.proofs.Common.{◌≡◌, ℕ, ℤ, pos, ◌+ℤ◌, ◌-ℤ◌, ◌*ℤ◌, neg_ℤ, ◌≤ℤ◌, arith, refl, sym, ap, ◌∙◌}
use Rattle.std.proofs.lemmas.Int.{ints}
use Rattle.std.proofs.Math.IntN.{*ℤ_comm}
use Rattle.quant.specs.Interval.{Holds, around, wide, widest}
use Rattle.quant.specs.Hull.{IsMonotone1, IsMonotone5}
use Rattle.quant.specs.Rounding.{Rounding, quotient}
use Rattle.quant.specs.Operation.{million, kept, tray, stage_flows, holdups, slopes, weights, IsDrainable, contents, greatest_content, stage_contents, greatest_stage_content}
use Rattle.quant.proofs.Division.{add-times, sub-times, times-times, times-le, le-times, ge-times, quotient-rises, quotient-between_whole}
use Rattle.quant.proofs.Operations.{IsDrawn, drawn-monotone, quotient-drawn}

-- f grows by k with each step of its argument
pub record IsLinear (f : ℤ → ℤ) (k : ℤ) : Type 0 where
  pub grows : (z d : ℤ) → f (z +ℤ d) ≡ f z +ℤ k *ℤ d

-- products turned round
turned : (k d c : ℤ) → (k *ℤ d) *ℤ c ≡ (k *ℤ c) *ℤ d
turned k d c = times-times k d c ∙ ap (λ t. k *ℤ t) (*ℤ_comm d c) ∙ sym (times-times k c d)

left-sum : (c a b : ℤ) → c *ℤ (a +ℤ b) ≡ c *ℤ a +ℤ c *ℤ b
left-sum c a b = *ℤ_comm c (a +ℤ b) ∙ add-times a b c ∙ ap (λ t. t +ℤ b *ℤ c) (*ℤ_comm a c) ∙
    ap (λ t. c *ℤ a +ℤ t) (*ℤ_comm b c)

left-difference : (c a b : ℤ) → c *ℤ (a -ℤ b) ≡ c *ℤ a -ℤ c *ℤ b
left-difference c a b = *ℤ_comm c (a -ℤ b) ∙ sub-times a b c ∙ ap (λ t. t -ℤ b *ℤ c) (*ℤ_comm a c) ∙
    ap (λ t. c *ℤ a -ℤ t) (*ℤ_comm b c)

-- it rises where k is not negative, and falls where k is not positive
step-is : (f : ℤ → ℤ) (k a b : ℤ) → IsLinear f k → f b ≡ f a +ℤ k *ℤ (b -ℤ a)
step-is f k a b h = ap f (omega (arith, ints)) ∙ h.grows a (b -ℤ a)

pub linear-up : (f : ℤ → ℤ) (k a b : ℤ) → IsLinear f k → pos 0 ≤ℤ k → a ≤ℤ b → f a ≤ℤ f b
linear-up f k a b h p l = omega (arith, ints, step-is f k a b h, le-times (pos 0) (b -ℤ a) k p (omega (arith, ints)))

pub linear-down : (f : ℤ → ℤ) (k a b : ℤ) → IsLinear f k → k ≤ℤ pos 0 → a ≤ℤ b → f b ≤ℤ f a
linear-down f k a b h p l = omega (arith, ints, step-is f k a b h, ge-times (pos 0) (b -ℤ a) k p (omega (arith, ints)))

-- so it is drawn by the difference that k is
pub linear-drawn : (c d : ℤ) (f : ℤ → ℤ) (k : ℤ) → IsLinear f k → k ≡ d -ℤ c → IsDrawn c d f
linear-drawn c d f k h e = record {
  up = λ x y p l. linear-up f k x y h (omega (arith, ints)) l;
  down = λ x y p l. linear-down f k x y h (omega (arith, ints)) l;
}

pub linear-monotone : (r : Rounding) (f : ℤ → ℤ) (k w : ℤ) → IsLinear f k → IsMonotone1 (λ z. quotient r (f z) w)
linear-monotone r f k w h =
    drawn-monotone (pos 0) k (λ z. quotient r (f z) w)
    (quotient-drawn r (pos 0) k f w (linear-drawn (pos 0) k f k h (omega (arith, ints))))

-- what is divided
abbrev pub held : ℤ → ℤ → ℤ → ℤ → ℤ → ℤ → ℤ → ℤ
held holdup slope x xa yb l v = (x *ℤ kept holdup slope l v +ℤ (xa *ℤ l) *ℤ million) +ℤ (yb *ℤ v) *ℤ million

-- how it grows with each content
linear-own : (k p q : ℤ) → IsLinear (λ x. (x *ℤ k +ℤ p) +ℤ q) k
linear-own k p q = record { grows = λ z d. omega (arith, ints, add-times z d k, *ℤ_comm d k) }

scaled : (a z d m : ℤ) → ((z +ℤ d) *ℤ a) *ℤ m ≡ (z *ℤ a) *ℤ m +ℤ (a *ℤ m) *ℤ d
scaled a z d m =
    ap (λ t. t *ℤ m) (add-times z d a) ∙ add-times (z *ℤ a) (d *ℤ a) m
    ∙ ap (λ t. (z *ℤ a) *ℤ m +ℤ t *ℤ m) (*ℤ_comm d a) ∙ ap (λ t. (z *ℤ a) *ℤ m +ℤ t) (turned a d m)

linear-above : (p q l m : ℤ) → IsLinear (λ x. (p +ℤ (x *ℤ l) *ℤ m) +ℤ q) (l *ℤ m)
linear-above p q l m = record { grows = λ z d. rw (scaled l z d m) (omega (arith, ints)) }

linear-below : (p v m : ℤ) → IsLinear (λ x. p +ℤ (x *ℤ v) *ℤ m) (v *ℤ m)
linear-below p v m = record { grows = λ z d. rw (scaled v z d m) (omega (arith, ints)) }

-- and with each flow
moves : (x u w z d : ℤ) → x *ℤ ((u -ℤ (z +ℤ d)) -ℤ w) ≡ x *ℤ ((u -ℤ z) -ℤ w) -ℤ x *ℤ d
moves x u w z d = ap (λ t. x *ℤ t) (omega (arith, ints)) ∙ left-difference x ((u -ℤ z) -ℤ w) d

moved_in : (y z d m : ℤ) → (y *ℤ (z +ℤ d)) *ℤ m ≡ (y *ℤ z) *ℤ m +ℤ (y *ℤ m) *ℤ d
moved_in y z d m = ap (λ t. t *ℤ m) (left-sum y z d) ∙ add-times (y *ℤ z) (y *ℤ d) m ∙
    ap (λ t. (y *ℤ z) *ℤ m +ℤ t) (turned y d m)

moved_out : (x u w z d m : ℤ) → x *ℤ ((u -ℤ (z +ℤ d) *ℤ m) -ℤ w) ≡ x *ℤ ((u -ℤ z *ℤ m) -ℤ w) -ℤ (x *ℤ m) *ℤ d
moved_out x u w z d m =
    ap (λ t. x *ℤ ((u -ℤ t) -ℤ w)) (add-times z d m) ∙ moves x u w (z *ℤ m) (d *ℤ m)
    ∙ ap (λ t. x *ℤ ((u -ℤ z *ℤ m) -ℤ w) -ℤ t) (sym (times-times x d m) ∙ turned x d m)

linear-liquid : (x y u w q m : ℤ) → IsLinear (λ l. (x *ℤ ((u -ℤ l *ℤ m) -ℤ w) +ℤ (y *ℤ l) *ℤ m) +ℤ q) (y *ℤ m -ℤ x *ℤ m)
linear-liquid x y u w q m =
    record {
      grows = λ z d. rw (moved_out x u w z d m)
          (rw (moved_in y z d m) (omega (arith, ints, sub-times (y *ℤ m) (x *ℤ m) d)));
    }

vapour_out : (x u z d s : ℤ) → x *ℤ (u -ℤ (z +ℤ d) *ℤ s) ≡ x *ℤ (u -ℤ z *ℤ s) -ℤ (x *ℤ s) *ℤ d
vapour_out x u z d s =
    ap (λ t. x *ℤ t) (omega (arith, ints)) ∙ moved_out x u (pos 0) z d s
    ∙ ap (λ t. x *ℤ t -ℤ (x *ℤ s) *ℤ d) (omega (arith, ints))

linear-vapour : (x y u p m s : ℤ) → IsLinear (λ v. (x *ℤ (u -ℤ v *ℤ s) +ℤ p) +ℤ (y *ℤ v) *ℤ m) (y *ℤ m -ℤ x *ℤ s)
linear-vapour x y u p m s =
    record {
      grows = λ z d. rw (vapour_out x u z d s)
          (rw (moved_in y z d m) (omega (arith, ints, sub-times (y *ℤ m) (x *ℤ s) d)));
    }

-- what the code divides, by its three products
pub divided : (r : Rounding) (holdup slope x xa yb l v p q s t w : ℤ) →
    p ≡ x *ℤ kept holdup slope l v → q ≡ xa *ℤ (l *ℤ million) → s ≡ yb *ℤ (v *ℤ million) → t ≡ (p +ℤ q) +ℤ s →
    w ≡ holdup *ℤ million →
    quotient r t w ≡ tray r holdup slope x xa yb l v
unfolding tray
divided r holdup slope x xa yb l v p q s t w e f g h i =
    let all : t ≡ held holdup slope x xa yb l v =
    omega (arith, ints, e, f, g, h, times-times xa l million, times-times yb v million) in
    ap (λ u. quotient r u w) all ∙ ap (quotient r (held holdup slope x xa yb l v)) i

-- how what is divided grows with each argument
held-own : (holdup slope xa yb l v : ℤ) → IsLinear (λ x. held holdup slope x xa yb l v) (kept holdup slope l v)
held-own holdup slope xa yb l v = linear-own (kept holdup slope l v) ((xa *ℤ l) *ℤ million) ((yb *ℤ v) *ℤ million)

held-above : (holdup slope x yb l v : ℤ) → IsLinear (λ xa. held holdup slope x xa yb l v) (l *ℤ million)
held-above holdup slope x yb l v = linear-above (x *ℤ kept holdup slope l v) ((yb *ℤ v) *ℤ million) l million

held-below : (holdup slope x xa l v : ℤ) → IsLinear (λ yb. held holdup slope x xa yb l v) (v *ℤ million)
held-below holdup slope x xa l v = linear-below (x *ℤ kept holdup slope l v +ℤ (xa *ℤ l) *ℤ million) v million

held-liquid : (holdup slope x xa yb v : ℤ) → IsLinear (λ l. held holdup slope x xa yb l v)
    (xa *ℤ million -ℤ x *ℤ million)
held-liquid holdup slope x xa yb v = linear-liquid x xa (holdup *ℤ million) (v *ℤ slope) ((yb *ℤ v) *ℤ million) million

held-vapour : (holdup slope x xa yb l : ℤ) → IsLinear (λ v. held holdup slope x xa yb l v) (yb *ℤ million -ℤ x *ℤ slope)
held-vapour holdup slope x xa yb l = linear-vapour x yb (holdup *ℤ million -ℤ l *ℤ million)
    ((xa *ℤ l) *ℤ million) million slope

-- it rises with each content, where what flows and what stays is not negative
pub record IsPushed (holdup slope l v : ℤ) : Type 0 where
  pub liquid : pos 0 ≤ℤ l
  pub vapour : pos 0 ≤ℤ v
  pub own : pos 0 ≤ℤ kept holdup slope l v

pub tray-contents : (r : Rounding) (holdup slope l v : ℤ) → IsPushed holdup slope l v → (x xa yb y ya zb : ℤ) →
    x ≤ℤ y → xa ≤ℤ ya → yb ≤ℤ zb → tray r holdup slope x xa yb l v ≤ℤ tray r holdup slope y ya zb l v
unfolding tray
tray-contents r holdup slope l v p x xa yb y ya zb h k i =
    quotient-rises r (held holdup slope x xa yb l v) (held holdup slope y ya zb l v) (holdup *ℤ million)
    (omega (
      arith,
      ints,
      linear-up (λ t. held holdup slope t xa yb l v) (kept holdup slope l v) x y
          (held-own holdup slope xa yb l v) p.own h,
      linear-up (λ t. held holdup slope y t yb l v) (l *ℤ million) xa ya (held-above holdup slope y yb l v)
          (omega (arith, ints, p.liquid)) k,
      linear-up (λ t. held holdup slope y ya t l v) (v *ℤ million) yb zb (held-below holdup slope y ya l v)
          (omega (arith, ints, p.vapour)) i,
    ))

-- the liquid draws it to the content above, and the vapour to what comes from below
pub tray-liquid : (r : Rounding) (holdup slope x xa yb v : ℤ) → IsDrawn x xa (λ l. tray r holdup slope x xa yb l v)
unfolding tray
tray-liquid r holdup slope x xa yb v =
    let f : ℤ → ℤ = λ l. held holdup slope x xa yb l v in
    let k = xa *ℤ million -ℤ x *ℤ million in
    quotient-drawn r x xa f (holdup *ℤ million) (record {
      up = λ a b p l. linear-up f k a b (held-liquid holdup slope x xa yb v) (omega (arith, ints)) l;
      down = λ a b p l. linear-down f k a b (held-liquid holdup slope x xa yb v) (omega (arith, ints)) l;
    })

pub tray-vapour : (r : Rounding) (holdup slope x xa yb l : ℤ) →
    IsDrawn (x *ℤ slope) (yb *ℤ million) (tray r holdup slope x xa yb l)
unfolding tray
tray-vapour r holdup slope x xa yb l =
    quotient-drawn r (x *ℤ slope) (yb *ℤ million) (held holdup slope x xa yb l) (holdup *ℤ million)
    (linear-drawn (x *ℤ slope) (yb *ℤ million) (held holdup slope x xa yb l) _
    (held-vapour holdup slope x xa yb l) refl)

pub tray-monotone : (r : Rounding) (holdup slope : ℤ) → IsMonotone5 (tray r holdup slope)
unfolding tray
tray-monotone r holdup slope =
    let w = holdup *ℤ million in (
      (λ xa yb l v. linear-monotone r _ (kept holdup slope l v) w (held-own holdup slope xa yb l v)),
      (λ x. (
        (λ yb l v. linear-monotone r _ (l *ℤ million) w (held-above holdup slope x yb l v)),
        (λ xa. (
          (λ l v. linear-monotone r _ (v *ℤ million) w (held-below holdup slope x xa l v)),
          (λ yb. (
            (λ v. drawn-monotone x xa (λ l. tray r holdup slope x xa yb l v) (tray-liquid r holdup slope x xa yb v)),
            (λ l. drawn-monotone _ _ (tray r holdup slope x xa yb l) (tray-vapour r holdup slope x xa yb l)),
          )),
        )),
      )),
    )

-- nothing negative leaves
pub leaving : (slope v : ℤ) → Holds slopes slope → Holds stage_flows v → pos 0 ≤ℤ (v *ℤ slope)
leaving slope v s h = omega (arith, ints, times-le (pos 0) v slope s.above h.above)

pub kept-weighs : (holdup slope l v : ℤ) → Holds holdups holdup → Holds slopes slope → Holds stage_flows l →
    Holds stage_flows v → IsDrainable holdup slope l v →
    Holds weights (kept holdup slope l v)
kept-weighs holdup slope l v h s i j d =
    let n = leaving slope v s j in
    record { above = omega (arith, ints); below = omega (arith, ints) }

-- a number weighed is no further from 0 than its bound weighed
weighed-around : (a k : ℤ) (n : ℕ) → Holds (around n) a → pos 0 ≤ℤ k →
    ((neg_ℤ (pos n) *ℤ k) ≤ℤ (a *ℤ k)) × ((a *ℤ k) ≤ℤ (pos n *ℤ k))
weighed-around a k n h p = (times-le (neg_ℤ (pos n)) a k p h.above, times-le a (pos n) k p h.below)

-- the content after a tick, where the three contents are of this size
pub tray-around : (r : Rounding) (holdup slope x xa yb l v : ℤ) → Holds wide x → Holds wide xa → Holds contents yb →
    Holds holdups holdup → Holds slopes slope → Holds stage_flows l → Holds stage_flows v →
    IsDrainable holdup slope l v →
    Holds stage_contents (tray r holdup slope x xa yb l v)
unfolding tray
tray-around r holdup slope x xa yb l v a b c h s i j d =
    let n = leaving slope v s j in
    let k = kept-weighs holdup slope l v h s i j d in
    let w = holdup *ℤ million in
    let one : pos 1 ≤ℤ w = omega (arith, ints) in
    let own = weighed-around x (kept holdup slope l v) widest a k.above in
    let above = weighed-around xa l widest b i.above in
    let below = weighed-around yb v greatest_content c j.above in
    let low : (neg_ℤ (pos greatest_stage_content) *ℤ w) ≤ℤ held holdup slope x xa yb l v =
    omega (arith, ints, own.0, above.0, below.0, d.leaves, d.passes) in
    let high : held holdup slope x xa yb l v ≤ℤ (pos greatest_stage_content *ℤ w) =
    omega (arith, ints, own.1, above.1, below.1, d.leaves, d.passes) in
    let both = quotient-between_whole r (neg_ℤ (pos greatest_stage_content))
    (pos greatest_stage_content) _ w one low high in
    record { above = both.0; below = both.1 }

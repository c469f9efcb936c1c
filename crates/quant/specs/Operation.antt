-- The operations on numbers that unit equations are made of.
use Rattle.std.specs.Prelude.{ℕ, ◌*◌, ◌^◌, ℤ, pos, ◌+ℤ◌, ◌-ℤ◌, ◌*ℤ◌, ◌≤ℤ◌, int_le, if◌then◌else◌, List, [], ◌∷◌}
use Rattle.std.specs.Int.{int_min, int_max}
use Rattle.quant.specs.Interval.{Interval, around, widest}
use Rattle.quant.specs.Rounding.{Rounding, quotient, divisor}

-- ppm of a whole
abbrev pub million : ℤ
million = pos 1000000

-- the ppm of a part of a whole
abbrev pub ppm : Interval
ppm = record { lo = pos 0; hi = million }

-- the nearest number of the interval
unfoldable pub clamp : Interval → ℤ → ℤ
clamp limits a = int_max limits.lo (int_min a limits.hi)

-- the number, or 0 where it is negative
abbrev pub not_negative : ℤ → ℤ
not_negative a = int_max (pos 0) a

-- the part of a whole that m is: 0 at least, the whole at most
abbrev pub part : ℤ → ℤ → ℤ
part whole m = int_max (pos 0) (int_min m whole)

-- g ppm of a
unfoldable pub share : Rounding → ℤ → ℤ → ℤ
share r a g = quotient r (a *ℤ part million g) million

-- what stays of a when g ppm of it is taken
unfoldable pub keep : Rounding → ℤ → ℤ → ℤ
keep r a g = a -ℤ share r a g

-- c, of which m parts in v are replaced by d
unfoldable pub blend : Rounding → ℤ → ℤ → ℤ → ℤ → ℤ
blend r c d m v =
    let replaced = part (divisor v) m in
    quotient r (c *ℤ (divisor v -ℤ replaced) +ℤ d *ℤ replaced) (divisor v)

-- k ppm of a
unfoldable pub gain : Rounding → ℤ → ℤ → ℤ
gain r k a = quotient r (a *ℤ k) million

-- what a flow m at c and a flow n at d become together: c where nothing flows
unfoldable pub mix : Rounding → ℤ → ℤ → ℤ → ℤ → ℤ
mix r c d m n =
    let both = not_negative m +ℤ not_negative n in
    if int_le both (pos 0) then c else quotient r (c *ℤ not_negative m +ℤ d *ℤ not_negative n) both

-- what of a stage's holdup stays where l and v leave it, in millionths
abbrev pub kept : ℤ → ℤ → ℤ → ℤ → ℤ
kept holdup slope l v = (holdup *ℤ million -ℤ l *ℤ million) -ℤ v *ℤ slope

-- what a stage of a column holds after a tick: of its holdup H, l came from above at xa, and v from below at yb, while
-- l left at x and v at x by the slope s, all in one quotient
unfoldable pub tray : Rounding → ℤ → ℤ → ℤ → ℤ → ℤ → ℤ → ℤ → ℤ
tray r holdup slope x xa yb l v =
    quotient r ((x *ℤ kept holdup slope l v +ℤ (xa *ℤ l) *ℤ million) +ℤ (yb *ℤ v) *ℤ million) (holdup *ℤ million)

-- how much of the rise from one point of a table to the next t has passed
abbrev pub passed : Rounding → ℤ × ℤ → ℤ × ℤ → ℤ → ℤ
passed r from to t =
    let gap = divisor (to.0 -ℤ from.0) in
    quotient r (not_negative (to.1 -ℤ from.1) *ℤ part gap (t -ℤ from.0)) gap

-- the rises of a table that t has passed
abbrev pub risen : Rounding → List (ℤ × ℤ) → ℤ → ℤ
risen r [] t = pos 0
risen r (from ∷ []) t = pos 0
risen r (from ∷ to ∷ rest) t = passed r from to t +ℤ risen r (to ∷ rest) t

-- The value of a table at t: its first value, and the rises that t has passed. Between two points it is linear, and
-- outside it is the first or the last value.
unfoldable pub lookup : Rounding → List (ℤ × ℤ) → ℤ → ℤ
lookup r [] t = pos 0
lookup r (first ∷ rest) t = first.1 +ℤ risen r (first ∷ rest) t

-- the greatest size of a number that sums and differences take
abbrev pub greatest_summand : ℕ
greatest_summand = 4 * 10 ^ 18

-- the greatest size of a content that is shared, blended or mixed, and of what a gain gives
abbrev pub greatest_content : ℕ
greatest_content = 10 ^ 16

-- the greatest size of a number that a gain takes; the greatest flow that is mixed and volume that is blended
abbrev pub greatest_amount : ℕ
greatest_amount = 10 ^ 13

-- the greatest size of a gain, and the greatest slope of a stage, in ppm
abbrev pub steepest : ℕ
steepest = 10 ^ 9

-- where the numbers of sums and differences lie
abbrev pub summands : Interval
summands = around greatest_summand

-- where the contents lie that are shared, blended or mixed
abbrev pub contents : Interval
contents = around greatest_content

-- where the numbers lie that a gain takes
abbrev pub amounts : Interval
amounts = around greatest_amount

-- the gains that there may be, in ppm
abbrev pub gains : Interval
gains = around steepest

-- the flows that are mixed
abbrev pub flows : Interval
flows = record { lo = pos 0; hi = pos greatest_amount }

-- the volumes that a blend may have
abbrev pub volumes : Interval
volumes = record { lo = pos 1; hi = pos greatest_amount }

-- the flows through a stage
abbrev pub stage_flows : Interval
stage_flows = record { lo = pos 0; hi = pos widest }

-- the holdups of a stage
abbrev pub holdups : Interval
holdups = record { lo = pos 1; hi = pos widest }

-- the slopes of a stage in ppm
abbrev pub slopes : Interval
slopes = record { lo = pos 0; hi = pos steepest }

-- the greatest holdup of a stage in millionths
abbrev pub heaviest : ℕ
heaviest = widest * 10 ^ 6

-- what the contents of a stage are weighed by: millionths of its holdup
abbrev pub weights : Interval
weights = record { lo = pos 0; hi = pos heaviest }

-- what a stage may come to hold: twice the greatest content
abbrev pub greatest_stage_content : ℕ
greatest_stage_content = 2 * greatest_content

abbrev pub stage_contents : Interval
stage_contents = around greatest_stage_content

-- no more leaves a stage in a tick than it holds, and no more vapour passes it
pub record IsDrainable (holdup slope l v : ℤ) : Type 0 where
  pub leaves : (l *ℤ million +ℤ v *ℤ slope) ≤ℤ (holdup *ℤ million)
  pub passes : v ≤ℤ holdup

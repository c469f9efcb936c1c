-- Words of the proofs: a reader of the contracts needs none of them.
-- What is read from rows of numbers and of bands.
use Rattle.std.proofs.Common.{◌≡◌, ℕ, ◌+◌, ◌<◌, ℤ, pos, List, length, get_or, sym, subst, ◌∙◌, arith}
use Rattle.std.proofs.lemmas.List.{get_or_default}
use Rattle.std.specs.Prelude.{slice_index_or}
use Rattle.quant.specs.Interval.{Interval, Holds, IsInside, AllHold, AllInside, point}
use Rattle.quant.specs.Operation.{IsDrainable}
use Rattle.quant.proofs.Calls.{held-length, inside-length, read, read-inside}
use Rattle.quant.proofs.Hulls.{inside-holds}
use Rattle.quant.proofs.Terms.{place-holds, place-inside}
use Rattle.column_section.specs.declared.column.Column.{Column}
use Rattle.column_section.specs.Column.{IsSound, MayTake, MayTakeBands, state_limits, input_limits}

-- a step may be made from these states and inputs, of which each lies where it may
pub record MayStep {X : Type 0} (all_lie_in : List Interval → List X → Type 0) (may_take : Column → List X → Type 0)
    (column : Column) (state ins : List X) : Type 0 where
  pub sound : IsSound column
  pub states : all_lie_in (state_limits column) state
  pub inputs : may_take column ins
  pub count : length state ≡ column.stages + 4
  pub six : length ins ≡ 6

pub number-at : (xs : List ℤ) (n : ℕ) (x : ℤ) → n < length xs → x ≡ get_or xs n x → x ≡ slice_index_or xs n (pos 0)
number-at xs n x h e = e ∙ get_or_default xs n x (pos 0) h

pub number-wider : (A B : Interval) (x : ℤ) → Holds A x → IsInside A B → Holds B x
number-wider A B x h k = inside-holds A B x k h

pub number-placed : (As : List Interval) (xs : List ℤ) (n : ℕ) (x : ℤ) → AllHold As xs → n < length xs →
    x ≡ get_or xs n x → Holds (slice_index_or As n (point (pos 0))) x
number-placed As xs n x h l e =
    subst (Holds (slice_index_or As n (point (pos 0)))) (sym (number-at xs n x l e)) (place-holds As xs n h)

pub band-placed : (As xs : List Interval) (n : ℕ) (x : Interval) → AllInside xs As → n < length xs →
    x ≡ get_or xs n x → IsInside x (slice_index_or As n (point (pos 0)))
band-placed As xs n x h l e = read-inside xs n x (slice_index_or As n (point (pos 0))) l e (place-inside xs As n h)

-- no more leaves a stage than it holds, by the flows that are read
drained-by : {X : Type 0} (drains : X → X → Type 0) (l v m w : X) → l ≡ m → v ≡ w → drains m w → drains l v
drained-by drains l v m w e f h = subst (λ t. drains t v) (sym e) (subst (drains m) (sym f) h)

pub number-drained : (column : Column) (ins : List ℤ) (l v : ℤ) → MayTake column ins → l ≡ get_or ins 0 l →
    v ≡ get_or ins 3 v → IsDrainable column.holdup column.slope l v
number-drained column ins l v t e f =
    let six = held-length input_limits ins t.held in
    drained-by (IsDrainable column.holdup column.slope) l v _ _ (number-at ins 0 l (omega arith) e)
    (number-at ins 3 v (omega arith) f) t.drainable

pub band-drained : (column : Column) (ins : List Interval) (l v : Interval) → MayTakeBands column ins → l ≡ get_or ins 0 l →
    v ≡ get_or ins 3 v → IsDrainable column.holdup column.slope l.hi v.hi
band-drained column ins l v t e f =
    let six = inside-length ins input_limits t.held in
    drained-by (λ (A B : Interval). IsDrainable column.holdup column.slope A.hi B.hi) l v _ _
    (read ins 0 l (omega arith) e) (read ins 3 v (omega arith) f) t.drainable

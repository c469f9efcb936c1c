-- A board after some sweeps: it goes on by their narrowing steps, and enough of them, or an idle one, leave it quiet.
use Rattle.std.proofs.Common.{◌≡◌, ◌∙◌, ℕ, ◌+◌, ◌*◌, ◌<◌, ◌≤◌, List, [], ◌∷◌, ◌++◌, length, max, fold}
use Rattle.std.proofs.Common.{refl, sym, ap, subst, arith, false}
use Rattle.std.specs.Prelude.{Bool, count_by, ◌==◌}
use Rattle.std.proofs.lemmas.List.{length_push}
use Rattle.std.proofs.Math.Nat.{mul-le-mul_left, mul-le-mul_right}
use Rattle.relaxation.specs.Window.{Window}
use Rattle.relaxation.specs.Core.{Versions, Step, versions_of, replay, AreLegal, IsQuiet}
use Rattle.relaxation.specs.Sweep.{IsSweep, AreSweeps, replay_sweeps}
use Rattle.relaxation.proofs.Counts.{steps-count, sweeps-count}
use Rattle.relaxation.proofs.IdleSweeps.{idle-quiet}
use Rattle.relaxation.proofs.Places.{all-quiet}
use Rattle.relaxation.proofs.States.{KeepsRun}
use Rattle.relaxation.proofs.Sweeps.{sweeps-kept, sweeps-below}
use Rattle.parts.specs.Parts.{FileParts}
use Rattle.plant.specs.PlantOf.{plant_of, ranks_of, most_rank}
use Rattle.plant.proofs.Lookups.{streams-counted}
use Rattle.plant.proofs.Ranked.{greatest_most}
use Rattle.renewal.specs.Plan.{PlanOf, IsPlan, window_of}
use Rattle.relax_core.specs.Board.{BoardOf, IsBoard}
use Rattle.relax_core.specs.Order.{IsOrder}
use Rattle.relax_core.specs.Settling.{after_steps, GoesOn}
use Rattle.relax_core.specs.Turns.{IsSweeping}
use Rattle.relax_core.proofs.Boards.{board-open, board-kept}
use Rattle.relax_core.proofs.Orders.{order-once, order-covers}
use Rattle.relax_core.proofs.Sweeping.{goes_nowhere, goes_further, sweep-goes, sweep-leaves}

-- the board after k sweeps
pub record IsSettling (start : BoardOf) (k : ℕ) (board : BoardOf) : Type 0 where
  pub sweeps : List (List Step)
  pub counted : length sweeps ≡ k
  pub are : AreSweeps (window_of start.plan) start.versions sweeps
  pub left : board.versions ≡ replay_sweeps (window_of start.plan) start.versions sweeps
  pub goes : GoesOn start board

pub settling_none : (start : BoardOf) → IsSettling start 0 start
settling_none start = record { sweeps = []; counted = refl; are = tt; left = refl; goes = goes_nowhere start }

-- a sweep behind others
sweeps-append : (window : Window) (state : Versions) (sweeps : List (List Step)) (steps : List Step) →
    AreSweeps window state sweeps → IsSweep window (replay_sweeps window state sweeps) steps →
    AreSweeps window state (sweeps ++ steps ∷ [])
sweeps-append window state [] steps are is = (is, tt)
sweeps-append window state (first ∷ sweeps) steps are is =
    (are.0, sweeps-append window (replay window state first) sweeps steps are.1 is)

sweeps-leave : (window : Window) (state : Versions) (sweeps : List (List Step)) (steps : List Step) →
    replay_sweeps window state (sweeps ++ steps ∷ []) ≡ replay window (replay_sweeps window state sweeps) steps
sweeps-leave window state [] steps = refl
sweeps-leave window state (first ∷ sweeps) steps = sweeps-leave window (replay window state first) sweeps steps

-- a sweep in which each stream has had its turn
sweep-whole : (board new : BoardOf) (order : List ℕ) (narrows : Bool) → IsOrder board.plan order →
    (h : IsSweeping board order narrows new) → IsSweep (window_of board.plan) board.versions h.steps
sweep-whole board new order narrows each h = record {
  legal = h.legal;
  newest = h.newest;
  once = λ s. omega (arith, h.few s, order-once board.plan order each s);
  covers = λ s l. h.covers s
      (order-covers board.plan order each s (subst (λ n. s < n) (streams-counted board.plan.parts) l));
}

-- one that narrowed nothing leaves the board quiet
pub sweep-quiet : (board new : BoardOf) (order : List ℕ) → IsOrder board.plan order →
    IsSweeping board order false new → IsQuiet (window_of new.plan) new.versions
sweep-quiet board new order each h =
    subst (λ b. IsQuiet (window_of b.plan) b.versions) (sym (h.leads ∙ ap (after_steps board) (h.none refl)))
    (idle-quiet (window_of board.plan) board.versions h.steps (sweep-whole board new order false each h) (h.none refl))

module _ (start : BoardOf) (k : ℕ) (board : BoardOf) (h : IsSettling start k board) where
  pub plan-same : board.plan ≡ start.plan
  plan-same = ap (λ (b : BoardOf). b.plan) h.goes.leads

  -- a sweep more
  pub settling-more : (new : BoardOf) (order : List ℕ) (narrows : Bool) → IsOrder board.plan order →
      IsSweeping board order narrows new → IsSettling start (k + 1) new
  settling-more new order narrows each s =
      let window : Window = window_of start.plan in
      let whole : IsSweep window board.versions s.steps
      = subst (λ (p : PlanOf). IsSweep (window_of p) board.versions s.steps) plan-same
      (sweep-whole board new order narrows each s) in
      record {
        sweeps = h.sweeps ++ s.steps ∷ [];
        counted = length_push h.sweeps s.steps ∙ ap (λ n. n + 1) h.counted;
        are = sweeps-append window start.versions h.sweeps s.steps h.are
            (subst (λ state. IsSweep window state s.steps) h.left whole);
        left = sweep-leaves board _ narrows new s
            ∙ ap (λ (p : PlanOf). replay (window_of p) board.versions s.steps) plan-same
            ∙ ap (λ state. replay window state s.steps) h.left
            ∙ sym (sweeps-leave window start.versions h.sweeps s.steps);
        goes = goes_further start board new h.goes (sweep-goes board _ narrows new s);
      }

  module _ (is : IsBoard start) where
    settling-kept : KeepsRun (window_of start.plan) (board-open start is) board.versions
    settling-kept = subst (KeepsRun (window_of start.plan) (board-open start is)) (sym h.left)
        (sweeps-kept (window_of start.plan) (board-open start is) start.versions h.sweeps (board-kept start is) h.are)

    -- each stream has at most a version more for each sweep
    pub settling-few : (s : ℕ) → length (versions_of board.versions s) ≤ length (versions_of start.versions s) + k
    settling-few s =
        let window : Window = window_of start.plan in
        let e = ap (λ (state : Versions). length (versions_of state s)) h.left in
        let few = sweeps-count window (board-open start is) start.versions h.sweeps (board-kept start is) h.are s in
        omega (arith, e, h.counted, few)

    -- and in a sweep that did not come to its end one more
    pub sweeping-few : k < start.plan.ticks * ((plant_of start.plan.parts).top + 1) →
        (turned : List ℕ) (narrows : Bool) (new : BoardOf) →
        IsSweeping board turned narrows new → (s : ℕ) → count_by (λ r. r == s) turned ≤ 1 →
        length (versions_of new.versions s)
        ≤ length (versions_of start.versions s) + start.plan.ticks * ((plant_of start.plan.parts).top + 1)
    sweeping-few below turned narrows new w s once =
        let window : Window = window_of start.plan in
        let e : new.versions ≡ replay window board.versions w.steps
        = sweep-leaves board turned narrows new w
        ∙ ap (λ (p : PlanOf). replay (window_of p) board.versions w.steps) plan-same in
        let count = steps-count window (board-open start is) board.versions w.steps settling-kept
        (subst (λ (p : PlanOf). AreLegal (window_of p) board.versions w.steps) plan-same w.legal) s in
        omega (arith, ap (λ state. length (versions_of state s)) e, count, w.few s, once, settling-few s, below)

    -- as many sweeps as there are places leave it quiet
    pub settling-quiet : start.plan.ticks * ((plant_of start.plan.parts).top + 1) ≤ k →
        IsQuiet (window_of board.plan) board.versions
    settling-quiet all =
        let window : Window = window_of start.plan in
        let left : Versions = replay_sweeps window start.versions h.sweeps in
        subst (λ (p : PlanOf). IsQuiet (window_of p) board.versions) (sym plan-same)
        (subst (IsQuiet window) (sym h.left)
        (all-quiet window (board-open start is) left
        (sweeps-kept window (board-open start is) start.versions h.sweeps (board-kept start is) h.are) (length h.sweeps)
        (sweeps-below window (board-open start is) start.versions (board-kept start is) h.sweeps h.are)
        (subst (λ n. start.plan.ticks * ((plant_of start.plan.parts).top + 1) ≤ n) (sym h.counted) all)))

-- the greatest rank is the plant's, and not great
pub greatest-is : (plan seen : PlanOf) (parts : FileParts) (ranks : List ℕ) (g : ℕ) → seen ≡ plan → parts ≡ seen.parts →
    ranks ≡ ranks_of parts → g ≡ fold max 0 ranks → g ≡ (plant_of plan.parts).top
unfolding plant_of
greatest-is plan seen parts ranks g e f k is =
    is ∙ ap (fold max 0) (k ∙ ap ranks_of (f ∙ ap (λ (p : PlanOf). p.parts) e))

pub top-few : (plan : PlanOf) → IsPlan plan → (plant_of plan.parts).top ≤ 16
unfolding plant_of
top-few plan h = greatest_most most_rank (ranks_of plan.parts) h.plant.shallow

-- so there are few places
pub places-few : (ticks top : ℕ) → ticks ≤ 64 → top ≤ 16 → ticks * (top + 1) ≤ 1088
places-few ticks top h k = omega (arith, mul-le-mul_right (top + 1) h, mul-le-mul_left 64 k)

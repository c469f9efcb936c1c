-- A turn goes on with the sweep.
use Rattle.std.proofs.Common.{◌+◌, ◌<◌, ℕ, List, length, take, true, sym, subst, arith}
use Rattle.std.specs.Prelude.{Bool, slice_index}
use Rattle.std.proofs.lemmas.List.{take_more, take_all}
use Rattle.std.proofs.lemmas.Result.{err_from_is_err_and}
use Rattle.plant_streams.specs.Streams.{streams_of}
use Rattle.renewal.specs.Plan.{PlanOf}
use Rattle.relax_core.proofs.Orders.{order-there}
use Rattle.std.specs.declared.alloc.AllocError.{AllocError}
use Rattle.relax_core.specs.Turns.{IsSweeping}
use Rattle.relax_core.proofs.Sweeping.{sweep-none, sweep-turn, sweep-cut, sweep-plan}
use Rattle.relax_core.proofs.board.Board.sweep.Goals as goal
use Rattle.relax_core.proofs.board.Board.sweep.Goals.{then-branch, else-branch}

pub loop-stream-init : goal.loop-stream-init
loop-stream-init c = sweep-none c.args.self.now

pub turn-requires : goal.turn-requires
turn-requires c =
    let start = c.args.self.now in
    let i = c.loop-stream.stream-index in
    let same = sweep-plan start (take i c.args.order.now) c.loop-stream.narrowed c.loop-stream.self
    c.loop-stream.invariant in
    subst (λ (plan : PlanOf). slice_index c.args.order.now i < length (streams_of plan.parts)) (sym same)
    (order-there start.plan c.args.order.now c.requires i c.loop-stream-test.true)

pub returns-in_err-turn : goal.returns-in_err-turn
returns-in_err-turn c =
    let front = take c.loop-stream.stream-index c.args.order.now in
    let p = err_from_is_err_and c.from_residual.result c.from_residual.ensures.1 in
    rw (p.1) (
      c.loop-stream.stream-index,
      sweep-cut c.args.self.now c.loop-stream.self c.turn.new.self front c.loop-stream.narrowed c.loop-stream.invariant
          c.in_err-turn.ensures,
    )

pub loop-stream-preserved : goal.loop-stream-preserved
loop-stream-preserved c =
    let start = c.args.self.now in
    let order = c.args.order.now in
    let i = c.loop-stream.stream-index in
    let more = take_more order i 0 c.loop-stream-test.true in
    elim c.if-branch.branch [
      | then-branch w ↦ subst (λ (said : Bool). IsSweeping start (take (i + 1) order) said c.turn.new.self)
          (sym w.narrowed-is)
          (subst (λ (turned : List ℕ). IsSweeping start turned true c.turn.new.self) (sym more)
          (sweep-turn AllocError start c.loop-stream.self c.turn.new.self (take i order) (slice_index order i)
          c.loop-stream.narrowed c.in_ok-turn.field-0 true c.loop-stream.invariant c.in_ok-turn.ensures (λ e. cc)))
      | else-branch w ↦ subst (λ (said : Bool). IsSweeping start (take (i + 1) order) said c.turn.new.self)
          (sym w.narrowed-is)
          (subst (λ (turned : List ℕ). IsSweeping start turned c.loop-stream.narrowed c.turn.new.self) (sym more)
          (sweep-turn AllocError start c.loop-stream.self c.turn.new.self (take i order) (slice_index order i)
          c.loop-stream.narrowed c.in_ok-turn.field-0 c.loop-stream.narrowed c.loop-stream.invariant
          c.in_ok-turn.ensures (λ e. (e, w.if-branch.false))))
    ]

pub returns : goal.returns
returns c =
    subst (λ (turned : List ℕ). IsSweeping c.args.self.now turned c.loop-stream.narrowed c.loop-stream.self)
    (take_all c.loop-stream.stream-index c.args.order.now (omega (arith, c.loop-stream-test.false)))
    c.loop-stream.invariant

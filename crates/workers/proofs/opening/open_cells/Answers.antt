use Rattle.std.proofs.Common.{◌∙◌, List, drop, length, sym, ap, subst, arith}
use Rattle.std.proofs.lemmas.List.{length_push}
use Rattle.worker.specs.declared.hand.Hand.{Hand}
use Rattle.workers.specs.Cells.{AreOpen, IsOpenedFor}
use Rattle.workers.proofs.Benches.{written}
use Rattle.workers.proofs.Opened.{cell-opened, none-open, open-shared}
use Rattle.workers.proofs.opening.open_cells.Goals as goal

pub loop-stream-init : goal.loop-stream-init
loop-stream-init c =
    let none = c.in_ok-cells.ensures.items in
    let empty = c.in_ok-hands.ensures in
    record {
      counted = ap length none;
      open-so-far = none-open c.args.plan.now c.args.workers c.in_ok-cells.cells.items c.in_ok-hands.hands.items none empty.counted empty.none;
    }

pub loop-stream-preserved : goal.loop-stream-preserved
loop-stream-preserved c =
    let plan = c.args.plan.now in
    let is = c.loop-stream.invariant in
    let cells = c.loop-stream.cells.items in
    let hands = c.loop-stream.hands.items in
    let cell = c.in_ok-open_cell.field-0 in
    let after = c.open_cell.new.hands in
    let one = c.in_ok-open_cell.ensures in
    let back = written after (drop (length after) hands) c.loop-stream.hands.len (sym c.deref_mut.ensures.len ∙ sym (one.more).counted) in
    record {
      counted = omega (arith, ap length c.in_ok-push.ensures.items, length_push cells cell);
      open-so-far = subst (λ (held : List Hand). AreOpen plan c.args.workers c.push.new.self.items held) (sym back)
          (cell-opened plan c.args.workers c.loop-stream.stream cells c.push.new.self.items hands after cell is.open-so-far (sym is.counted)
          (subst (λ (held : List Hand). IsOpenedFor plan c.loop-stream.stream held after cell) c.deref_mut.ensures.value one)
          c.in_ok-push.ensures.items);
    }

pub returns-clause-shared : goal.returns-clause-shared
returns-clause-shared c =
    let is = c.loop-stream.invariant in
    open-shared c.args.plan.now c.args.workers c.loop-stream.cells.items c.loop-stream.hands.items is.open-so-far
    (omega (arith, is.counted, c.stream_count-streams.ensures.count))

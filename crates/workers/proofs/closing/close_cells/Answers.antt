use Rattle.std.proofs.Common.{◌∙◌, drop, length, sym, subst}
use Rattle.workers.specs.Cells.{AreLeft, HaveOneMore}
use Rattle.workers.proofs.Benches.{written}
use Rattle.workers.proofs.Closed.{are-all, are-passes, closed-now, left-now}
use Rattle.workers.proofs.closing.close_cells.Goals as goal

pub close-requires-clause-passes : goal.close-requires-clause-passes
close-requires-clause-passes c =
    let after = c.take_last.new.hands in
    let passes = c.in_ok-passes.passes.items in
    let taken = subst (HaveOneMore after passes) c.deref_mut.ensures.value c.in_ok-passes.ensures in
    are-passes c.args.cells.items c.args.hands.items c.requires c.loop-cell.cells.items c.loop-cell.hands.items c.loop-cell.invariant.left
    c.pop.new.self.items c.in-Some.cell c.in-Some.ensures.items after passes taken

pub close-requires-clause-all : goal.close-requires-clause-all
close-requires-clause-all c =
    let after = c.take_last.new.hands in
    let passes = c.in_ok-passes.passes.items in
    let taken = subst (HaveOneMore after passes) c.deref_mut.ensures.value c.in_ok-passes.ensures in
    are-all c.args.cells.items c.args.hands.items c.requires c.loop-cell.cells.items c.loop-cell.hands.items c.loop-cell.invariant.left
    c.pop.new.self.items c.in-Some.cell c.in-Some.ensures.items after passes taken

pub loop-cell-preserved : goal.loop-cell-preserved
loop-cell-preserved c =
    let cells = c.args.cells.items in
    let hands = c.args.hands.items in
    let left = c.loop-cell.cells.items in
    let holding = c.loop-cell.hands.items in
    let is = c.loop-cell.invariant in
    let rest = c.pop.new.self.items in
    let split = c.in-Some.ensures.items in
    let after = c.take_last.new.hands in
    let passes = c.in_ok-passes.passes.items in
    let given = c.in_ok-passes.ensures in
    let taken = subst (HaveOneMore after passes) c.deref_mut.ensures.value given in
    let back = written after (drop (length after) holding) c.loop-cell.hands.len (sym c.deref_mut.ensures.len ∙ given.counted) in
    record {
      left = subst (AreLeft cells hands rest) (sym back)
          (left-now cells hands c.requires left holding is.left rest c.in-Some.cell split after passes taken);
      closed = closed-now cells hands c.requires left holding is.left rest c.in-Some.cell split after passes taken
          c.close.result c.loop-cell.histories.items c.push.new.self.items c.close.ensures is.closed c.in_ok-push.ensures.items;
    }

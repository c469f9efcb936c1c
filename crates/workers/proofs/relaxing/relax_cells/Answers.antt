use Rattle.std.proofs.Common.{◌≡◌, ◌∙◌, List, drop, length, sym, ap, subst}
use Rattle.std.proofs.lemmas.Result.{IfOk-weaker}
use Rattle.workers.specs.declared.relaxing.Bench.{Bench}
use Rattle.workers.specs.Benches.{AreShared}
use Rattle.workers.specs.Working.{AreBenches}
use Rattle.workers.proofs.Benches.{benches-shared, left-counted, left-shared}
use Rattle.workers.proofs.relaxing.relax_cells.Goals as goal

pub run-requires-clause-benches : goal.run-requires-clause-benches
run-requires-clause-benches g c κs within =
    let plan = c.args.plan.now in
    let desk = c.in_ok-desk.desk in
    subst (λ (benches : List Bench). AreBenches plan c.args.cells.now desk benches) (sym c.deref_mut.ensures.value)
    (benches-shared plan c.args.cells.now desk c.args.hands.items c.in_ok-benches.benches.items
    c.requires.shared c.in_ok-benches.ensures.hands c.in_ok-benches.ensures.ready)

pub returns-clause-counted : goal.returns-clause-counted
returns-clause-counted g c =
    let benches = c.run.new.benches in
    let first = c.in_ok-benches.benches.items in
    IfOk-weaker c.hands_of.result _ (λ left. length left.items ≡ length c.args.hands.items)
    (λ left is. left-counted c.args.hands.items left.items first benches (drop (length benches) first) c.in_ok-benches.benches.len
    c.in_ok-benches.ensures.hands (c.run.ensures.counted ∙ ap length c.deref_mut.ensures.value)
    (sym c.deref_mut.ensures.len ∙ sym c.run.ensures.counted) is)
    c.hands_of.ensures

pub returns-clause-shared : goal.returns-clause-shared
returns-clause-shared g c =
    let plan = c.args.plan.now in
    let cells = c.args.cells.now in
    let benches = c.run.new.benches in
    let first = c.in_ok-benches.benches.items in
    IfOk-weaker c.hands_of.result _ (λ left. AreShared plan cells left.items)
    (λ left is. left-shared plan cells c.in_ok-desk.desk c.args.hands.items left.items first benches (drop (length benches) first)
    c.in_ok-benches.benches.len c.requires.shared c.in_ok-benches.ensures.hands
    (c.run.ensures.counted ∙ ap length c.deref_mut.ensures.value) (sym c.deref_mut.ensures.len ∙ sym c.run.ensures.counted)
    c.run.ensures.benches is)
    c.hands_of.ensures

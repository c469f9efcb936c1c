use Rattle.std.proofs.Common.{List, ap, length, map, subst, arith}
use Rattle.std.proofs.lemmas.Result.{IfOk-weaker}
use Rattle.relaxation.specs.History.{History}
use Rattle.renewal.specs.Plan.{window_of}
use Rattle.renewal.proofs.Counts.{streams-few}
use Rattle.stream_cell.specs.declared.passes.StreamCell.{StreamCell}
use Rattle.relax_core.specs.Adopting.{AreAdoptable}
use Rattle.workers.specs.Benches.{AreShared}
use Rattle.workers.specs.Cells.{held_by}
use Rattle.workers.specs.Gathering.{AreGathered}
use Rattle.workers.proofs.Adoptable.{closed-counted, closed-each, closed-few, closed-known, closed-streams, gathered-adoptable, shared-hold}
use Rattle.workers.proofs.relaxing.relax.Goals as goal

pub close_cells-requires : goal.close_cells-requires
close_cells-requires g c =
    let plan = c.args.plan.now in
    let hands = c.in_ok-hands.hands.items in
    shared-hold plan c.in_ok-cells.cells.items hands
    (subst (λ (cells : List StreamCell). AreShared plan cells hands) c.deref.ensures.value c.in_ok-hands.ensures.shared)

pub gather-requires : goal.gather-requires
gather-requires g c =
    let plan = c.args.plan.now in
    let cells = c.in_ok-cells.cells.items in
    let hands = c.in_ok-hands.hands.items in
    let histories = c.in_ok-histories.histories.items in
    let shared = subst (λ (cells : List StreamCell). AreShared plan cells hands) c.deref.ensures.value c.in_ok-hands.ensures.shared in
    let counted = closed-counted plan cells hands histories shared c.in_ok-histories.ensures in
    omega (arith, counted, streams-few plan c.in_ok-cells.ensures.plan, c.deref-2.ensures.len, ap length c.deref-2.ensures.value)

pub returns : goal.returns
returns g c =
    let plan = c.args.plan.now in
    let cells = c.in_ok-cells.cells.items in
    let hands = c.in_ok-hands.hands.items in
    let histories = c.in_ok-histories.histories.items in
    let shared = subst (λ (cells : List StreamCell). AreShared plan cells hands) c.deref.ensures.value c.in_ok-hands.ensures.shared in
    let closed = c.in_ok-histories.ensures in
    let sound = c.known_histories_are_sound.ensures plan (map held_by hands) histories c.in_ok-cells.ensures.plan
    (closed-counted plan cells hands histories shared closed) (closed-known plan cells hands histories shared closed)
    (closed-each plan cells hands histories shared closed) in
    let laws = c.gathered_histories_are_adopted.ensures in
    IfOk-weaker c.gather.result _ (λ made. AreAdoptable plan made.items)
    (λ made is. gathered-adoptable plan histories made.items (closed-few plan cells hands histories shared closed)
    (closed-streams plan cells hands histories shared closed)
    (λ list all. laws.adopted (window_of plan) histories list sound all)
    (λ list all. laws.streams (window_of plan) histories list sound all)
    (subst (λ (from : List History). AreGathered from made.items) c.deref-2.ensures.value is))
    c.gather.ensures

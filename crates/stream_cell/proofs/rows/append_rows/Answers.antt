use Rattle.std.proofs.Common.{rules, ◌≡◌, ◌+◌, ◌<◌, ◌≤◌, length, ap, ◌∙◌, take, arith}
use Rattle.std.proofs.lemmas.List.{length-append}
use Rattle.relaxation.specs.Tube.{at}
use Rattle.stream_cell.specs.Flat.{flat}
use Rattle.stream_cell.proofs.Flats.{appended_more, flat_room}
use Rattle.stream_cell.proofs.rows.append_rows.Goals as goal

pub returns-in_err-extend_from_slice-clause-succeeds :
    goal.returns-in_err-extend_from_slice-clause-succeeds
returns-in_err-extend_from_slice-clause-succeeds c room =
    let inv = c.loop-tick.invariant in
    let there : c.loop-tick.tick < length c.args.tube.now = search rules in
    let n : length c.loop-tick.bands.items ≡ length c.args.bands.now.items + length (flat (take c.loop-tick.tick c.args.tube.now)) =
    ap length inv.0 ∙ length-append c.args.bands.now.items (flat (take c.loop-tick.tick c.args.tube.now)) in
    let more : length (flat (take c.loop-tick.tick c.args.tube.now)) + length (at c.args.tube.now c.loop-tick.tick) ≤ length (flat c.args.tube.now) =
    flat_room c.args.tube.now c.loop-tick.tick there in
    let row : length c.row.result.now ≡ length (at c.args.tube.now c.loop-tick.tick) = ap length c.row.ensures in
    let full = c.in_err-extend_from_slice.ensures.full in
    let kept = inv.1 in
    let ok = c.loop-tick.bands.ok in
    absurd (omega arith)

pub loop-tick-preserved : goal.loop-tick-preserved
loop-tick-preserved c = (
  appended_more _ _ _ _ c.args.tube.now c.loop-tick.tick (search rules) c.loop-tick.invariant.0 c.row.ensures c.in_ok-extend_from_slice.ensures.items,
  search rules,
)

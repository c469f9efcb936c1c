-- A unit reads streams that are there, and each of them has its tube.
use Rattle.std.proofs.Common.{◌<◌, ◌∙◌, ℕ, List, length, map, ap, sym, subst, arith}
use Rattle.std.specs.List.{AllByRecursion}
use Rattle.std.proofs.lemmas.List.{take_all}
use Rattle.plant_streams.specs.Streams.{streams_of}
use Rattle.renewal.specs.Plan.{window_of}
use Rattle.renewal.proofs.Givers.{reads-are}
use Rattle.renewal.proofs.RoomShapes.{below-at}
use Rattle.renewal.proofs.rooms.Inputs.room.Goals as goal

pub opening_tube-requires : goal.opening_tube-requires
opening_tube-requires c =
    let plan = c.args.plan.now in
    let x = c.unit.result.now in
    let g = c.unit.ensures in
    below-at (length (streams_of plan.parts)) c.inputs-stream-items.result.now c.loop-stream.stream-index
    (subst (λ (reads : List ℕ). AllByRecursion (λ s. s < length (streams_of plan.parts)) reads)
    (sym c.inputs-stream-items.ensures)
    g.sound.reads)
    c.loop-stream-test.true

pub returns : goal.returns
returns c =
    let plan = c.args.plan.now in
    let x = c.unit.result.now in
    let g = c.unit.ensures in
    c.loop-stream.invariant
    ∙ ap (map (window_of plan).opening)
    (take_all c.loop-stream.stream-index c.inputs-stream-items.result.now (omega arith)
    ∙ c.inputs-stream-items.ensures ∙ sym (reads-are plan c.args.unit x g))

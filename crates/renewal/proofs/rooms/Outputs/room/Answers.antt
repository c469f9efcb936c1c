-- A unit gives streams that are there, and each of them has its tube.
use Rattle.std.proofs.Common.{◌<◌, ◌+◌, ◌∙◌, ℕ, List, length, map, replicate, get_or, ap, sym, subst, arith}
use Rattle.std.proofs.lemmas.List.{take_all}
use Rattle.plant_streams.specs.Streams.{streams_of}
use Rattle.plant_units.specs.Units.{gives_of, opening_of}
use Rattle.plant_units.proofs.AllKinds.{states-few}
use Rattle.renewal.specs.Plan.{window_of}
use Rattle.renewal.proofs.RoomShapes.{outputs-shape, states-shape}
use Rattle.renewal.proofs.rooms.Outputs.room.Goals as goal

pub opening_tube-requires : goal.opening_tube-requires
opening_tube-requires c =
    let plan = c.args.plan.now in
    let x = c.unit-giver.result.now in
    let g = c.unit-giver.ensures in
    let i = c.loop-stream.stream-index in
    let there : i < length (gives_of x) =
    omega (arith, c.loop-stream-test.true, ap length c.outputs-stream-items.ensures) in
    subst (λ (gives : List ℕ). get_or gives i 0 < length (streams_of plan.parts)) (sym c.outputs-stream-items.ensures)
    (g.sound.gives i there).0

pub filled-requires : goal.filled-requires
filled-requires c =
    let plan = c.args.plan.now in
    let x = c.unit-giver.result.now in
    let g = c.unit-giver.ensures in
    omega (arith, ap length c.opening.ensures, states-few x (opening_of x) g.sound.sound g.sound.starts)

pub returns : goal.returns
returns c =
    let plan = c.args.plan.now in
    let x = c.unit-giver.result.now in
    let g = c.unit-giver.ensures in
    record {
      ports_shape =
          ap (map (map length)) (c.loop-stream.invariant
          ∙ ap (map (window_of plan).opening)
          (take_all c.loop-stream.stream-index c.outputs-stream-items.result.now (omega arith)
          ∙ c.outputs-stream-items.ensures))
          ∙ outputs-shape plan c.args.unit x g;
      states_shape =
          ap (map length) (c.in_ok-states.ensures
          ∙ ap (λ (n : ℕ). replicate (n + 1) c.opening.result.now) c.ticks.ensures
          ∙ ap (replicate (plan.ticks + 1)) c.opening.ensures)
          ∙ states-shape plan c.args.unit x g (plan.ticks + 1);
    }

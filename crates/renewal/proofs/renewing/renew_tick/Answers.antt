-- The unit takes what its tubes have at the tick, and one tick more is renewed.
use Rattle.std.proofs.Common.{◌≡◌, ◌<◌, ◌+◌, ◌∙◌, ℕ, List, length, take, ap, sym, subst, arith}
use Rattle.std.specs.Prelude.{slice_set}
use Rattle.quant.specs.Interval.{Interval, AllInside}
use Rattle.relaxation.specs.Tube.{Tube, at}
use Rattle.relaxation.specs.Window.{row_of}
use Rattle.plant_units.specs.declared.units.Unit.{Unit}
use Rattle.plant_units.specs.Units.{state_limits_of, MayTake}
use Rattle.plant_units.specs.Steps.{views, steps}
use Rattle.plant_units.proofs.AllKinds.{takes-few}
use Rattle.renewal.specs.Plan.{PlanOf}
use Rattle.renewal.specs.Room.{RenewalOf, HasRoomFor, AreOpened, planned}
use Rattle.renewal.specs.Giver.{IsGiver}
use Rattle.renewal.specs.Ticks.{spread_at, IsRenewed}
use Rattle.renewal.proofs.Givers.{row-taken, tubes-ticked, state-limits-are}
use Rattle.renewal.proofs.Renewed.{states-inside, states-counted, states-wide, shown-filled, renewed-more}
use Rattle.renewal.proofs.renewing.renew_tick.Goals as goal

-- what stands after the two steps, from what stands between them
abbrev after_step : Unit → ℕ → List Interval → RenewalOf → RenewalOf
after_step x n row made =
    record { ports = made.ports; states = slice_set made.states (n + 1) (steps x (at made.states n) row) }

abbrev after_tick : Unit → ℕ → RenewalOf → List Interval → RenewalOf
after_tick x n made row = record {
  ports = spread_at n (views x (at made.states n) row) made.ports;
  states = slice_set made.states (n + 1) (steps x (at made.states n) row);
}

-- its states stand at as many ticks when it is shown
still-counted : (plan : PlanOf) (u : ℕ) (x : Unit) → IsGiver plan u x → (made : RenewalOf) (ports : List Tube)
    {after : RenewalOf} →
    after ≡ record { ports = ports; states = made.states } → HasRoomFor plan u made →
    length after.states ≡ plan.ticks + 1
still-counted plan u x g made ports e room =
    ap (λ (after : RenewalOf). length after.states) e ∙ states-counted plan u x g made room

-- it takes what is gathered of its tubes
gathered-taken : (plan : PlanOf) (u : ℕ) (x : Unit) → IsGiver plan u x → (t : ℕ) {tubes inputs : List Tube}
    {bands : List Interval} →
    tubes ≡ inputs → bands ≡ row_of tubes t → t < plan.ticks → AreOpened plan (planned plan u).reads inputs →
    MayTake x bands
gathered-taken plan u x g t {inputs = inputs} same bands m o =
    subst (MayTake x) (sym (bands ∙ ap (λ (ts : List Tube). row_of ts t) same)) (row-taken plan u x g t inputs m o)

pub gather_at-count-requires-clause-ticked : goal.gather_at-count-requires-clause-ticked
gather_at-count-requires-clause-ticked c =
    let plan = c.args.plan.now in
    let x = c.unit-giver.result.now in
    let g = c.unit-giver.ensures in
    rw c.as_slice.ensures
    (tubes-ticked plan c.args.unit x g c.args.tick c.args.inputs.now c.requires.tick c.requires.inputs)

pub gather_at-count-requires-clause-room : goal.gather_at-count-requires-clause-room
gather_at-count-requires-clause-room c =
    let plan = c.args.plan.now in
    let x = c.unit-giver.result.now in
    let g = c.unit-giver.ensures in
    let few = takes-few x (row_of c.args.inputs.now c.args.tick) g.sound.sound
    (row-taken plan c.args.unit x g c.args.tick c.args.inputs.now c.requires.tick c.requires.inputs) in
    rw c.as_slice.ensures (omega (arith, few, c.requires.taken))

pub show-requires-clause-sound : goal.show-requires-clause-sound
show-requires-clause-sound c = c.unit-giver.ensures.sound.sound

pub step-requires-clause-sound : goal.step-requires-clause-sound
step-requires-clause-sound c = c.unit-giver.ensures.sound.sound

pub show-requires-clause-states : goal.show-requires-clause-states
show-requires-clause-states c =
    states-inside c.args.plan.now c.args.unit _ c.unit-giver.ensures c.args.inputs.now c.args.outputs.now c.args.tick
    c.requires.renewed

pub step-requires-clause-states : goal.step-requires-clause-states
step-requires-clause-states c =
    let plan = c.args.plan.now in
    let x = c.unit-giver.result.now in
    let g = c.unit-giver.ensures in
    subst (λ (made : RenewalOf). AllInside (at made.states c.args.tick) (state_limits_of x)) (sym c.show.ensures)
    (states-inside plan c.args.unit x g c.args.inputs.now c.args.outputs.now c.args.tick c.requires.renewed)

pub show-requires-clause-inputs : goal.show-requires-clause-inputs
show-requires-clause-inputs c =
    λ instant. gathered-taken c.args.plan.now c.args.unit _ c.unit-giver.ensures c.args.tick c.as_slice.ensures
    c.gather_at-count.ensures.bands c.requires.tick c.requires.inputs

pub step-requires-clause-inputs : goal.step-requires-clause-inputs
step-requires-clause-inputs c =
    gathered-taken c.args.plan.now c.args.unit _ c.unit-giver.ensures c.args.tick c.as_slice.ensures
    c.gather_at-count.ensures.bands c.requires.tick c.requires.inputs

pub show-requires-clause-room : goal.show-requires-clause-room
show-requires-clause-room c =
    let plan = c.args.plan.now in
    let x = c.unit-giver.result.now in
    let g = c.unit-giver.ensures in
    shown-filled plan c.args.unit x g c.args.outputs.now c.args.tick _ c.requires.renewed.shape c.requires.tick
    (states-inside plan c.args.unit x g c.args.inputs.now c.args.outputs.now c.args.tick c.requires.renewed)

pub step-requires-clause-tick : goal.step-requires-clause-tick
step-requires-clause-tick c =
    omega (arith, still-counted _ _ _ c.unit-giver.ensures _ _ c.show.ensures c.requires.renewed.shape, c.requires.tick)

pub step-requires-clause-few : goal.step-requires-clause-few
step-requires-clause-few c =
    let g = c.unit-giver.ensures in
    omega (arith, still-counted _ _ _ g _ _ c.show.ensures c.requires.renewed.shape, g.plan_is.few)

pub step-requires-clause-next : goal.step-requires-clause-next
step-requires-clause-next c =
    let plan = c.args.plan.now in
    let x = c.unit-giver.result.now in
    let g = c.unit-giver.ensures in
    ap (λ (made : RenewalOf). length (at made.states (c.args.tick + 1))) c.show.ensures
    ∙ states-wide plan c.args.unit x g c.args.outputs.now (c.args.tick + 1) c.requires.renewed.shape
    (omega (arith, c.requires.tick))

pub step-requires-clause-room : goal.step-requires-clause-room
step-requires-clause-room c =
    c.requires.room ∙ ap length (state-limits-are c.args.plan.now c.args.unit _ c.unit-giver.ensures)

pub returns : goal.returns
returns c =
    let plan = c.args.plan.now in
    let x = c.unit-giver.result.now in
    let g = c.unit-giver.ensures in
    let tubes = c.args.inputs.now in
    let n = c.args.tick in
    let made = c.args.outputs.now in
    let bands = c.gather_at-count.ensures.bands ∙ ap (λ (ts : List Tube). row_of ts n) c.as_slice.ensures in
    let row = take c.gather_at-count.result c.gather_at-count.new.ins in
    let whole : c.step.new.self ≡ after_tick x n made (row_of tubes n) =
    c.step.ensures ∙ ap (after_step x n row) c.show.ensures ∙ ap (after_tick x n made) bands in
    subst (IsRenewed plan c.args.unit tubes (n + 1)) (sym whole)
    (renewed-more plan c.args.unit x g tubes made n c.requires.tick c.requires.renewed)

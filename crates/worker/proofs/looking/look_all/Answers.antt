-- Each look shows a version that is there, and those that were seen before stay.
use Rattle.std.proofs.Common.{◌≡◌, ◌∙◌, ◌<◌, ◌≤◌, ℕ, Less, Equal, Greater, Bool, true, false, cond, nat_lt, ◌==◌, List, length, refl, sym, ap, subst, subst₂, arith}
use Rattle.std.specs.Prelude.{slice_index, take}
use Rattle.std.specs.Ordering.{is_lt}
use Rattle.std.proofs.lemmas.Bool.Decides.{nat_tests}
use Rattle.relaxation.specs.Tube.{Tube, IsWithin}
use Rattle.relaxation.specs.History.{history_of}
use Rattle.renewal.specs.Plan.{window_of}
use Rattle.renewal.specs.Room.{planned}
use Rattle.renewal.proofs.Carrying.{opened-counted}
use Rattle.worker.specs.Knowing.{seen_by}
use Rattle.worker.specs.Looking.{IsSeen}
use Rattle.worker.proofs.Taken.{opened-at, taken-more, taken-whole}
use Rattle.worker.proofs.looking.look_all.Goals as goal

-- one of the streams that were asked for is one that is read
one-read : {reads streams : List ℕ} {n : ℕ} → streams ≡ reads → n < length streams → n < length reads
one-read e l = omega (arith, l, ap length e)

-- the greater of two stamps
picked : (lt eq : Bool) (a b : ℕ) → cond (is_lt (cond lt Less (cond eq Equal Greater))) a b ≡ cond lt a b
picked true eq a b = refl
picked false true a b = refl
picked false false a b = refl

first-below : (m a b : ℕ) → m ≡ cond (nat_lt b a) a b → a ≤ m
first-below m a b e = grind (arith, nat_tests)

second-below : (m a b : ℕ) → m ≡ cond (nat_lt b a) a b → b ≤ m
second-below m a b e = grind (arith, nat_tests)

pub port-tube-requires : goal.port-tube-requires
port-tube-requires g c =
    let plan = c.args.plan.now in
    omega (
      arith,
      opened-counted plan (planned plan c.args.unit).reads c.loop-port.room.inputs c.loop-port.invariant.taken.opened,
      c.loop-port-test.true,
      ap length c.reads-streams.ensures.reads,
    )

pub look_at-requires-clause-opened : goal.look_at-requires-clause-opened
look_at-requires-clause-opened g c =
    let plan = c.args.plan.now in
    let reads = (planned plan c.args.unit).reads in
    let n = c.loop-port.port in
    let below : n < length reads = one-read c.reads-streams.ensures.reads c.loop-port-test.true in
    subst₂ (λ (tube : Tube) (streams : List ℕ). IsWithin tube ((window_of plan).opening (slice_index streams n)))
    (sym c.port-tube.ensures.value) (sym c.reads-streams.ensures.reads)
    (opened-at plan reads c.loop-port.room.inputs n c.loop-port.invariant.taken.opened below)

pub loop-port-preserved : goal.loop-port-preserved
loop-port-preserved g c =
    let plan = c.args.plan.now in
    let reads = (planned plan c.args.unit).reads in
    let n = c.loop-port.port in
    let base = c.loop-port.base in
    let stamp = c.in-Seen.stamp in
    let more = c.max-base.result in
    let tube = c.look_at.new.into in
    let whole = seen_by c.look_at.new.passes.items in
    let same = c.reads-streams.ensures.reads in
    let below : n < length reads = one-read same c.loop-port-test.true in
    let few : length reads ≤ 8 = omega (arith, c.reads-streams.ensures.few, ap length same) in
    let within : IsWithin tube ((window_of plan).opening (slice_index reads n)) =
    subst (λ (streams : List ℕ). IsWithin tube ((window_of plan).opening (slice_index streams n))) same c.look_at.ensures.opened in
    let seen : IsSeen (history_of whole (slice_index reads n)) c.in-Seen.number stamp tube =
    subst (λ (streams : List ℕ). IsSeen (history_of whole (slice_index streams n)) c.in-Seen.number stamp tube) same c.in-Seen.ensures.shows in
    let picks = c.max-base.ensures ∙ picked (nat_lt stamp base) (stamp == base) base stamp in
    let low : base ≤ more = first-below more base stamp picks in
    let high : stamp ≤ more = second-below more base stamp picks in
    record {
      hand = c.look_at.ensures.hand;
      taken = taken-more plan (seen_by c.loop-port.passes.items) whole c.look_at.ensures.begins reads n base c.loop-port.numbers
          c.loop-port.room.inputs c.loop-port.invariant.taken below tube within few c.in-Seen.number stamp more low high seen;
      outputs = c.loop-port.invariant.outputs;
    }

pub returns-clause-seen : goal.returns-clause-seen
returns-clause-seen g c =
    let plan = c.args.plan.now in
    let reads = (planned plan c.args.unit).reads in
    let same = c.reads-streams.ensures.reads in
    let all : length reads ≤ c.loop-port.port = omega (arith, c.loop-port-test.false, ap length same) in
    let few : length reads ≤ 8 = omega (arith, c.reads-streams.ensures.few, ap length same) in
    taken-whole plan (seen_by c.loop-port.passes.items) reads c.loop-port.port c.loop-port.base c.loop-port.numbers c.of.result
    c.loop-port.room.inputs c.loop-port.invariant.taken all few
    (c.of.ensures ∙ ap (λ (streams : List ℕ). take (length streams) c.loop-port.numbers) same)

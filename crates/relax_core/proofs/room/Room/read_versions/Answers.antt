-- The versions that are read in lie in the tubes that their streams open with, and have the bands of the tubes before them
-- below the first tick at which one differs.
use Rattle.std.proofs.Common.{◌≡◌, ◌∙◌, ℕ, ◌+◌, ◌<◌, ◌≤◌, List, length, slice_index, refl, sym, ap, subst, arith}
use Rattle.std.specs.Prelude.{slice_set}
use Rattle.relaxation.specs.Core.{versions_of, version_at}
use Rattle.renewal.specs.Room.{planned}
use Rattle.relax_core.specs.Rooms.{reads_in}
use Rattle.relax_core.specs.declared.room.Room.{Room}
use Rattle.relax_core.proofs.Readings.{there-counted, there-at, stream-there, opened-counted, AreSamePorts, same-read, same-row}
use Rattle.relax_core.proofs.Readings.{IsReading, reading-none, reading-shape, reading-more, reading-whole}
use Rattle.relax_core.proofs.room.Room.read_versions.Goals as goal

-- one of the streams that were asked for is one that is read
one-read : {reads streams : List ℕ} {n : ℕ} → streams ≡ reads → n < length streams → n < length reads
one-read e l = omega (arith, l, ap length e)

pub bounds-versions-port : goal.bounds-versions-port
bounds-versions-port c =
    let reads = (planned c.args.plan.now c.args.unit).reads in
    omega (
      arith,
      there-counted c.args.lines.now reads c.args.versions.now c.requires.there,
      c.loop-port-test.true,
      ap length c.reads-stream-items.ensures.reads,
    )

pub read_version-requires-clause-number : goal.read_version-requires-clause-number
read_version-requires-clause-number c =
    let reads = (planned c.args.plan.now c.args.unit).reads in
    let n = c.loop-port.port in
    let below : n < length reads = one-read c.reads-stream-items.ensures.reads c.loop-port-test.true in
    let versions = c.args.versions.now in
    subst (λ (streams : List ℕ). slice_index versions n < length (versions_of c.args.lines.now (slice_index streams n)))
    (sym c.reads-stream-items.ensures.reads) (there-at c.args.lines.now reads versions n c.requires.there below)

pub read_version-requires-clause-stream : goal.read_version-requires-clause-stream
read_version-requires-clause-stream c =
    let reads = (planned c.args.plan.now c.args.unit).reads in
    let n = c.loop-port.port in
    let below : n < length reads = one-read c.reads-stream-items.ensures.reads c.loop-port-test.true in
    subst (λ (streams : List ℕ). slice_index streams n < length c.args.lines.now)
    (sym c.reads-stream-items.ensures.reads)
    (stream-there c.args.lines.now _ _ (there-at c.args.lines.now reads c.args.versions.now n c.requires.there below))

pub read_version-requires-clause-port : goal.read_version-requires-clause-port
read_version-requires-clause-port c =
    let plan = c.args.plan.now in
    omega (
      arith,
      opened-counted plan (planned plan c.args.unit).reads c.loop-port.self.inputs c.loop-port.invariant.0.opened,
      c.loop-port-test.true,
      ap length c.reads-stream-items.ensures.reads,
    )

pub read_version-requires-clause-shape : goal.read_version-requires-clause-shape
read_version-requires-clause-shape c =
    reading-shape c.args.plan.now c.args.lines.now c.requires.within (planned c.args.plan.now c.args.unit).reads
    c.args.versions.now c.requires.there c.loop-port.port c.loop-port.self.inputs c.reads-stream-items.result.now
    _ c.reads-stream-items.ensures.reads c.loop-port-test.true refl
    c.loop-port.invariant.0

pub loop-port-init : goal.loop-port-init
loop-port-init c =
    let plan = c.args.plan.now in (
      reading-none plan c.args.lines.now (planned plan c.args.unit).reads c.args.versions.now c.args.self.now.inputs c.requires.opened,
      λ p t m. refl,
      refl,
      omega arith,
    )

pub loop-port-preserved : goal.loop-port-preserved
loop-port-preserved c =
    let plan = c.args.plan.now in
    let lines = c.args.lines.now in
    let reads = (planned plan c.args.unit).reads in
    let versions = c.args.versions.now in
    let n = c.loop-port.port in
    let inputs = c.loop-port.self.inputs in
    let tube = version_at lines (slice_index c.reads-stream-items.result.now n) (slice_index versions n) in
    let same = c.min-same.result in
    let there : n < length inputs = omega (
      arith,
      opened-counted plan reads inputs c.loop-port.invariant.0.opened,
      c.loop-port-test.true,
      ap length c.reads-stream-items.ensures.reads,
    ) in
    subst (λ (room : Room). IsReading plan lines reads versions (n + 1) room.inputs
    × AreSamePorts same c.args.self.now.inputs room.inputs
    × (room ≡ reads_in c.args.self.now room.inputs) × (same ≤ plan.ticks))
    (sym c.read_version.ensures.read) (
      reading-more plan lines c.requires.within reads versions c.requires.there n inputs
          c.reads-stream-items.result.now tube c.reads-stream-items.ensures.reads c.loop-port-test.true
          refl c.loop-port.invariant.0,
      same-read c.loop-port.same c.read_version.result same c.args.self.now.inputs inputs n tube
          (omega (arith, c.min-same.ensures)) (omega (arith, c.min-same.ensures)) there c.loop-port.invariant.1
          c.read_version.ensures.same,
      ap (λ (room : Room). reads_in room (slice_set inputs n tube)) c.loop-port.invariant.2,
      omega (arith, c.min-same.ensures, c.loop-port.invariant.3),
    )

pub returns-clause-read : goal.returns-clause-read
returns-clause-read c =
    let plan = c.args.plan.now in
    let reads = (planned plan c.args.unit).reads in
    let all : length reads ≤ c.loop-port.port =
    omega (arith, c.loop-port-test.false, ap length c.reads-stream-items.ensures.reads) in
    c.loop-port.invariant.2 ∙ ap (reads_in c.args.self.now)
    (reading-whole plan c.args.lines.now c.requires.within reads c.args.versions.now c.requires.there c.loop-port.port
    c.loop-port.self.inputs all c.loop-port.invariant.0)

pub returns-clause-opened : goal.returns-clause-opened
returns-clause-opened c = c.loop-port.invariant.0.opened

pub returns-clause-same : goal.returns-clause-same
returns-clause-same c =
    let plan = c.args.plan.now in
    let reads = (planned plan c.args.unit).reads in
    λ t l. same-row c.args.self.now.inputs c.loop-port.self.inputs t
    (opened-counted plan reads c.args.self.now.inputs c.requires.opened
    ∙ sym (opened-counted plan reads c.loop-port.self.inputs c.loop-port.invariant.0.opened))
    (λ p. c.loop-port.invariant.1 p t l)

pub returns-clause-few : goal.returns-clause-few
returns-clause-few c = c.loop-port.invariant.3

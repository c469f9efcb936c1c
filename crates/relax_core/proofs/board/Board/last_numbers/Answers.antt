-- Each stream that the unit reads is there, and has a last version.
use Rattle.std.proofs.Common.{◌≡◌, ◌∙◌, ◌<◌, ℕ, length, take, sym, ap, subst, arith}
use Rattle.std.specs.List.{AllByRecursion}
use Rattle.std.proofs.lemmas.List.{take_all}
use Rattle.plant_streams.specs.Streams.{streams_of}
use Rattle.relaxation.specs.Core.{last_numbers}
use Rattle.renewal.specs.Plan.{PlanOf}
use Rattle.renewal.specs.Room.{planned}
use Rattle.renewal.proofs.RoomShapes.{below-at}
use Rattle.relax_core.proofs.Boards.{some-version}
use Rattle.relax_core.proofs.Turning.{numbers-more}
use Rattle.relax_core.proofs.board.Board.last_numbers.Goals as goal

pub versions-requires : goal.versions-requires
versions-requires c =
    let plan = c.args.self.now.plan in
    below-at (length (streams_of plan.parts)) c.reads-streams.result.now c.loop-port.port
    (subst (λ (p : PlanOf). AllByRecursion (λ s. s < length (streams_of p.parts)) c.reads-streams.result.now)
    c.plan.ensures.plan c.reads-streams.ensures.streams) c.loop-port-test.true

pub overflow_sub-numbers : goal.overflow_sub-numbers
overflow_sub-numbers c =
    let plan = c.args.self.now.plan in
    let below = below-at (length (streams_of plan.parts)) c.reads-streams.result.now c.loop-port.port
    (subst (λ (p : PlanOf). AllByRecursion (λ s. s < length (streams_of p.parts)) c.reads-streams.result.now)
    c.plan.ensures.plan c.reads-streams.ensures.streams) c.loop-port-test.true in
    omega (arith, c.versions.ensures, some-version c.args.self.now c.plan.ensures.board _ below)

pub bounds-numbers-port : goal.bounds-numbers-port
bounds-numbers-port c =
    let plan = c.args.self.now.plan in
    let streams : c.reads-streams.result.now ≡ (planned plan c.args.unit).reads
    = c.reads-streams.ensures.reads ∙ ap (λ (p : PlanOf). (planned p c.args.unit).reads) c.plan.ensures.plan in
    omega (arith, c.loop-port-test.true, ap length streams, c.requires.room, c.loop-port.auto.numbers)

pub loop-port-preserved : goal.loop-port-preserved
loop-port-preserved c =
    let plan = c.args.self.now.plan in
    let streams : c.reads-streams.result.now ≡ (planned plan c.args.unit).reads
    = c.reads-streams.ensures.reads ∙ ap (λ (p : PlanOf). (planned p c.args.unit).reads) c.plan.ensures.plan in
    numbers-more c.args.self.now.versions c.reads-streams.result.now c.loop-port.numbers c.loop-port.port _
    c.loop-port-test.true
    (omega (arith, c.loop-port-test.true, ap length streams, c.requires.room, c.loop-port.auto.numbers))
    c.loop-port.invariant
    (omega (arith, c.versions.ensures))

pub returns-clause-numbers : goal.returns-clause-numbers
returns-clause-numbers c =
    let plan = c.args.self.now.plan in
    let streams : c.reads-streams.result.now ≡ (planned plan c.args.unit).reads
    = c.reads-streams.ensures.reads ∙ ap (λ (p : PlanOf). (planned p c.args.unit).reads) c.plan.ensures.plan in
    let all : c.loop-port.port ≡ length c.reads-streams.result.now = omega (arith, c.loop-port-test.false) in
    ap (λ (n : ℕ). take n c.loop-port.numbers) (sym all) ∙ c.loop-port.invariant
    ∙ ap (last_numbers c.args.self.now.versions)
    (take_all c.loop-port.port c.reads-streams.result.now (omega arith) ∙ streams)

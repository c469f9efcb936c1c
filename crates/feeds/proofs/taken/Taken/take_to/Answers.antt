-- Records are taken as long as they are not later.
use Rattle.std.proofs.Common.{◌≡◌, ◌+◌, None, sym, subst, refl, arith}
use Rattle.feeds.specs.declared.taken.Taken.{Taken}
use Rattle.feeds.specs.Standing.{IsTakenFor}
use Rattle.feeds.specs.Taking.{Takes}
use Rattle.feeds.proofs.Holds.{ahead-placed, has-place, with-held, holds-ahead}
use Rattle.feeds.proofs.Takings.{takes-then, takes-ahead, takes-one, takes-met, come-ahead, stops-ahead}
use Rattle.feeds.proofs.taken.Taken.take_to.Goals as goal

pub hold_ahead-requires : goal.hold_ahead-requires
hold_ahead-requires c = ahead-placed c.args.plant.now c.args.text.now.bytes c.args.self.now c.requires.taken

pub returns-then-not-hold_ahead-clause-takes : goal.returns-then-not-hold_ahead-clause-takes
returns-then-not-hold_ahead-clause-takes c =
    stops-ahead c.args.plant.now c.args.text.now c.parts.ensures.plant c.args.text.now.bytes (c.args.tick + 1)
    c.args.self.now c.hold_ahead.new.self c.requires.taken c.if-not-hold_ahead.ensures

pub loop-record-init : goal.loop-record-init
loop-record-init c =
    let parts = c.args.plant.now in
    let text = c.args.text.now in
    let end = c.args.tick + 1 in
    let holds = c.if-not-hold_ahead.ensures in
    subst (λ (now : Taken). record {
      taken : IsTakenFor parts text.bytes now;
      ahead : now.ahead ≡ None;
      takes : Takes parts text end c.args.self.now now;
    }) (sym holds.1) (record {
      taken = holds-ahead parts text.bytes c.args.self.now c.requires.taken;
      ahead = refl;
      takes = takes-ahead parts text end c.args.self.now holds.0;
    })

pub returns-then-record-tick-clause-takes : goal.returns-then-record-tick-clause-takes
returns-then-record-tick-clause-takes c =
    let parts = c.args.plant.now in
    let text = c.args.text.now in
    let end = c.args.tick + 1 in
    let reads = rw c.in-Some.is at c.in_ok-record.ensures in
    let met = takes-met parts text end c.loop-record.self c.read_next.new.self c.in-Some.record c.loop-record.invariant.ahead
    reads.answers.next reads.ahead reads.held in (
      takes-then parts text end end c.args.self.now c.loop-record.self _ (omega arith) c.loop-record.invariant.takes met,
      come-ahead parts text c.parts.ensures.plant end _ c.in-Some.record refl reads.answers.last.0 reads.answers.last.1
          (omega arith),
    )

pub hold-requires-clause-channel : goal.hold-requires-clause-channel
hold-requires-clause-channel c =
    let reads = rw c.in-Some.is at c.in_ok-record.ensures in
    (has-place c.args.plant.now c.read_next.new.self.held reads.taken.feeds reads.taken.held c.in-Some.record
    reads.answers.fits).channel

pub loop-record-preserved : goal.loop-record-preserved
loop-record-preserved c =
    let parts = c.args.plant.now in
    let text = c.args.text.now in
    let end = c.args.tick + 1 in
    let reads = rw c.in-Some.is at c.in_ok-record.ensures in
    let one = takes-one parts text end c.loop-record.self c.read_next.new.self c.in-Some.record c.loop-record.invariant.ahead
    reads.answers.next reads.ahead reads.held (omega arith) in
    subst (λ held. record {
      taken : IsTakenFor parts text.bytes (record c.read_next.new.self { held = held });
      ahead : c.read_next.new.self.ahead ≡ None;
      takes : Takes parts text end c.args.self.now (record c.read_next.new.self { held = held });
    }) (sym c.hold.ensures) (record {
      taken = with-held parts text.bytes c.read_next.new.self c.in-Some.record reads.taken reads.answers.fits;
      ahead = reads.ahead;
      takes = takes-then parts text end end c.args.self.now c.loop-record.self _ (omega arith)
          c.loop-record.invariant.takes one;
    })

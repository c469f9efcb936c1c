-- One tick more gets what records say.
use Rattle.std.proofs.Common.{◌≡◌, ◌+◌, subst, arith}
use Rattle.std.proofs.lemmas.Result.{err_from_is_err_and}
use Rattle.feeds.specs.Standing.{pending}
use Rattle.feeds.specs.Taking.{Takes, HasCome}
use Rattle.feeds.specs.Filling.{AreFilledBefore}
use Rattle.feeds.proofs.Fillings.{held-now, filled-none, can-cover, filled-more}
use Rattle.feeds.proofs.Takings.{takes-none, takes-then, refused-then, refused-later}
use Rattle.feeds.proofs.filling.fill.Goals as goal

pub loop-tick-init : goal.loop-tick-init
loop-tick-init c =
    let parts = c.args.plant.now in
    let text = c.args.text.now in
    record {
      taken = c.requires.taken;
      takes = takes-none parts text (c.args.span.first + 0) c.args.taken.now;
      come = λ some. absurd (omega arith);
      filled = filled-none parts c.parts.ensures.plant c.args.taken.now.held (pending parts text c.args.taken.now).records
          c.args.span.first c.args.span.ticks c.args.tubes.now c.requires.tubes;
    }

pub cover-requires : goal.cover-requires
cover-requires c =
    let parts = c.args.plant.now in
    let text = c.args.text.now in
    can-cover parts c.parts.ensures.plant c.args.taken.now.held (pending parts text c.args.taken.now).records c.args.span.first
    c.args.span.ticks text.bytes c.take_to.new.self c.loop-tick.tick c.loop-tick.tubes c.take_to.ensures.taken
    c.loop-tick-test.true c.loop-tick.invariant.filled

pub loop-tick-preserved : goal.loop-tick-preserved
loop-tick-preserved c =
    let parts = c.args.plant.now in
    let text = c.args.text.now in
    let old = c.args.taken.now in
    let tick = c.loop-tick.tick in
    let here = c.args.span.first + tick in
    let read = c.take_to.new.self in
    let takes = takes-then parts text here (here + 1) old c.loop-tick.taken read (omega arith) c.loop-tick.invariant.takes
    c.in_ok-take_to.ensures.takes.0 in
    let come = c.in_ok-take_to.ensures.takes.1 in
    let next : here + 1 ≡ c.args.span.first + (tick + 1) = omega arith in
    record {
      taken = c.take_to.ensures.taken;
      takes = subst (λ end. Takes parts text end old read) next takes;
      come = λ some. subst (λ end. HasCome parts text end read) next come;
      filled = filled-more parts c.parts.ensures.plant old.held (pending parts text old).records c.args.span.first c.args.span.ticks tick
          read.held c.loop-tick.tubes c.cover.new.tubes c.loop-tick-test.true c.loop-tick.invariant.filled
          c.take_to.ensures.taken.feeds c.cover.ensures (held-now parts text here old read takes come);
    }

pub returns-in_err-take_to-clause-fills : goal.returns-in_err-take_to-clause-fills
returns-in_err-take_to-clause-fills c =
    let parts = c.args.plant.now in
    let text = c.args.text.now in
    let here = c.args.span.first + c.loop-tick.tick in
    let end = c.args.span.first + c.args.span.ticks in
    let p = err_from_is_err_and c.from_residual.result c.from_residual.ensures.1 in
    rw (p.1, p.2) (refused-then parts text here end c.args.taken.now c.loop-tick.taken c.in_err-take_to.field-0.0
    (omega arith) c.loop-tick.invariant.takes
    (refused-later parts text (here + 1) end c.loop-tick.taken c.in_err-take_to.field-0.0 (omega arith)
    c.in_err-take_to.ensures.takes))

pub returns-clause-fills : goal.returns-clause-fills
returns-clause-fills c =
    let parts = c.args.plant.now in
    let text = c.args.text.now in
    let old = c.args.taken.now in
    let all : c.loop-tick.tick ≡ c.args.span.ticks = omega (arith, c.loop-tick-test.false, c.loop-tick.auto.tick-end) in
    record {
      takes = subst (λ n. Takes parts text (c.args.span.first + n) old c.loop-tick.taken) all c.loop-tick.invariant.takes;
      come = subst (λ n. HasCome parts text (c.args.span.first + n) c.loop-tick.taken) all
          (c.loop-tick.invariant.come (omega (arith, c.requires.some)));
      filled = subst (λ n. AreFilledBefore parts old.held (pending parts text old).records c.args.span.first c.args.span.ticks n
          c.loop-tick.tubes) all c.loop-tick.invariant.filled;
    }

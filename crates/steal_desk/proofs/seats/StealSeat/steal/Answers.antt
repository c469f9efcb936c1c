use Rattle.std.proofs.Common.{set, refl, arith}
use Rattle.steal_desk.proofs.Stealing.{tries-next, gives, given}
use Rattle.steal_desk.proofs.seats.StealSeat.steal.Goals as goal

pub returns-in-Some-clause-seat : goal.returns-in-Some-clause-seat
returns-in-Some-clause-seat c =
    let seat = c.args.self.now in
    let g = given seat.units c.in-Some.unit seat.others.len c.deref_mut-other-items.result.now (set c.loop-other.other-items c.loop-other.other-index c.steal.new.self) seat.others.items
    c.deref_mut-other-items.ensures.value c.deref_mut-other-items.ensures.len
    (gives seat.units c.loop-other.other-index _ c.loop-other.other-items c.other-item.result c.steal.new.self c.loop-other.invariant (omega arith) c.in-Some.ensures.other.0 c.in-Some.ensures.other.1 c.in-Some.unit c.in-Some.ensures.steals) in
    let r = c.requires in (
      record {
        some_unit = r.some_unit;
        few_units = r.few_units;
        fifo = r.fifo;
        owner = r.owner;
        bound = r.bound;
        counted = r.counted;
        few = r.few;
        index = r.index;
        room = r.room;
        others = g.kept.others;
      },
      ((refl, refl, g.kept.deques), refl),
    )

pub returns-in-Some-clause-steals : goal.returns-in-Some-clause-steals
returns-in-Some-clause-steals c =
    let seat = c.args.self.now in
    let g = given seat.units c.in-Some.unit seat.others.len c.deref_mut-other-items.result.now (set c.loop-other.other-items c.loop-other.other-index c.steal.new.self) seat.others.items
    c.deref_mut-other-items.ensures.value c.deref_mut-other-items.ensures.len
    (gives seat.units c.loop-other.other-index _ c.loop-other.other-items c.other-item.result c.steal.new.self c.loop-other.invariant (omega arith) c.in-Some.ensures.other.0 c.in-Some.ensures.other.1 c.in-Some.unit c.in-Some.ensures.steals) in
    g.steals

pub loop-other-preserved : goal.loop-other-preserved
loop-other-preserved c =
    tries-next c.args.self.now.units c.loop-other.other-index _ c.loop-other.other-items c.other-item.result c.steal.new.self c.loop-other.invariant (omega arith) c.in_default.ensures.other.0 c.in_default.ensures.other.1 c.in_default.ensures.steals

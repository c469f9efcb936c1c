use Rattle.std.proofs.Common.{◌∙◌, List, All, ap, length, subst, sym}
use Rattle.steal_desk.specs.declared.seats.StealDesk.{StealDesk}
use Rattle.steal_desk.specs.declared.seats.StealSeat.{StealSeat}
use Rattle.steal_desk.specs.Making.{AreLinked, IsSeatWith, units_among}
use Rattle.steal_desk.specs.Opening.{AreJoined, AreNewSeats}
use Rattle.steal_desk.proofs.Joining.{as-many, joined, lent, new-seats, same-units}
use Rattle.steal_desk.proofs.seats.StealDesk.open.Goals as goal

pub join-requires : goal.join-requires
join-requires c =
    let desk : StealDesk = record { turns = c.in_ok-turns.turns } in
    subst (λ (l : List StealSeat). All (IsSeatWith (units_among l)) l) (sym c.deref_mut.ensures.value)
    (same-units desk c.args.workers c.in_ok-seats.seats.items c.in_ok-seats.ensures.seats)

pub returns-clause-seats : goal.returns-clause-seats
returns-clause-seats c =
    let units = units_among c.deref_mut.result.now in
    let olds = c.in_ok-seats.seats.items in
    let news = c.join.new.seats in
    let desk : StealDesk = record { turns = c.in_ok-turns.turns } in
    let linked = subst (λ (l : List StealSeat). AreLinked units (length l) l news) c.deref_mut.ensures.value c.in_ok-join.ensures in
    let counted = sym (ap length c.deref_mut.ensures.value) ∙ c.deref_mut.ensures.len in
    lent (AreNewSeats desk c.args.workers) c.in_ok-seats.seats.len olds news counted (as-many units olds news linked)
    (new-seats units olds news linked desk c.args.workers c.in_ok-seats.ensures.seats)

pub returns-clause-joined : goal.returns-clause-joined
returns-clause-joined c =
    let units = units_among c.deref_mut.result.now in
    let olds = c.in_ok-seats.seats.items in
    let news = c.join.new.seats in
    let linked = subst (λ (l : List StealSeat). AreLinked units (length l) l news) c.deref_mut.ensures.value c.in_ok-join.ensures in
    let counted = sym (ap length c.deref_mut.ensures.value) ∙ c.deref_mut.ensures.len in
    lent AreJoined c.in_ok-seats.seats.len olds news counted (as-many units olds news linked) (joined units olds news linked)

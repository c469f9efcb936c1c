use Rattle.std.proofs.Common.{◌≡◌, ◌+◌, ◌^◌, length, All}
use Rattle.turn_desk.specs.Dealing.{IsFrom}
use Rattle.turn_desk.proofs.turns.deal.Given as goal

abbrev pub invariant-loop : goal.invariant-loop
invariant-loop l =
    (l.seat.table_id ≡ l.initial.seat.table_id)
    × (l.seat.me.0.limit ≡ l.shared.key)
    × (l.seat.me.0.passes + l.counter ≡ 2 ^ 32)
    × (length l.passes.items ≡ l.counter)
    × All (λ pass. IsFrom l.shared.table_id l.shared.key pass) l.passes.items

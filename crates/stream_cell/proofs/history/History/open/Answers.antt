use Rattle.std.proofs.Common.{◌≡◌, ◌+◌, ◌*◌, ◌≤◌, List, [], ◌∷◌, ◌++◌, length, sym, subst, ap, ◌∙◌, arith}
use Rattle.std.specs.Vec.{vec_capacity, vec_len}
use Rattle.quant.specs.Interval.{Interval}
use Rattle.stream_cell.specs.Flat.{flat}
use Rattle.stream_cell.specs.declared.head.Head.{Head}
use Rattle.stream_cell.proofs.Keeping.{opened_kept, opened_is, enough}
use Rattle.stream_cell.proofs.history.History.open.Goals as goal

-- the first head, and the first bands
one_head : (c : goal.In_ok-copied-2) → c.push_reserved.new.self.items ≡ record { number = 0; maker = 0; stamp = 0; refs = c.of.result } ∷ []
one_head c = c.push_reserved.ensures.items ∙ ap (λ (list : List Head). list ++ record { number = 0; maker = 0; stamp = 0; refs = c.of.result } ∷ []) c.in_ok-heads.ensures.items

first_bands : (c : goal.In_ok-copied-2) → c.reserve.new.self.items ≡ flat c.args.opening.now
first_bands c =
    c.in_ok-reserve.ensures.items
    ∙ (c.in_ok-append_rows.ensures.items ∙ ap (λ (list : List Interval). list ++ flat c.args.opening.now) c.in_ok-bands.ensures.items)

pub invariant_of-result : goal.invariant_of-result
invariant_of-result c =
    let heads : vec_capacity c.push_reserved.new.self ≡ vec_capacity c.in_ok-heads.heads = c.push_reserved.ensures.capacity in
    let count : c.len.result ≡ length c.reserve.new.self.items =
    c.len.ensures ∙ (c.append_rows.new.bands.ok.0 ∙ ap length (sym c.in_ok-reserve.ensures.items)) in
    let now : vec_len c.reserve.new.self ≡ length c.reserve.new.self.items = c.reserve.new.self.ok.0 in
    let room : vec_len c.reserve.new.self + c.saturating_mul-2.result ≤ vec_capacity c.reserve.new.self = c.in_ok-reserve.ensures.ok in
    opened_kept _ _ _ (record { number = 0; maker = 0; stamp = 0; refs = c.of.result }) _ _ _ _ c.in_ok-copied.ensures c.in_ok-copied-2.ensures
    (one_head c) (first_bands c) (omega (arith, c.in_ok-heads.ensures.capacity))
    (subst (λ n. 33 * n ≤ vec_capacity c.reserve.new.self) now (enough _ _ _ c.reserve.new.self.ok.1 c.reserve.new.self.small (omega (arith, c.saturating_mul-2.ensures)) room))

pub returns : goal.returns
returns c = opened_is _ _ _ _ _ c.in_ok-copied.ensures c.of.ensures (one_head c) (first_bands c)

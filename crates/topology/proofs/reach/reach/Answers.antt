use Rattle.std.proofs.Common.{◌<◌, length, sym, ap, ◌∙◌, slice_index_or, arith}
use Rattle.std.proofs.lemmas.Bool.{false≢true}
use Rattle.std.proofs.lemmas.List.{take_more, get_or_default}
use Rattle.topology.proofs.Paths.{read_there}
use Rattle.topology.proofs.Searches.{looked_skip, looked_mark}
use Rattle.topology.proofs.reach.reach.Goals as goal
use Rattle.topology.proofs.reach.reach.Goals.{then-is_instant+then-not-reached-unit+in_ok-push, else-is_instant}
use Rattle.topology.proofs.reach.reach.Goals.{else-is_instant-via-then-is_instant+else-not-reached-unit}
use Rattle.topology.proofs.reach.reach.Goals.{else-is_instant-via-else-is_instant}

pub is_instant-requires : goal.is_instant-requires
is_instant-requires c =
    let items = c.reads-next-items.result.now in
    let k = c.loop-next.next-index in
    read_there c.args.links.now c.args.from items k
    (slice_index_or items k 0) c.requires.links c.requires.there c.reads-next-items.ensures
    (omega arith) (get_or_default items k 0 (slice_index_or items k 0) (omega arith))

pub loop-next-preserved : goal.loop-next-preserved
loop-next-preserved c =
    let items = c.reads-next-items.result.now in
    let k = c.loop-next.next-index in
    let y = slice_index_or items k 0 in
    let more = take_more items k 0 c.loop-next-test.true in
    let there : y < length c.args.links.now.instant =
    read_there c.args.links.now c.args.from items k y c.requires.links c.requires.there c.reads-next-items.ensures
    c.loop-next-test.true (get_or_default items k 0 y c.loop-next-test.true) in
    elim c.if-is_instant.branch [
      | then-is_instant+then-not-reached-unit+in_ok-push w ↦
          looked_mark _ _ _ _ _ _ _ _ _ y c.loop-next.invariant more w.reached-is
          (ap (λ v. v.items) w.waiting-is ∙ w.in_ok-push.ensures.items)
          (sym c.is_instant.ensures ∙ w.if-is_instant.true)
          (omega (arith, c.loop-next.auto.reached, c.requires.counted)) w.if-not-reached-unit.true
      | else-is_instant w ↦
          looked_skip _ _ _ _ _ _ _ _ _ y c.loop-next.invariant more w.reached-is (ap (λ v. v.items) w.waiting-is)
          (λ i. elim w.else-is_instant.branch [
            | else-is_instant-via-then-is_instant+else-not-reached-unit z ↦ z.if-not-reached-unit.false
            | else-is_instant-via-else-is_instant z ↦ absurd
                (false≢true (sym z.if-is_instant.false ∙ c.is_instant.ensures ∙ i))
          ])
    ]

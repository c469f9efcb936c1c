use Rattle.std.proofs.Common.{◌≡◌, ◌∙◌, ℕ, suc, ◌+◌, ◌++◌, ◌∷◌, [], List, sym, ap, arith}
use Rattle.std.specs.List.{range_with_len}
use Rattle.relax_core.proofs.Orders.{range-more}
use Rattle.relax_core.proofs.order.numbered.Goals as goal

pub loop-stream-preserved : goal.loop-stream-preserved
loop-stream-preserved c =
    let n = c.loop-stream.stream in
    let next : n + 1 ≡ suc n = omega arith in
    c.in_ok-push.ensures.items
    ∙ ap (λ (front : List ℕ). front ++ n ∷ []) c.loop-stream.invariant
    ∙ ap (λ (last : ℕ). range_with_len 0 n ++ last ∷ []) (omega arith)
    ∙ sym (range-more 0 n)
    ∙ ap (range_with_len 0) (sym next)

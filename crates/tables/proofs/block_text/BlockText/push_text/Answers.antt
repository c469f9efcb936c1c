use Rattle.std.proofs.Common.{◌∙◌, ap, sym, take, arith}
use Rattle.std.proofs.lemmas.List.{length-take-le}
use Rattle.std.proofs.lemmas.Result.{on_ok_weaker}
use Rattle.tables.proofs.Blocks.{fronts}
use Rattle.tables.proofs.block_text.BlockText.push_text.Goals as goal

pub slice_bounds-push_front-end : goal.slice_bounds-push_front-end
slice_bounds-push_front-end c = sym (length-take-le 64 c.deref.result.now
    (omega (arith, c.if-len-ge-BLOCK.true, c.len.ensures, c.deref.ensures.len)))

pub push_front-requires : goal.push_front-requires
push_front-requires c = omega (
  arith,
  c.if-text-le-BLOCK.true,
  length-take-le 64 c.deref.result.now
      (omega (arith, c.if-len-ge-BLOCK.true, c.len.ensures, c.deref.ensures.len)),
)

-- the bytes that count are those of the text
pub returns-then-len-ge-BLOCK : goal.returns-then-len-ge-BLOCK
returns-then-len-ge-BLOCK c =
    on_ok_weaker c.push_front.result
    (λ put. put ∙ fronts c.text.inside.len 64 c.deref.result.now c.args.text.now c.args.self.now c.if-text-le-BLOCK.true
    (ap (take c.text.inside.len) c.deref.ensures.value ∙ c.text.view_is))
    c.push_front.ensures

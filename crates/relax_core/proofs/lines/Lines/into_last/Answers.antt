-- Each line's newest version is its last.
use Rattle.std.proofs.Common.{◌∙◌, [], ◌∷◌, ◌++◌, List, length, map, sym, ap, arith, append_assoc}
use Rattle.std.proofs.lemmas.List.{nil_from_length, append-nil}
use Rattle.relaxation.specs.Tube.{Tube}
use Rattle.relax_core.specs.declared.line.Line.{Line}
use Rattle.relax_core.proofs.Lasts.{last_in, lasts-are}
use Rattle.relax_core.proofs.Replaced.{lasts-newest}
use Rattle.relax_core.proofs.lines.Lines.into_last.Goals as goal

pub loop-line-init : goal.loop-line-init
loop-line-init c = (
  tt,
  tt,
  ap (λ (tubes : List Tube). tubes ++ map (λ (line : Line). line.newest) c.into_iter-line-iterator.result.rest.items) c.in_ok-tubes.ensures.items
      ∙ ap (map (λ (line : Line). line.newest)) c.into_iter-line-iterator.ensures.into_iter_gives.0
      ∙ lasts-newest c.self.inside.replaced.items c.self.inside.lines.items
      ∙ ap (map last_in) c.self.view_is,
  omega (arith, c.in_ok-tubes.ensures.len, c.in_ok-tubes.ensures.capacity, c.len.ensures, ap length c.into_iter-line-iterator.ensures.into_iter_gives.0),
)

pub push_reserved-requires : goal.push_reserved-requires
push_reserved-requires c = omega (arith, ap length c.in-Some.ensures.steps.0, c.loop-line.invariant.3)

pub loop-line-preserved : goal.loop-line-preserved
loop-line-preserved c = (
  tt,
  tt,
  ap (λ (tubes : List Tube). tubes ++ map (λ (line : Line). line.newest) c.next.new.self.rest.items)
      (c.push_reserved.ensures.items ∙ ap (λ (tube : Tube). c.loop-line.tubes.items ++ tube ∷ []) c.into_newest.ensures)
      ∙ append_assoc c.loop-line.tubes.items (c.in-Some.line.newest ∷ []) (map (λ (line : Line). line.newest) c.next.new.self.rest.items)
      ∙ ap (λ (rest : List Line). c.loop-line.tubes.items ++ map (λ (line : Line). line.newest) rest) (sym c.in-Some.ensures.steps.0)
      ∙ c.loop-line.invariant.2,
  omega (arith, ap length c.in-Some.ensures.steps.0, c.loop-line.invariant.3, c.push_reserved.ensures.len, c.push_reserved.ensures.capacity),
)

pub returns : goal.returns
returns c =
    sym (append-nil c.loop-line.tubes.items)
    ∙ ap (λ (rest : List Line). c.loop-line.tubes.items ++ map (λ (line : Line). line.newest) rest)
    (sym (nil_from_length c.loop-line.line-iterator.rest.items (sym c.loop-line.line-iterator.rest.ok.0 ∙ c.in-None.ensures.steps.0)))
    ∙ c.loop-line.invariant.2 ∙ lasts-are c.args.self

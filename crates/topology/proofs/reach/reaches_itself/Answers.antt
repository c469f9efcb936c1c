use Rattle.std.proofs.Common.{◌≡◌, false, [], length, drop, replicate, sym, ◌∙◌, subst, arith}
use Rattle.std.proofs.lemmas.List.{take_at, nil_from_length, get_or_read}
use Rattle.std.proofs.lemmas.List.Elements.{Contains-push}
use Rattle.topology.specs.Links.{reads_of}
use Rattle.topology.specs.Reaching.{Reaches}
use Rattle.topology.proofs.Paths.{instant_there, path_to}
use Rattle.topology.proofs.Searches.{IsSearch, search_first, search_next, search_end}
use Rattle.topology.proofs.reach.reaches_itself.Goals as goal

pub loop-next-init : goal.loop-next-init
loop-next-init c =
    let links = c.args.links.now in
    let unit = c.args.unit in
    let n = c.units.result in
    let after = c.reach.new.reached in
    let more = c.reach.new.waiting.items in
    let begun : c.deref_mut.result.now ≡ replicate n false = c.deref_mut.ensures.value
    ∙ c.in_ok-reached.ensures.items_if_clones_equal (λ y e. e) in
    let found : Reaches links (reads_of links unit) (replicate n false) after [] more
    = subst (λ w. Reaches links (reads_of links unit) (replicate n false) after w more) c.new-waiting.ensures.items
    (subst (λ b. Reaches links
    (reads_of links unit) b after c.new-waiting.result.items more) begun c.in_ok-reach.ensures.reaches) in
    subst (λ r. IsSearch links unit r more)
    (sym (take_at after (drop (length after) c.in_ok-reached.reached.items) _ (c.reach.auto.reached
    ∙ c.deref_mut.ensures.len)))
    (search_first links unit n after more c.units.ensures (sym c.is_instant.ensures ∙ c.if-not-is_instant.false) found)

pub reach-requires-in-Some-clause-there : goal.reach-requires-in-Some-clause-there
reach-requires-in-Some-clause-there c =
    let s = subst (IsSearch c.args.links.now c.args.unit c.loop-next.reached.items) c.in-Some.ensures.items
    c.loop-next.invariant in
    instant_there c.args.links.now c.in-Some.next (path_to c.args.links.now c.args.unit c.in-Some.next
    (s.real c.in-Some.next (s.right c.in-Some.next (Contains-push c.pop.new.self.items c.in-Some.next))))

pub loop-next-preserved : goal.loop-next-preserved
loop-next-preserved c =
    let links = c.args.links.now in
    let unit = c.args.unit in
    let after = c.reach-in-Some.new.reached in
    let more = c.reach-in-Some.new.waiting.items in
    let s = subst (IsSearch links unit c.loop-next.reached.items) c.in-Some.ensures.items c.loop-next.invariant in
    let r = subst (λ b. Reaches links
    (reads_of links c.in-Some.next) b after c.pop.new.self.items more) c.deref_mut-in-Some.ensures.value
    c.in_ok-reach-2.ensures.reaches in
    subst (λ q. IsSearch links unit q more)
    (sym (take_at after (drop (length after) c.loop-next.reached.items) _
    (c.reach-in-Some.auto.reached ∙ c.deref_mut-in-Some.ensures.len)))
    (search_next links unit c.in-Some.next c.loop-next.reached.items after c.pop.new.self.items more s r)

pub returns : goal.returns
returns c =
    let links = c.args.links.now in
    let unit = c.args.unit in
    let reached = c.loop-next.reached.items in
    let none : c.loop-next.waiting.items ≡ [] = nil_from_length c.loop-next.waiting.items
    (omega (arith, c.loop-next.waiting.ok.0, c.in_default.ensures.cases.0)) in
    let s = subst (IsSearch links unit reached) none c.loop-next.invariant in
    let read = get_or_read reached unit c.index.result.now (omega (arith, s.counted, c.requires.there)) c.index.ensures
    false in
    (λ t. s.real unit (sym read ∙ t), λ p. read ∙ search_end links unit reached s unit p)

-- One line is another, and the versions of the others stay as more is replaced.
use Rattle.std.proofs.Common.{◌∙◌, ◌<◌, List, [], ◌∷◌, ◌++◌, length, sym, ap, subst, arith, Result, Ok, Err, OnOk, OnErr}
use Rattle.std.proofs.lemmas.List.{set-get_or}
use Rattle.relaxation.specs.Tube.{Tube, HasNumbers, meet}
use Rattle.relaxation.specs.Core.{versions_of, last_of}
use Rattle.tubes.specs.Shape.{HasShapeOf}
use Rattle.relax_core.proofs.Replaced.{lines-counted, line-of, line-last, set-kept, set-view}
use Rattle.relax_core.proofs.lines.Lines.meet.Goals as goal

then-ok : {A E : Type 0} (P Q : Type 0) (r : Result A E) → OnOk r P → (P → Q) → OnOk r Q
then-ok P Q (Ok a) p f = f p
then-ok P Q (Err e) p f = tt

then-err : {A E : Type 0} (P Q : Type 0) (r : Result A E) → OnErr r P → (P → Q) → OnErr r Q
then-err P Q (Ok a) p f = tt
then-err P Q (Err e) p f = f p

pub meet-requires-clause-shape : goal.meet-requires-clause-shape
meet-requires-clause-shape c =
    let replaced = c.self.inside.replaced.items in
    let lines = c.self.inside.lines.items in
    let there : c.args.stream < length lines =
    omega (arith, c.requires.stream, lines-counted replaced lines c.args.self.now c.self.view_is) in
    subst (λ (tube : Tube). HasShapeOf tube c.args.renewal.now)
    (line-last replaced lines c.args.stream c.index_mut.result.now there c.index_mut.ensures.value c.args.self.now c.self.view_is)
    c.requires.shape

pub meet-requires-clause-numbers : goal.meet-requires-clause-numbers
meet-requires-clause-numbers c =
    let replaced = c.self.inside.replaced.items in
    let lines = c.self.inside.lines.items in
    let there : c.args.stream < length lines =
    omega (arith, c.requires.stream, lines-counted replaced lines c.args.self.now c.self.view_is) in
    subst (λ (tube : Tube). HasNumbers (meet tube c.args.renewal.now))
    (line-last replaced lines c.args.stream c.index_mut.result.now there c.index_mut.ensures.value c.args.self.now c.self.view_is)
    c.requires.numbers

pub invariant_of-self : goal.invariant_of-self
invariant_of-self c =
    let replaced = c.self.inside.replaced.items in
    let lines = c.self.inside.lines.items in
    let there : c.args.stream < length lines =
    omega (arith, c.requires.stream, lines-counted replaced lines c.args.self.now c.self.view_is) in
    set-kept replaced lines c.args.stream c.index_mut.result.now there c.index_mut.ensures.value c.args.self.now c.self.view_is
    c.self.invariant c.meet.ensures.grows.0 c.meet.new.replaced.items c.meet.ensures.grows.1 c.meet.new.self c.meet.ensures.line

pub returns-clause-ok : goal.returns-clause-ok
returns-clause-ok c =
    let replaced = c.self.inside.replaced.items in
    let lines = c.self.inside.lines.items in
    let state = c.args.self.now in
    let s = c.args.stream in
    let line = c.index_mut.result.now in
    let there : s < length lines = omega (arith, c.requires.stream, lines-counted replaced lines state c.self.view_is) in
    then-ok _ _ c.meet.result c.meet.ensures.ok (λ e.
    set-view replaced lines s line there c.index_mut.ensures.value state c.self.view_is c.self.invariant
    c.meet.ensures.grows.0 c.meet.new.replaced.items c.meet.ensures.grows.1 c.meet.new.self
    (versions_of state s ++ meet (last_of state s) c.args.renewal.now ∷ [])
    (e
    ∙ ap (λ (versions : List Tube). versions ++ meet line.newest c.args.renewal.now ∷ [])
    (sym (line-of replaced lines s line there c.index_mut.ensures.value state c.self.view_is))
    ∙ ap (λ (tube : Tube). versions_of state s ++ meet tube c.args.renewal.now ∷ [])
    (sym (line-last replaced lines s line there c.index_mut.ensures.value state c.self.view_is))))

pub returns-clause-err : goal.returns-clause-err
returns-clause-err c =
    let replaced = c.self.inside.replaced.items in
    let lines = c.self.inside.lines.items in
    let state = c.args.self.now in
    let s = c.args.stream in
    let line = c.index_mut.result.now in
    let there : s < length lines = omega (arith, c.requires.stream, lines-counted replaced lines state c.self.view_is) in
    then-err _ _ c.meet.result c.meet.ensures.err (λ e.
    set-view replaced lines s line there c.index_mut.ensures.value state c.self.view_is c.self.invariant
    c.meet.ensures.grows.0 c.meet.new.replaced.items c.meet.ensures.grows.1 c.meet.new.self
    (versions_of state s)
    (e ∙ sym (line-of replaced lines s line there c.index_mut.ensures.value state c.self.view_is))
    ∙ set-get_or state s [])

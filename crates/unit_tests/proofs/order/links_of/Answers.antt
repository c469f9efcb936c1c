use Rattle.std.proofs.Common.{ℕ, zero, suc, ◌<◌, List, [], ◌∷◌, map, All, Contains, slice_index_or}
use Rattle.std.proofs.Common.{refl, sym, ◌∙◌, subst, arith}
use Rattle.std.proofs.lemmas.List.{length-map}
use Rattle.std.proofs.lemmas.List.Elements.{All-head, All-tail, All-contains}
use Rattle.topology.specs.Links.{AreLinks}
use Rattle.unit_tests.proofs.order.links_of.Goals as goal

-- what holds of each unit of each row
rows_there : {X : Type 0} (f : X → List ℕ) (rows : List X) (n : ℕ) → All (λ row. All (λ v. v < n) (f row)) rows →
    (u v : ℕ) → Contains (slice_index_or (map f rows) u []) v → v < n
rows_there f [] n h u v c = absurd (omega (arith, c.1))
rows_there f (row ∷ rows) n h zero v c =
    All-contains (λ w. w < n) (f row) v (All-head (λ r. All (λ w. w < n) (f r)) row rows h) c
rows_there f (row ∷ rows) n h (suc u) v c =
    rows_there f rows n (All-tail (λ r. All (λ w. w < n) (f r)) row rows h) u v c

pub returns : goal.returns
returns c =
    let rows = c.args.reads.items in
    let n = c.len-units.result in
    let there = subst (All (λ row. All (λ v. v < n) row.items)) c.deref.ensures.value
    (c.if-not-are_all_there.ensures.0 refl) in
    subst AreLinks (sym c.new.ensures) (record {
      counted = length-map rows (λ r. r.items) ∙ omega
          (arith, c.args.instant.ok.0, c.args.reads.ok.0, c.len.ensures, c.len-units.ensures, c.if-len-units.false);
      few = omega (arith, c.args.instant.ok.0, c.len-units.ensures, c.if-units.false);
      there = λ u v _ h. omega
          (arith, c.args.instant.ok.0, c.len-units.ensures, rows_there (λ r. r.items) rows n there u v h);
    })

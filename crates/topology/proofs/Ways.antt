-- Whether a unit reaches another is decided by looking at paths whose units between lie below a number, for one
-- number after another.
use Rattle.std.proofs.Common.{◌<◌, ◌⊎◌, ℕ, zero, suc, length, sym, ◌∙◌, subst, inl, inr, arith}
use Rattle.std.proofs.lemmas.Bool.{cases_eq, cases_Bool, false≢true}
use Rattle.topology.specs.Links.{LinkLists, IsLink, IsFirstLoop, Path, link, further, is_instant, reads_of}
use Rattle.topology.specs.Rising.{HasLoop}
use Rattle.topology.proofs.Paths.{instant_there, path_to}
use Rattle.topology.proofs.Choices.{IsFirst, contains_or, first_of_some}

-- a path from a unit to another, of which the units between are below n
Way : LinkLists → ℕ → ℕ → ℕ → Type 0
Way links zero u v = IsLink links u v
Way links (suc n) u v = Way links n u v ⊎ (Way links n u n × Way links n n v)

link_or : (links : LinkLists) (u v : ℕ) → IsLink links u v ⊎ (¬ IsLink links u v)
link_or links u v = elim (cases_Bool (is_instant links u)) [
  | inl i ↦ elim (cases_Bool (is_instant links v)) [
    | inl j ↦ elim (contains_or (reads_of links u) v) [
      | inl c ↦ inl (record { from = i; to = j; reads = c })
      | inr none ↦ inr (λ l. none l.reads)
    ]
    | inr j ↦ inr (λ l. false≢true (sym j ∙ l.to))
  ]
  | inr i ↦ inr (λ l. false≢true (sym i ∙ l.from))
]

way_or : (links : LinkLists) (n u v : ℕ) → Way links n u v ⊎ (¬ Way links n u v)
unfolding Way
way_or links zero u v = link_or links u v
way_or links (suc n) u v = elim (way_or links n u v) [
  | inl w ↦ inl (inl w)
  | inr around ↦ elim (way_or links n u n) [
    | inl a ↦ elim (way_or links n n v) [
      | inl b ↦ inl (inr (a, b))
      | inr without ↦ inr (λ w. elim w [ inl c ↦ around c | inr p ↦ without p.1 ])
    ]
    | inr without ↦ inr (λ w. elim w [ inl c ↦ around c | inr p ↦ without p.0 ])
  ]
]

-- paths one after another are a path
joined : (links : LinkLists) (u v w : ℕ) → Path links u v → Path links v w → Path links u w
joined links u v w (link _ _ l) q = further u v w l q
joined links u v w (further _ x _ l p) q = further u x w l (joined links x v w p q)

path_of : (links : LinkLists) (n u v : ℕ) → Way links n u v → Path links u v
unfolding Way
path_of links zero u v w = link u v w
path_of links (suc n) u v (inl w) = path_of links n u v w
path_of links (suc n) u v (inr p) = joined links u n v (path_of links n u n p.0) (path_of links n n v p.1)

-- ways to n and from it need not pass it
to_last : (links : LinkLists) (n u : ℕ) → Way links (suc n) u n → Way links n u n
unfolding Way
to_last links n u (inl w) = w
to_last links n u (inr p) = p.0

from_last : (links : LinkLists) (n v : ℕ) → Way links (suc n) n v → Way links n n v
unfolding Way
from_last links n v (inl w) = w
from_last links n v (inr p) = p.1

-- ways that meet below n are a way
abbrev Meets : LinkLists → ℕ → Type 0
Meets links n = (u w v : ℕ) → w < n → Way links n u w → Way links n w v → Way links n u v

met : (links : LinkLists) (n u w v : ℕ) → Meets links n → w < n → Way links (suc n) u w → Way links (suc n) w v →
    Way links (suc n) u v
unfolding Way
met links n u w v meets h (inl a) (inl b) = inl (meets u w v h a b)
met links n u w v meets h (inl a) (inr q) = inr (meets u w n h a q.0, q.1)
met links n u w v meets h (inr p) (inl b) = inr (p.0, meets n w v h p.1 b)
met links n u w v meets h (inr p) (inr q) = inr (p.0, q.1)

meeting : (links : LinkLists) (n : ℕ) → Meets links n
unfolding Way
meeting links zero u w v h a b = absurd (omega arith)
meeting links (suc n) u w v h a b = elim (cases_eq w n) [
  | inl e ↦ inr (
    to_last links n u (subst (λ x. Way links (suc n) u x) e a),
    from_last links n v (subst (λ x. Way links (suc n) x v) e b),
  )
  | inr ne ↦ met links n u w v (meeting links n) (omega arith) a b
]

link_way : (links : LinkLists) (n u v : ℕ) → IsLink links u v → Way links n u v
unfolding Way
link_way links zero u v l = l
link_way links (suc n) u v l = inl (link_way links n u v l)

-- each path is one between the units that there are
way_of : (links : LinkLists) (u v : ℕ) → Path links u v → Way links (length links.instant) u v
way_of links u v (link _ _ l) = link_way links (length links.instant) u v l
way_of links u v (further _ x _ l p) =
    meeting links (length links.instant) u x v (instant_there links x l.to)
    (link_way links (length links.instant) u x l)
    (way_of links x v p)

path_or : (links : LinkLists) (u v : ℕ) → Path links u v ⊎ (¬ Path links u v)
path_or links u v = elim (way_or links (length links.instant) u v) [
  | inl w ↦ inl (path_of links (length links.instant) u v w)
  | inr none ↦ inr (λ p. none (way_of links u v p))
]

-- where a unit reaches itself, one is the first that does
pub first_loop : (links : LinkLists) → HasLoop links → (u : ℕ) × IsFirstLoop links u
first_loop links loop =
    let one : (u : ℕ) × IsFirst (λ v. Path links v v) u = first_of_some _ (λ v. path_or links v v) loop.0 loop.1 in (
      one.0,
      record {
        there = instant_there links one.0 (path_to links one.0 one.0 one.1.holds);
        loops = one.1.holds;
        first = one.1.first;
      },
    )

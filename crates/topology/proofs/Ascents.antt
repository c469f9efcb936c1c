-- Ranks that rise: what they keep, where they rest, and a loop where they do not.
use Rattle.std.proofs.Common.{◌≡◌, ◌≢◌, ℕ, zero, suc, ◌*◌, ◌<◌, ◌≤◌, ◌⊎◌, true, false, sum, List, length, set}
use Rattle.std.proofs.Common.{slice_index, Contains, All, refl, sym, ap, ◌∙◌, subst, inl, inr, arith}
use Rattle.std.proofs.lemmas.Bool.{cases_eq, cases_Bool, false≢true}
use Rattle.std.proofs.lemmas.List.{get_or_default, get_or-set_same, get_or-set_other, length-set}
use Rattle.std.proofs.lemmas.List.Sums.{sum_by-le}
use Rattle.std.proofs.lemmas.Grind.{same_number_lists}
use Rattle.topology.specs.Links.{LinkLists, AreLinks, AreRanks, Path, link, further, is_instant, reads_of}
use Rattle.topology.specs.Rising.{AreRising, IsRankAt, HasLoop, Chain, greatest}
use Rattle.topology.proofs.Paths.{instant_there}
use Rattle.topology.proofs.Pigeons.{IsTwice, pigeon}
use Rattle.topology.proofs.Maxima.{value_below, greatest_rises, greatest_within, greatest_alike, greatest_is}

-- a chain begins with an instant unit
pub chain_from : (links : LinkLists) (k u : ℕ) → Chain links k u → is_instant links u ≡ true
chain_from links zero u c = c
chain_from links (suc k) u c = c.1.from

-- the units of a chain, in order
node : (links : LinkLists) (k u : ℕ) → Chain links k u → ℕ → ℕ
node links zero u c i = u
node links (suc k) u c zero = u
node links (suc k) u c (suc i) = node links k c.0 c.2 i

node_start : (links : LinkLists) (k u : ℕ) (c : Chain links k u) → node links k u c 0 ≡ u
unfolding node
node_start links zero u c = refl
node_start links (suc k) u c = refl

node_instant : (links : LinkLists) (k u : ℕ) (c : Chain links k u) (i : ℕ) → is_instant links (node links k u c i)
    ≡ true
unfolding node
node_instant links zero u c i = c
node_instant links (suc k) u c zero = c.1.from
node_instant links (suc k) u c (suc i) = node_instant links k c.0 c.2 i

node_after : (links : LinkLists) (k u : ℕ) (c : Chain links k u) (j : ℕ) → j < k →
    Path links u (node links k u c (suc j))
unfolding node
node_after links zero u c j h = absurd (omega arith)
node_after links (suc k) u c zero h = subst (λ w. Path links u w) (sym (node_start links k c.0 c.2)) (link u c.0 c.1)
node_after links (suc k) u c (suc j) h = further u c.0 (node links k c.0 c.2 (suc j)) c.1
    (node_after links k c.0 c.2 j (omega arith))

-- each reaches those after it
node_path : (links : LinkLists) (k u : ℕ) (c : Chain links k u) (i j : ℕ) → i < j → j < suc k → Path links
    (node links k u c i) (node links k u c j)
unfolding node
node_path links k u c i zero h g = absurd (omega arith)
node_path links zero u c i (suc j) h g = absurd (omega arith)
node_path links (suc k) u c zero (suc j) h g = node_after links (suc k) u c j (omega arith)
node_path links (suc k) u c (suc i) (suc j) h g = node_path links k c.0 c.2 i j (omega arith) (omega arith)

-- a chain of as many links as there are units meets one of them twice
pub loop_in : (links : LinkLists) (u : ℕ) → Chain links (length links.instant) u → HasLoop links
loop_in links u c =
    let n = length links.instant in
    let f : ℕ → ℕ = λ i. node links n u c i in
    let t : IsTwice f (suc n) = pigeon n f (λ i h. instant_there links (f i) (node_instant links n u c i)) in (
      f t.first,
      subst (λ w. Path links (f t.first) w) (sym t.same)
          (node_path links n u c t.first t.second t.before t.within),
    )

-- the greatest rank that a unit reads stands on a chain from the unit
pub chain_on : (links : LinkLists) (ranks : List ℕ) (u g : ℕ) → AreRising links ranks → is_instant links u ≡ true →
    g ≡ greatest ranks (reads_of links u) → Chain links g u
chain_on links ranks u zero h i e = i
chain_on links ranks u (suc k) h i e = elim (greatest_is (λ v. slice_index ranks v) 0 (reads_of links u)) [
  | inl z ↦ absurd (omega arith)
  | inr p ↦
      let d : Chain links k p.0 = h.chains p.0 k (sym p.2 ∙ sym e) in
      (p.0, record { from = i; to = chain_from links k p.0 d; reads = p.1 }, d)
]

-- where it is as many as there are units, there is a loop
pub endless : (links : LinkLists) (ranks : List ℕ) (u g n : ℕ) → AreRising links ranks → is_instant links u ≡ true →
    g ≡ greatest ranks (reads_of links u) → g ≡ n → n ≡ length links.instant → HasLoop links
endless links ranks u g n h i e f m =
    loop_in links u (subst (λ k. Chain links k u) (f ∙ m) (chain_on links ranks u g h i e))

-- a rank is 0 or not
zero_or : (m : ℕ) → (m ≡ 0) ⊎ ((k : ℕ) × (m ≡ suc k))
zero_or zero = inl refl
zero_or (suc k) = inr (k, refl)

pub register_rank : (links : LinkLists) (ranks : List ℕ) (u : ℕ) → AreRising links ranks → is_instant links u ≡ false →
    slice_index ranks u ≡ 0
register_rank links ranks u h e = elim (zero_or (slice_index ranks u)) [
  | inl z ↦ z
  | inr p ↦ absurd (false≢true (sym e ∙ chain_from links p.0 u (h.chains u p.0 p.1)))
]

pub register_right : (links : LinkLists) (ranks : List ℕ) (u : ℕ) → AreRising links ranks → is_instant links u ≡ false →
    IsRankAt links ranks u
register_right links ranks u h e = record {
  register = λ _. register_rank links ranks u h e;
  at_once = λ i. absurd (false≢true (sym e ∙ i));
}

-- the greatest that a unit reads is at most the number of units
pub greatest_few : (links : LinkLists) (ranks : List ℕ) (units : List ℕ) → AreRising links ranks →
    greatest ranks units ≤ length links.instant
greatest_few links ranks units h =
    greatest_within (λ v. slice_index ranks v) 0 (length links.instant) units (omega arith) h.few

-- a rank that is raised by what its unit reads rises on
pub raised_rise : (links : LinkLists) (ranks : List ℕ) (u g : ℕ) → AreRising links ranks → u < length links.instant →
    is_instant links u ≡ true →
    g ≡ greatest ranks (reads_of links u) → g ≢ length links.instant → AreRising links (set ranks u (suc g))
raised_rise links ranks u g h l i e ne =
    let new = set ranks u (suc g) in
    let same : (v : ℕ) → v ≡ u → slice_index new v ≡ suc g = λ v s. ap (λ w. slice_index new w) s
    ∙ get_or-set_same ranks u
    (suc g) 0 (omega (arith, h.counted)) in
    let other : (v : ℕ) → v ≢ u → slice_index new v ≡ slice_index ranks v =
    λ v s. get_or-set_other ranks u v (suc g) 0 s in
    let up : (v : ℕ) → slice_index ranks v ≤ slice_index new v
    = λ v. elim (cases_eq v u) [
      | inl s ↦ let b : slice_index ranks v ≤ suc g = subst (λ w. slice_index ranks w ≤ suc g) (sym s)
          (omega (arith, h.below u i)) in omega (arith, same v s)
      | inr s ↦ omega (arith, other v s)
    ] in
    let more : (v : ℕ) → greatest ranks (reads_of links v) ≤ greatest new (reads_of links v)
    = λ v. greatest_rises (λ w. slice_index ranks w) (λ w. slice_index new w) 0 0 (reads_of links v) (omega arith) up in
    let m : g ≤ length links.instant = omega (arith, greatest_few links ranks (reads_of links u) h) in
    record {
      counted = length-set ranks u (suc g) ∙ h.counted;
      few = λ v. elim (cases_eq v u) [ inl s ↦ omega (arith, same v s) | inr s ↦ omega (arith, other v s, h.few v) ];
      below = λ v j. elim (cases_eq v u) [
        | inl s ↦ let b : g ≤ greatest new (reads_of links v) = subst (λ w. g ≤ greatest new (reads_of links w)) (sym s)
            (omega (arith, more u)) in omega (arith, same v s)
        | inr s ↦ omega (arith, other v s, more v, h.below v j)
      ];
      chains = λ v k q. elim (cases_eq v u) [
        | inl s ↦ subst (λ w. Chain links k w) (sym s)
            (chain_on links ranks u k h i (let t : suc g ≡ suc k = sym (same v s) ∙ q in omega arith))
        | inr s ↦ h.chains v k (sym (other v s) ∙ q)
      ];
    }

pub few_ranks : (links : LinkLists) (ranks : List ℕ) → AreRising links ranks →
    All (λ rank. rank ≤ length links.instant) ranks
few_ranks links ranks h = λ k d l. subst (λ r. r ≤ length links.instant) (get_or_default ranks k 0 d l) (h.few k)

-- the sum has a limit
pub sum_within : (links : LinkLists) (ranks : List ℕ) → AreRising links ranks →
    sum ranks ≤ length links.instant * length links.instant
sum_within links ranks h =
    subst (λ n. sum ranks ≤ n * length links.instant) h.counted
    (sum_by-le (λ x. x) (length links.instant) ranks (few_ranks links ranks h))

pub all_right : (links : LinkLists) (ranks : List ℕ) → length ranks ≡ length links.instant →
    ((u : ℕ) → u < length links.instant → IsRankAt links ranks u) → AreRanks links ranks
all_right links ranks c h = record {
  counted = c;
  registers = λ u l e. (h u l).register e;
  instants = λ u l e. (h u l).at_once e;
}

-- a unit that is read by an instant unit has a lesser rank
pub read_below : (links : LinkLists) (ranks : List ℕ) (u v : ℕ) → AreRanks links ranks → is_instant links u ≡ true →
    Contains (reads_of links u) v → slice_index ranks v < slice_index ranks u
read_below links ranks u v h i c =
    omega (
      arith,
      h.instants u (instant_there links u i) i,
      value_below (λ w. slice_index ranks w) 0 (reads_of links u) v c,
    )

pub path_below : (links : LinkLists) (ranks : List ℕ) (u v : ℕ) → AreRanks links ranks → Path links u v →
    slice_index ranks v < slice_index ranks u
path_below links ranks u v h (link _ _ l) = read_below links ranks u v h l.from l.reads
path_below links ranks u v h (further _ w _ l p) = omega
    (arith, path_below links ranks w v h p, read_below links ranks u w h l.from l.reads)

-- ranked units reach themselves nowhere
pub no_loop : (links : LinkLists) (ranks : List ℕ) → AreRanks links ranks → (u : ℕ) → ¬ Path links u u
no_loop links ranks h u p = let b : slice_index ranks u < slice_index ranks u = path_below links ranks u u h p in absurd
    (omega arith)

-- two rankings agree at each unit whose first rank is below r
agree : (links : LinkLists) (ranks others : List ℕ) → AreLinks links → AreRanks links ranks → AreRanks links others →
    (r u : ℕ) → slice_index ranks u < r → u < length links.instant → slice_index ranks u ≡ slice_index others u
agree links ranks others a h g zero u b l = absurd (omega arith)
agree links ranks others a h g (suc r) u b l = elim (cases_Bool (is_instant links u)) [
  | inl i ↦
      h.instants u l i
      ∙ ap suc (greatest_alike (λ v. slice_index ranks v) (λ v. slice_index others v) 0 (reads_of links u)
      (λ v c. agree links ranks others a h g r v (omega (arith, read_below links ranks u v h i c)) (a.there u v l c)))
      ∙ sym (g.instants u l i)
  | inr i ↦ h.registers u l i ∙ sym (g.registers u l i)
]

pub unique : (links : LinkLists) (ranks others : List ℕ) → AreLinks links → AreRanks links ranks →
    AreRanks links others →
    ranks ≡ others
unique links ranks others a h g =
    same_number_lists ranks others (h.counted ∙ sym g.counted)
    (λ u l. agree links ranks others a h g (suc (slice_index ranks u)) u (omega arith) (omega (arith, h.counted)))

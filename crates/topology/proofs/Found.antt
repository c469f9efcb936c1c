-- Ranks are those that are found by looking back, and where these are none a unit reaches itself.
use Rattle.std.proofs.Common.{◌≡◌, ℕ, zero, suc, ◌<◌, ◌≤◌, ◌⊎◌, false, List, length, slice_index, refl, sym, ap, ◌∙◌}
use Rattle.std.proofs.Common.{inl, inr, arith}
use Rattle.std.proofs.lemmas.Bool.{cases_Bool, cases_lt}
use Rattle.std.proofs.lemmas.List.{get_or_past}
use Rattle.std.proofs.lemmas.List.FromFn.{fill_by_all, length-map-range_with_len, get_or-map-range_with_len}
use Rattle.topology.specs.Links.{LinkLists, AreLinks, AreRanks, IsFirstLoop, is_instant, reads_of}
use Rattle.topology.specs.Ranked.{rank_within, ranks_in}
use Rattle.topology.specs.Rising.{Chain}
use Rattle.topology.proofs.Maxima.{greatest_alike}
use Rattle.topology.proofs.Ascents.{chain_from, loop_in, read_below}
use Rattle.topology.proofs.Choices.{all_or_one, below_or_one}
use Rattle.topology.proofs.Ways.{first_loop}

-- a unit's rank is found by looking back as far as it is, or further
found : (links : LinkLists) (ranks : List ℕ) → AreLinks links → AreRanks links ranks → (n u : ℕ) →
    u < length links.instant → slice_index ranks u ≤ n →
    slice_index ranks u ≡ rank_within links n u
found links ranks a h zero u l b = omega arith
found links ranks a h (suc n) u l b = elim (cases_Bool (is_instant links u)) [
  | inl i ↦
      rw i
      (h.instants u l i
      ∙ ap suc (greatest_alike (λ v. slice_index ranks v) (rank_within links n) 0 (reads_of links u)
      (λ v c. found links ranks a h n v (a.there u v l c) (omega (arith, read_below links ranks u v h i c)))))
  | inr i ↦ rw i (h.registers u l i)
]

pub all-found : (links : LinkLists) (ranks : List ℕ) → AreLinks links → AreRanks links ranks →
    ((u : ℕ) → slice_index ranks u ≤ length links.instant) → ranks ≡ ranks_in links
unfolding ranks_in
all-found links ranks a h few =
    fill_by_all (rank_within links (length links.instant)) ranks (length links.instant) 0 h.counted
    (λ u l. found links ranks a h (length links.instant) u l (few u))

-- a rank that rises where one more step back is looked at stands on a chain of as many links as there were steps
settled_or_chain : (links : LinkLists) (n u : ℕ) →
    (rank_within links (suc n) u ≡ rank_within links n u) ⊎ Chain links n u
settled_or_chain links zero u = elim (cases_Bool (is_instant links u)) [ inl i ↦ inr i | inr i ↦ inl (rw i refl) ]
settled_or_chain links (suc n) u = elim (cases_Bool (is_instant links u)) [
  | inl i ↦ elim (all_or_one (λ v. rank_within links (suc n) v ≡ rank_within links n v) (Chain links n)
      (settled_or_chain links n) (reads_of links u)) [
        | inl same ↦ inl (rw i (ap suc
            (greatest_alike (rank_within links (suc n)) (rank_within links n) 0 (reads_of links u) same)))
        | inr one ↦ inr (one.0, record { from = i; to = chain_from links n one.0 one.2; reads = one.1 }, one.2)
      ]
  | inr i ↦ inl (rw i refl)
]

register_within : (links : LinkLists) (n u : ℕ) → is_instant links u ≡ false → rank_within links n u ≡ 0
register_within links zero u i = refl
register_within links (suc n) u i = rw i refl

rank_in : (links : LinkLists) (u : ℕ) → slice_index (ranks_in links) u ≡ rank_within links (length links.instant) u
unfolding ranks_in
rank_in links u =
    let n = length links.instant in
    elim (cases_lt u n) [
      | inl h ↦ get_or-map-range_with_len (rank_within links n) 0 n u u 0 h (omega arith)
      | inr h ↦
          get_or_past (ranks_in links) u 0 (omega (arith, length-map-range_with_len (rank_within links n) 0 n))
          ∙ sym (register_within links n u (get_or_past links.instant u false h))
    ]

-- where no rank rises any more, they are the ranks
settled_ranks : (links : LinkLists) →
    ((u : ℕ) → u < length links.instant →
    rank_within links (suc (length links.instant)) u ≡ rank_within links (length links.instant) u) →
    AreRanks links (ranks_in links)
unfolding ranks_in
settled_ranks links settled = record {
  counted = length-map-range_with_len (rank_within links (length links.instant)) 0 (length links.instant);
  registers = λ u h i. rank_in links u ∙ register_within links (length links.instant) u i;
  instants = λ u h i.
      rank_in links u ∙ sym (settled u h)
      ∙ rw i (ap suc (greatest_alike (rank_within links (length links.instant)) (λ v. slice_index (ranks_in links) v) 0
      (reads_of links u)
      (λ v c. sym (rank_in links v))));
}

pub ranks-or-first_loop : (links : LinkLists) → AreRanks links (ranks_in links) ⊎ ((u : ℕ) × IsFirstLoop links u)
ranks-or-first_loop links =
    let n = length links.instant in
    elim (below_or_one (λ u. rank_within links (suc n) u ≡ rank_within links n u) (Chain links n)
    (settled_or_chain links n) n) [
      | inl settled ↦ inl (settled_ranks links settled)
      | inr one ↦ inr (first_loop links (loop_in links one.0 one.2))
    ]

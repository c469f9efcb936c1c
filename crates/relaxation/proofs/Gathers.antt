-- A gathered list holds of each stream its made versions in order.
use Rattle.std.proofs.Common.{◌≡◌, ⊎_elim, ◌==◌, ℕ, zero, suc, ◌+◌, ◌<◌, ◌≤◌, Bool, true, false, List, [], ◌∷◌, ◌++◌, length, map, drop, filter, flat_map, refl, sym, ap, ap₂, ◌∙◌, subst, append-nil, eq-eqb, ne_eqb, add-one, eq-or-lt_of_le, arith}
use Rattle.std.specs.List.{range_with_len}
use Rattle.std.proofs.lemmas.List.Elements.{filter-append}
use Rattle.relaxation.specs.History.{Version, History, no_version, history_of, IsHistory}
use Rattle.relaxation.specs.Gathered.{Made, made_of, all_made, IsInOrder, IsGathered}
use Rattle.relaxation.proofs.Reorders.{Reorders, reordered, reorders-filter}
use Rattle.relaxation.proofs.Ordered.{NoneBelow, IsRising, IsStrict, below-less, one_order, rising-filter, strict-neighbours, strict-map}

-- whether a made version is the stream's
abbrev pub is_of : ℕ → Made → Bool
is_of s m = m.stream == s

-- its stamp
abbrev pub stamp_of : Made → ℕ
stamp_of m = m.version.stamp

-- a version as one that was made of the stream
abbrev pub made_as : ℕ → Version → Made
made_as s v = record { stream = s; version = v }

-- a stream keeps its own versions and none of another's
keeps_own : (s q : ℕ) (vs : History) → (q == s) ≡ true → filter (is_of s) (map (made_as q) vs) ≡ map (made_as q) vs
keeps_own s q [] e = refl
keeps_own s q (v ∷ vs) e = rw e (ap (λ l. made_as q v ∷ l) (keeps_own s q vs e))

-- of another stream none passes
drops_other : (s q : ℕ) (vs : History) → (q == s) ≡ false → filter (is_of s) (map (made_as q) vs) ≡ []
drops_other s q [] e = refl
drops_other s q (v ∷ vs) e = rw e (drops_other s q vs e)

module _ (histories : List History) where
  -- so of the streams from a on
  above_none : (s a n : ℕ) → s < a → filter (is_of s) (flat_map (made_of histories) (range_with_len a n)) ≡ []
  above_none s a zero l = refl
  above_none s a (suc n) l =
      let other : (a == s) ≡ false = ne_eqb a s (omega arith) in
      filter-append (is_of s) (made_of histories a) (flat_map (made_of histories) (range_with_len (a + 1) n))
      ∙ ap₂ ◌++◌ (drops_other s a (drop 1 (history_of histories a)) other) (above_none s (a + 1) n (omega arith))

  -- the stream is one of them
  of_range : (s a n : ℕ) → a ≤ s → s < a + n → filter (is_of s) (flat_map (made_of histories) (range_with_len a n)) ≡ made_of histories s
  of_range s a zero l h = absurd (omega arith)
  of_range s a (suc n) l h = filter-append (is_of s) (made_of histories a) (flat_map (made_of histories) (range_with_len (a + 1) n))
      ∙ ⊎_elim
      (λ (e : a ≡ s). ap₂ ◌++◌ (keeps_own s a (drop 1 (history_of histories a)) (eq-eqb a s e)) (above_none s (a + 1) n (omega arith))
      ∙ append-nil (made_of histories a) ∙ ap (made_of histories) e)
      (λ (k : a < s). ap₂ ◌++◌ (drops_other s a (drop 1 (history_of histories a)) (ne_eqb a s (omega arith))) (of_range s (a + 1) n (omega arith) (omega arith)))
      (eq-or-lt_of_le l)

  -- of all made versions the stream's are its own
  of_all : (s : ℕ) → s < length histories → filter (is_of s) (all_made histories) ≡ made_of histories s
  of_all s l = of_range s 0 (length histories) (omega arith) (omega arith)

-- stamps do not fall along a list in order
head_first : (a : Made) (ms : List Made) → IsInOrder (a ∷ ms) → NoneBelow stamp_of (stamp_of a) ms
head_first a [] h = tt
head_first a (b ∷ ms) h =
    let l : stamp_of a ≤ stamp_of b = ⊎_elim (λ (k : stamp_of a < stamp_of b). omega arith) (λ k. omega (arith, k.0)) h.0 in
    (l, below-less stamp_of (stamp_of a) (stamp_of b) ms l (head_first b ms h.1))

-- the rest is in order too
rest_in_order : (a : Made) (ms : List Made) → IsInOrder (a ∷ ms) → IsInOrder ms
rest_in_order a [] h = tt
rest_in_order a (b ∷ ms) h = h.1

-- so they rise along all of it
pub in_order_rises : (ms : List Made) → IsInOrder ms → IsRising stamp_of ms
in_order_rises [] h = tt
in_order_rises (a ∷ ms) h = (head_first a ms h, in_order_rises ms (rest_in_order a ms h))

-- stamps rise strictly along what was made of a stream
later_strict : (history : History) → IsHistory history → IsStrict (λ (v : Version). v.stamp) history
later_strict history h = strict-neighbours (λ (v : Version). v.stamp) no_version history (λ k l. rw add-one at (h.later k (rw add-one l)))

-- also after the opening version
without_first : (history : History) → IsStrict (λ (v : Version). v.stamp) history → IsStrict (λ (v : Version). v.stamp) (drop 1 history)
without_first [] h = tt
without_first (v ∷ vs) h = h.1

-- which are the made ones
made_strict : (histories : List History) (s : ℕ) → IsHistory (history_of histories s) → IsStrict stamp_of (made_of histories s)
made_strict histories s h = strict-map (made_as s) (λ (v : Version). v.stamp) stamp_of (λ v. refl) (drop 1 (history_of histories s))
    (without_first (history_of histories s) (later_strict (history_of histories s) h))

-- so they are what a gathered list holds of the stream
pub gathered_streams : (histories : List History) (made : List Made) → IsGathered histories made → (s : ℕ) → s < length histories →
    IsHistory (history_of histories s) → filter (is_of s) made ≡ made_of histories s
gathered_streams histories made g s l h =
    let r : Reorders (made_of histories s) (filter (is_of s) made)
    = subst (λ ms. Reorders ms (filter (is_of s) made)) (of_all histories s l) (reorders-filter (is_of s) (reordered (all_made histories) made g.all)) in
    sym (one_order stamp_of (made_of histories s) (filter (is_of s) made) r (made_strict histories s h) (rising-filter stamp_of (is_of s) made (in_order_rises made g.order)))

-- A list that is gathered stream by stream, and then sorted.
use Rattle.std.proofs.Common.{◌≡◌, ◌⊎◌, ℕ, Bool, suc, ◌+◌, ◌<◌, ◌≤◌, false, List, [], ◌∷◌, ◌++◌, length, map, take, drop, swap, flat_map, slice_index_or, slice_set, IsPermutation, refl, sym, subst, ap, ◌∙◌, append-nil, arith}
use Rattle.std.specs.List.{range_with_len}
use Rattle.std.specs.List.Sorted.{IsSortedBy}
use Rattle.std.specs.Ordering.{nat_cmp, ordering_then, is_lt}
use Rattle.std.proofs.Math.ListN.{get_or-map}
use Rattle.std.proofs.lemmas.Bool.Decides.{nat_tests}
use Rattle.std.proofs.lemmas.List.{length-map, length-take-le, map-set, map-id, map-append, take_more, take_all, drop-append-le, append_assoc}
use Rattle.std.proofs.lemmas.List.Concat.{flat_map-append}
use Rattle.std.proofs.lemmas.List.FromFn.{map-range_with_len_more}
use Rattle.std.proofs.lemmas.List.Sorted.{IsPermutation-refl, IsPermutation-trans, IsPermutation-swap, IsPermutation-keeps}
use Rattle.std.proofs.lemmas.Simd.{map-map}
use Rattle.relaxation.specs.History.{Version, History, no_version, numbered, history_of}
use Rattle.relaxation.specs.Gathered.{Made, made_of, all_made, IsInOrder}
use Rattle.relax_core.specs.Adopting.{MadeOf}
use Rattle.workers.specs.Gathering.{answer_of, AreGathered}
use Rattle.workers.specs.Answers.{answer, answers}

-- an exchange in a map is the map of an exchange
swapped : {X Y : Type 0} (f : X → Y) (xs : List X) (i j : ℕ) → swap (map f xs) i j ≡ map f (swap xs i j)
swapped f [] i j = refl
swapped f (x ∷ xs) i j =
    let all = x ∷ xs in
    let a = slice_index_or all i x in
    let b = slice_index_or all j x in
    ap (λ y. slice_set (slice_set (map f all) i y) j (slice_index_or (map f all) i (f x))) (get_or-map f all j x)
    ∙ (ap (λ y. slice_set (slice_set (map f all) i (f b)) j y) (get_or-map f all i x)
    ∙ (ap (λ ys. slice_set ys j (f a)) (sym (map-set f all i b)) ∙ sym (map-set f (slice_set all i b) j a)))

-- a permutation of a map is the map of a permutation
lifted : {X Y : Type 0} (f : X → Y) (xs : List X) (ys : List Y) → IsPermutation (map f xs) ys → (zs : List X) × IsPermutation xs zs × (ys ≡ map f zs)
lifted f xs ys h = IsPermutation-keeps (map f xs) (λ l. (zs : List _) × IsPermutation xs zs × (l ≡ map f zs)) (xs, IsPermutation-refl xs, refl) (λ l i j p q w.
    let long : length l ≡ length w.0 = ap length w.2 ∙ length-map w.0 f in
    let first : i < length w.0 = omega arith in
    let second : j < length w.0 = omega arith in
    (swap w.0 i j, IsPermutation-trans xs w.0 (swap w.0 i j) w.1 (IsPermutation-swap w.0 (swap w.0 i j) i j first second refl), ap (λ m. swap m i j) w.2 ∙ swapped f w.0 i j)) ys h

-- by stamp, and then by stream
abbrev pub is_earlier : MadeOf → MadeOf → Bool
is_earlier a b = is_lt (ordering_then (nat_cmp a.stamp b.stamp) (nat_cmp a.stream b.stream))

-- a pair of numbers that is not before another
pair-after : (s t p q : ℕ) → is_lt (ordering_then (nat_cmp t s) (nat_cmp q p)) ≡ false → (s < t) ⊎ ((s ≡ t) × (p ≤ q))
pair-after s t p q h = grind (arith, nat_tests)

-- neighbours that do not stand the other way round are in order
in-order : (ms : List Made) → IsSortedBy is_earlier (map answer_of ms) → IsInOrder ms
in-order [] h = tt
in-order (a ∷ []) h = tt
in-order (a ∷ b ∷ ms) h = (
  pair-after a.version.stamp b.version.stamp a.stream b.stream (h 0 (answer_of a) (omega arith) (omega arith)),
  in-order (b ∷ ms) (λ k d l m. let e : suc k + 1 ≡ suc (k + 1) = omega arith in subst
      (λ i. is_earlier (slice_index_or (map answer_of (a ∷ b ∷ ms)) i d) (slice_index_or (map answer_of (b ∷ ms)) k d) ≡ false)
      e (h (suc k) d (omega arith) (omega arith))),
)

-- what is sorted of all that was made is gathered
pub gathered_is : (histories : List History) (before after : List MadeOf) → before ≡ map answer_of (all_made histories) → IsPermutation before after → IsSortedBy is_earlier after →
    AreGathered histories after
gathered_is histories before after is moved sorted =
    let w = lifted answer_of (all_made histories) after (subst (λ l. IsPermutation l after) is moved) in
    (w.0, record { all = w.1; order = in-order w.0 (subst (IsSortedBy is_earlier) w.2 sorted) }, w.2)

-- one more number
range-more : (n : ℕ) → range_with_len 0 (n + 1) ≡ range_with_len 0 n ++ n ∷ []
range-more n = sym (map-id (range_with_len 0 (n + 1))) ∙ (map-range_with_len_more (λ i. i) 0 n n (omega arith) ∙ ap (λ l. l ++ n ∷ []) (map-id (range_with_len 0 n)))

-- one more stream
pub streams_more : (histories : List History) (s : ℕ) (history : History) (old new : List MadeOf) → history ≡ history_of histories s →
    old ≡ map answer_of (flat_map (made_of histories) (range_with_len 0 s)) → new ≡ old ++ answers s history →
    new ≡ map answer_of (flat_map (made_of histories) (range_with_len 0 (s + 1)))
streams_more histories s history old new h was more =
    let one : answers s history ≡ map answer_of (made_of histories s) =
    ap (answers s) h ∙ sym (map-map answer_of (λ (v : Version). record { stream = s; version = v }) (drop 1 (history_of histories s))) in
    let all : flat_map (made_of histories) (range_with_len 0 (s + 1)) ≡ flat_map (made_of histories) (range_with_len 0 s) ++ made_of histories s =
    ap (flat_map (made_of histories)) (range-more s)
    ∙ (flat_map-append (made_of histories) (range_with_len 0 s) (s ∷ []) ∙ ap (λ l. flat_map (made_of histories) (range_with_len 0 s) ++ l) (append-nil (made_of histories s))) in
    more ∙ (ap (λ l. l ++ answers s history) was ∙ (ap (λ l. map answer_of (flat_map (made_of histories) (range_with_len 0 s)) ++ l) one
    ∙ (sym (map-append answer_of (flat_map (made_of histories) (range_with_len 0 s)) (made_of histories s)) ∙ ap (map answer_of) (sym all))))

-- none of a stream at first
pub answers_none : (s : ℕ) (history : History) (old : List MadeOf) → old ≡ old ++ answers s (take 1 history)
answers_none s [] old = sym (append-nil old)
answers_none s (version ∷ rest) old = sym (append-nil old)

-- one more version of it
pub answers_more : (s k : ℕ) (history : History) (made : MadeOf) (old now new : List MadeOf) → 0 < k → k < length history → made ≡ answer s (numbered history k) →
    now ≡ old ++ answers s (take k history) → new ≡ now ++ made ∷ [] → new ≡ old ++ answers s (take (k + 1) history)
answers_more s k history made old now new some h is was more =
    let there : 1 ≤ length (take k history) = rw (length-take-le k history (omega arith)) some in
    let one : answers s (take (k + 1) history) ≡ answers s (take k history) ++ made ∷ [] =
    ap (answers s) (take_more history k no_version h)
    ∙ (ap (map (answer s)) (drop-append-le 1 (take k history) (numbered history k ∷ []) there)
    ∙ (map-append (answer s) (drop 1 (take k history)) (numbered history k ∷ []) ∙ ap (λ m. answers s (take k history) ++ m ∷ []) (sym is))) in
    more ∙ (ap (λ l. l ++ made ∷ []) was ∙ (append_assoc old (answers s (take k history)) (made ∷ []) ∙ ap (λ l. old ++ l) (sym one)))

-- all of them at the end
pub answers_all : (s k : ℕ) (history : History) (old now : List MadeOf) → length history ≤ k → now ≡ old ++ answers s (take k history) → now ≡ old ++ answers s history
answers_all s k history old now h was = was ∙ ap (λ l. old ++ answers s l) (take_all k history h)

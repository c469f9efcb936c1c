-- A search for what a unit reaches: what each step keeps, and what is known at its end.
use Rattle.std.proofs.Common.{◌≡◌, ℕ, ◌+◌, ◌<◌, ◌⊎◌, Bool, true, false, not, cond, count_by, List, [], ◌∷◌, ◌++◌}
use Rattle.std.proofs.Common.{length, replicate, set, slice_index_or, Contains, sym, ◌∙◌, subst, inl, inr, arith}
use Rattle.std.proofs.lemmas.Bool.{cases_lt, cases_eq, false≢true}
use Rattle.std.proofs.lemmas.List.{get_or_past, get_or-set_same, get_or-set_other, get_or-replicate, length-set}
use Rattle.std.proofs.lemmas.List.{length-replicate, length_push}
use Rattle.std.proofs.lemmas.List.Sums.{sum_by-set}
use Rattle.std.proofs.lemmas.List.Elements.{Contains-append_left, Contains-push, Contains-push_cases}
use Rattle.topology.specs.Links.{LinkLists, IsLink, Path, link, further, is_instant, reads_of}
use Rattle.topology.specs.Reaching.{Reaches, IsMarked, work}
use Rattle.topology.proofs.Paths.{path_to, path_link, along}

-- nothing is marked at first
pub none_marked : (n u : ℕ) → ¬ IsMarked (replicate n false) u
none_marked n u m = elim (cases_lt u n) [
  | inl h ↦ false≢true (sym (get_or-replicate n u false false h) ∙ m)
  | inr h ↦ false≢true (sym (get_or_past (replicate n false) u false (omega (arith, length-replicate n false))) ∙ m)
]

marked_now : (reached : List Bool) (y : ℕ) → y < length reached → IsMarked (set reached y true) y
marked_now reached y h = get_or-set_same reached y true false h

marked_still : (reached : List Bool) (y v : ℕ) → y < length reached → IsMarked reached v →
    IsMarked (set reached y true) v
marked_still reached y v h m = elim (cases_eq v y) [
  | inl e ↦ subst (IsMarked (set reached y true)) (sym e) (marked_now reached y h)
  | inr ne ↦ get_or-set_other reached y v true false ne ∙ m
]

-- a unit that is not instant, or is marked, is passed over
pub reaches_skip : (links : LinkLists) (seen : List ℕ) (before after : List Bool) (waited waiting : List ℕ) (y : ℕ) →
    Reaches links seen before after waited waiting → (is_instant links y ≡ true → IsMarked after y) →
    Reaches links (seen ++ y ∷ []) before after waited waiting
reaches_skip links seen before after waited waiting y r s = record {
  counted = r.counted;
  kept = r.kept;
  still = r.still;
  marked = λ v i c. elim (Contains-push_cases seen y v c) [
    | inl d ↦ r.marked v i d
    | inr e ↦ subst (IsMarked after) e (s (subst (λ w. is_instant links w ≡ true) (sym e) i))
  ];
  cause = λ v m. elim (r.cause v m) [
    | inl b ↦ inl b
    | inr p ↦ inr (p.0, Contains-append_left seen (y ∷ []) v p.1, p.2)
  ];
  right = r.right;
}

-- another is marked, and waits
pub reaches_mark : (links : LinkLists) (seen : List ℕ) (before after : List Bool) (waited waiting : List ℕ) (y : ℕ) →
    Reaches links seen before after waited waiting → is_instant links y ≡ true → y < length after →
    Reaches links (seen ++ y ∷ []) before (set after y true) waited (waiting ++ y ∷ [])
reaches_mark links seen before after waited waiting y r i h = record {
  counted = length-set after y true ∙ r.counted;
  kept = λ v m. marked_still after y v h (r.kept v m);
  still = λ v c. Contains-append_left waiting (y ∷ []) v (r.still v c);
  marked = λ v j c. elim (Contains-push_cases seen y v c) [
    | inl d ↦ marked_still after y v h (r.marked v j d)
    | inr e ↦ subst (IsMarked (set after y true)) e (marked_now after y h)
  ];
  cause = λ v m. elim (cases_eq v y) [
    | inl e ↦ inr (
      subst (λ w. is_instant links w ≡ true) (sym e) i,
      subst (Contains (seen ++ y ∷ [])) (sym e) (Contains-push seen y),
      subst (Contains (waiting ++ y ∷ [])) (sym e) (Contains-push waiting y),
    )
    | inr ne ↦ elim (r.cause v (sym (get_or-set_other after y v true false ne) ∙ m)) [
      | inl b ↦ inl b
      | inr p ↦ inr (p.0, Contains-append_left seen (y ∷ []) v p.1, Contains-append_left waiting (y ∷ []) v p.2)
    ]
  ];
  right = λ v c. elim (Contains-push_cases waiting y v c) [
    | inl d ↦ elim (r.right v d) [ inl b ↦ inl b | inr m ↦ inr (marked_still after y v h m) ]
    | inr e ↦ inr (subst (IsMarked (set after y true)) e (marked_now after y h))
  ];
}

-- the work stays as it was
pub work_mark : (reached : List Bool) (waiting : List ℕ) (y : ℕ) → y < length reached →
    slice_index_or reached y false ≡ false →
    work (set reached y true) (waiting ++ y ∷ []) ≡ work reached waiting
work_mark reached waiting y h e =
    let m : count_by not (set reached y true) + 1 ≡ count_by not reached + 0
    = subst (λ b. count_by not (set reached y true) + cond (not b) 1 0 ≡ count_by not reached + 0) e
    (sum_by-set (λ b. cond (not b) 1 0) reached y true false h) in
    omega (arith, length_push waiting y)

-- one more unit of the list was looked at
pub record Looked (links : LinkLists) (seen : List ℕ) (before after : List Bool) (waited waiting : List ℕ) : Type 0
  where
    pub reaches : Reaches links seen before after waited waiting
    pub work : work after waiting ≡ work before waited

pub looked_skip : (links : LinkLists) (seen now : List ℕ) (before after last : List Bool)
    (waited waiting still : List ℕ)
    (y : ℕ) →
    Looked links seen before after waited waiting → now ≡ seen ++ y ∷ [] → last ≡ after → still ≡ waiting →
    (is_instant links y ≡ true → IsMarked after y) → Looked links now before last waited still
looked_skip links seen now before after last waited waiting still y k e f g s =
    rw (e, f, g) (record { reaches = reaches_skip links seen before after waited waiting y k.reaches s; work = k.work })

pub looked_mark : (links : LinkLists) (seen now : List ℕ) (before after last : List Bool)
    (waited waiting more : List ℕ) (y : ℕ) →
    Looked links seen before after waited waiting → now ≡ seen ++ y ∷ [] → last ≡ set after y true →
    more ≡ waiting ++ y ∷ [] →
    is_instant links y ≡ true → y < length after → slice_index_or after y false ≡ false →
    Looked links now before last waited more
looked_mark links seen now before after last waited waiting more y k e f g i h u =
    rw (e, f, g) (record {
      reaches = reaches_mark links seen before after waited waiting y k.reaches i h;
      work = work_mark after waiting y h u ∙ k.work;
    })

-- what a search knows
pub record IsSearch (links : LinkLists) (unit : ℕ) (reached : List Bool) (waiting : List ℕ) : Type 0 where
  pub counted : length reached ≡ length links.instant
  pub real : (v : ℕ) → IsMarked reached v → Path links unit v
  pub first : (v : ℕ) → IsLink links unit v → IsMarked reached v
  pub right : (v : ℕ) → Contains waiting v → IsMarked reached v
  pub closed : (v w : ℕ) → IsMarked reached v → IsLink links v w → Contains waiting v ⊎ IsMarked reached w

pub search_first : (links : LinkLists) (unit n : ℕ) (reached : List Bool) (waiting : List ℕ) →
    n ≡ length links.instant →
    is_instant links unit ≡ true →
    Reaches links (reads_of links unit) (replicate n false) reached [] waiting → IsSearch links unit reached waiting
search_first links unit n reached waiting e i r = record {
  counted = r.counted ∙ length-replicate n false ∙ e;
  real = λ v m. elim (r.cause v m) [
    | inl b ↦ absurd (none_marked n v b)
    | inr p ↦ link unit v (record { from = i; to = p.0; reads = p.1 })
  ];
  first = λ v l. r.marked v l.to l.reads;
  right = λ v c. elim (r.right v c) [ inl b ↦ absurd (omega (arith, b.1)) | inr m ↦ m ];
  closed = λ v w m l. elim (r.cause v m) [
    | inl b ↦ absurd (none_marked n v b)
    | inr p ↦ inl p.2
  ];
}

-- a unit that waited was looked from
pub search_next : (links : LinkLists) (unit next : ℕ) (before after : List Bool) (waited waiting : List ℕ) →
    IsSearch links unit before (waited ++ next ∷ []) → Reaches links (reads_of links next) before after waited waiting →
    IsSearch links unit after waiting
search_next links unit next before after waited waiting s r =
    let to_next : Path links unit next = s.real next (s.right next (Contains-push waited next)) in
    record {
      counted = r.counted ∙ s.counted;
      real = λ v m. elim (r.cause v m) [
        | inl b ↦ s.real v b
        | inr p ↦ path_link links unit next v to_next
            (record { from = path_to links unit next to_next; to = p.0; reads = p.1 })
      ];
      first = λ v l. r.kept v (s.first v l);
      right = λ v c. elim (r.right v c) [
        | inl b ↦ r.kept v (s.right v (Contains-append_left waited (next ∷ []) v b))
        | inr m ↦ m
      ];
      closed = λ v w m l. elim (r.cause v m) [
        | inl b ↦ elim (s.closed v w b l) [
          | inl c ↦ elim (Contains-push_cases waited next v c) [
            | inl d ↦ inl (r.still v d)
            | inr e ↦ inr (r.marked w l.to (subst (λ x. Contains (reads_of links x) w) (sym e) l.reads))
          ]
          | inr k ↦ inr (r.kept w k)
        ]
        | inr p ↦ inl p.2
      ];
    }

reached_end : (links : LinkLists) (unit : ℕ) (reached : List Bool) → IsSearch links unit reached [] →
    ((a b : ℕ) → IsMarked reached a → IsLink links a b → IsMarked reached b) → (v : ℕ) → Path links unit v →
    IsMarked reached v
reached_end links unit reached s step v (link _ _ l) = s.first v l
reached_end links unit reached s step v (further _ x _ l p) = along links (IsMarked reached) step x v p (s.first x l)

-- where nothing waits, all that is reached is marked
pub search_end : (links : LinkLists) (unit : ℕ) (reached : List Bool) → IsSearch links unit reached [] → (v : ℕ) →
    Path links unit v → IsMarked reached v
search_end links unit reached s v p =
    let step : (a b : ℕ) → IsMarked reached a → IsLink links a b → IsMarked reached b
    = λ a b m l. elim (s.closed a b m l) [ inl c ↦ absurd (omega (arith, c.1)) | inr k ↦ k ] in
    reached_end links unit reached s step v p

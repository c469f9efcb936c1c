-- The units show themselves one after another, in the order of their ranks.
use Rattle.std.proofs.Common.{ℕ, List, ap, ◌∙◌, ◌≡◌, length, sym, subst, refl, ◌<◌, arith, true, [], get_or, ◌≢◌, ◌+◌}
use Rattle.std.proofs.Common.{inl, inr, ◌≤◌, max, fold, ◌∷◌, zero, suc, map}
use Rattle.std.specs.Prelude.{Contains, slice_index, slice_index_or, if◌then◌else◌}
use Rattle.std.proofs.lemmas.Bool.{cases_eq, cases_lt, eq-eqb, ne_eqb}
use Rattle.quant.specs.Interval.{Interval, AllInside}
use Rattle.quant.specs.Rounding.{Floor}
use Rattle.quant.specs.Term.{interval}
use Rattle.flowsheet.specs.Reading.{shown, on_bands, inputs_of}
use Rattle.flowsheet.specs.Run.{run_streams}
use Rattle.flowsheet.proofs.Stages.{run-fed, run-shown}
use Rattle.flowsheet.specs.Plant as sheet
use Rattle.flowsheet.proofs.Readings.{same-kept, inputs-kept, shown-kept}
use Rattle.flowsheet.proofs.Ranks.{by_rank}
use Rattle.parts.specs.Parts.{FileParts}
use Rattle.plant_streams.specs.declared.streams.StreamSource.{StreamSource}
use Rattle.plant_streams.specs.Limits.{source_at, limits_at}
use Rattle.plant_streams.specs.declared.streams.StreamSource.TheVariants as source
use Rattle.plant_streams.specs.Streams.{streams_of}
use Rattle.topology.proofs.Maxima.{fold_start, value_at}
use Rattle.plant_units.specs.Steps.{bands_at}
use Rattle.plant_units.specs.declared.units.Unit.{Unit}
use Rattle.plant_units.specs.Units.{units_of, sheet_unit, gives_of, output_limits_of}
use Rattle.plant_units.proofs.AllKinds.{shown-inside}
use Rattle.plant.specs.Sound.{ArePartsSound, IsSource, AreInside}
use Rattle.plant.specs.Steps.{shown_at, HasShown, AreKept, run_at, shown_by, HaveShown, rank_at, IsDone, IsReady}
use Rattle.plant.specs.Steps.{greatest, AreShown}
use Rattle.plant.specs.Rows.{IsRow}
use Rattle.plant.specs.PlantOf.{plant_of, ranks_of}
use Rattle.plant.proofs.Lookups.{origin-is, streams-counted, from_feed, from_port, from, sound-at, unit-is}
use Rattle.plant.proofs.Lookups.{outputs-are, item, rank-is, units-counted}
use Rattle.plant.proofs.Stepping.{states-inside}

-- the feeds stand as they did
pub kept-after : (parts : FileParts) (n : ℕ) (states before after : List (List Interval)) → ArePartsSound parts →
    HasShown parts n states before after →
    AreKept parts before after
kept-after parts n states before after sound has = record {
  kept = λ f h.
      has.shown f (sound.feeds_counted f h)
      ∙ ap (λ (src : StreamSource). shown_at parts states before n (bands_at before f) src) (sound.feeds f h);
}

-- a row stays one
pub row-after : (parts : FileParts) (n : ℕ) (states before after : List (List Interval)) → ArePartsSound parts →
    IsRow parts (record { states = states; streams = before }) → HasShown parts n states before after →
    length after ≡ length before →
    IsRow parts (record { states = states; streams = after })
row-after parts n states before after sound row has e =
    let stays = kept-after parts n states before after sound has in
    record {
      counted = row.counted;
      streams_counted = e ∙ row.streams_counted;
      channels = λ s h. has.widths s ∙ row.channels s h;
      states = row.states;
      feeds = λ f h. subst (λ (bands : List Interval). AllInside bands (limits_at parts f)) (sym (stays.kept f h))
          (row.feeds f h);
    }

-- the streams at this tick are those of the run's first tick
run-is : (parts : FileParts) (states streams : List (List Interval)) (s : ℕ) →
    run_streams (on_bands (plant_of parts)) (plant_of parts) (bands_at states) (λ t. bands_at streams) 0 s ≡ run_at
    parts states streams s
run-is parts states streams s = refl

-- one that comes from a feed is that feed
run-feed : (parts : FileParts) (states streams : List (List Interval)) (s f : ℕ) → source_at parts s ≡ source.Feed f →
    run_at parts states streams s ≡ bands_at streams f
run-feed parts states streams s f e =
    run-fed (on_bands (plant_of parts)) (plant_of parts) (bands_at states) (λ t. bands_at streams) 0 s f
    (origin-is parts s (source.Feed f) e)

-- one that comes from a unit is what this shows
run-port : (parts : FileParts) (states streams : List (List Interval)) (s u p : ℕ) → sheet.IsRanked (plant_of parts) →
    s < length (streams_of parts) →
    source_at parts s ≡ source.Port u p → run_at parts states streams s ≡ shown_by parts states
    (run_at parts states streams) u p
run-port parts states streams s u p ranked h e =
    run-shown (on_bands (plant_of parts)) (plant_of parts) (bands_at states) (λ t. bands_at streams) ranked 0 s u p
    (omega (arith, streams-counted parts)) (origin-is parts s (source.Port u p) e)

-- what a unit shows from streams that are the same where it reads them, if it is instant
shown-same : (parts : FileParts) (states : List (List Interval)) (f g : ℕ → List Interval) (u p : ℕ) →
    ((sheet.unit_at (plant_of parts) u).instant ≡ true → (q : ℕ) →
    Contains (sheet.unit_at (plant_of parts) u).reads q → f q ≡ g q) →
    shown_by parts states f u p ≡ shown_by parts states g u p
shown-same parts states f g u p h =
    let read = same-kept (on_bands (plant_of parts)) in
    shown-kept read (sheet.unit_at (plant_of parts) u) p _ _ _ _ refl
    (λ i. inputs-kept read (sheet.unit_at (plant_of parts) u) f g (h i))

-- streams that have the same feeds give the same run
feed-kept : (parts : FileParts) (states before after : List (List Interval)) (s f : ℕ) → AreKept parts before after →
    f < length parts.feeds →
    source_at parts s ≡ source.Feed f → run_at parts states before s ≡ run_at parts states after s
feed-kept parts states before after s f same h e =
    run-feed parts states before s f e ∙ (sym (same.kept f h) ∙ sym (run-feed parts states after s f e))

feed-or-port : (parts : FileParts) (s f u p : ℕ) → sheet.origin_of (plant_of parts) s ≡ sheet.feed f →
    source_at parts s ≡ source.Port u p → ⊥
feed-or-port parts s f u p e k =
    let clash : sheet.feed f ≡ sheet.port u p = sym e ∙ origin-is parts s (source.Port u p) k in
    absurd cc

run-kept : (parts : FileParts) (states before after : List (List Interval)) → ArePartsSound parts →
    sheet.IsRanked (plant_of parts) →
    AreKept parts before after → (s : ℕ) → s < length (streams_of parts) →
    run_at parts states before s ≡ run_at parts states after s
run-kept parts states before after sound ranked same s h =
    by_rank (plant_of parts) (λ q. run_at parts states before q ≡ run_at parts states after q) ranked
    (λ q f l e. elim (from parts q sound (omega (arith, streams-counted parts))) [
      | from_feed g k m ↦ feed-kept parts states before after q g same m.1 k
      | from_port u p k m ↦ absurd (feed-or-port parts q f u p e k)
    ])
    (λ q u p l v e earlier.
    run-shown (on_bands (plant_of parts)) (plant_of parts) (bands_at states) (λ t. bands_at before) ranked 0 q u p l e
    ∙ (shown-same parts states (run_at parts states before) (run_at parts states after) u p earlier
    ∙ sym (run-shown (on_bands (plant_of parts)) (plant_of parts) (bands_at states) (λ t. bands_at after)
    ranked 0 q u p l e)))
    s (omega (arith, streams-counted parts))

-- what a unit shows is inside the limits of its stream
port-inside : (parts : FileParts) (states : List (List Interval)) (f : ℕ → List Interval) (s u p : ℕ) (x : Unit) →
    ArePartsSound parts →
    AllInside (bands_at states u) (sheet.unit_at (plant_of parts) u).state_limits → IsSource parts s (source.Port u p) →
    AllInside (shown_by parts states f u p) (limits_at parts s)
unfolding plant_of
port-inside parts states f s u p x sound inside k =
    let t = sound-at parts u x sound.units k.0 in
    let y : Unit = get_or (units_of parts) u x in
    let e = unit-is parts u x k.0 in
    let o = outputs-are parts u x k.0 in
    let l : p < length (gives_of y) = subst (λ (ns : List ℕ). p < length ns) o k.1 in
    let at : slice_index (gives_of y) p ≡ s = sym (ap (λ ns. slice_index ns p) o) ∙ k.2 in
    let limits : limits_at parts s ≡ slice_index_or (output_limits_of y) p [] =
    ap (limits_at parts) (sym at) ∙ t.limits p l in
    let shows : shown_by parts states f u p ≡ shown (interval Floor) (sheet_unit y) p (bands_at states u)
    (inputs_of (sheet_unit y) f) =
    ap (λ (v : sheet.PlantUnit). shown (interval Floor) v p (bands_at states u) (inputs_of v f)) e in
    rw (shows, limits)
    (shown-inside y p (bands_at states u) (inputs_of (sheet_unit y) f) t.sound
    (states-inside parts u x (bands_at states u) k.0 inside))

-- the run is inside the limits of all streams
pub run-inside : (parts : FileParts) (states streams : List (List Interval)) → ArePartsSound parts →
    sheet.IsRanked (plant_of parts) →
    IsRow parts (record { states = states; streams = streams }) → AreInside parts (run_at parts states streams)
run-inside parts states streams sound ranked row s h = elim (from parts s sound h) [
  | from_feed f e k ↦
      subst (λ (bands : List Interval). AllInside bands (limits_at parts s)) (sym (run-feed parts states streams s f e))
      (subst (λ (q : ℕ). AllInside (bands_at streams f) (limits_at parts q)) k.0 (row.feeds f k.1))
  | from_port u p e k ↦
      subst (λ (bands : List Interval). AllInside bands (limits_at parts s))
      (sym (run-port parts states streams s u p ranked h e))
      (port-inside parts states (run_at parts states streams) s u p (item (units_of parts) u k.0) sound
      (row.states u k.0) k)
]

-- no unit has
pub have_shown-none : (parts : FileParts) (states streams : List (List Interval)) →
    IsRow parts (record { states = states; streams = streams }) →
    HaveShown parts 0 0 states streams
have_shown-none parts states streams row = record { row = row; shown = λ s u p h e done. absurd (omega (arith, done)) }

skipped : (parts : FileParts) (r n u : ℕ) → rank_at parts n ≢ r → IsDone parts r (n + 1) u → IsDone parts r n u
skipped parts r n u ne (inl h) = inl h
skipped parts r n u ne (inr h) = elim (cases_eq u n) [
  | inl d ↦ absurd (ne (sym (ap (rank_at parts) d) ∙ h.0))
  | inr nd ↦ let l : u < n + 1 = h.1 in inr (h.0, omega (arith, nd))
]

earlier : (parts : FileParts) (r n u : ℕ) → u ≢ n → IsDone parts r (n + 1) u → IsDone parts r n u
earlier parts r n u ne (inl h) = inl h
earlier parts r n u ne (inr h) = let l : u < n + 1 = h.1 in inr (h.0, omega (arith, ne))

ranked-done : (parts : FileParts) (r u : ℕ) → u < length (units_of parts) → IsDone parts (r + 1) 0 u →
    IsDone parts r (length (units_of parts)) u
ranked-done parts r u l (inr h) = let none : u < 0 = h.1 in absurd (omega arith)
ranked-done parts r u l (inl h) = elim (cases_lt (rank_at parts u) r) [
  | inl k ↦ inl k
  | inr k ↦ inr (omega (arith, h), l)
]

port-there : (parts : FileParts) (s u p : ℕ) → ArePartsSound parts → s < length (streams_of parts) →
    source_at parts s ≡ source.Port u p → u < length (units_of parts)
port-there parts s u p sound h e = (subst (IsSource parts s) e (sound.sources s h)).0

-- a unit of another rank is left out
pub have_shown-skip : (parts : FileParts) (r n : ℕ) (states streams : List (List Interval)) → rank_at parts n ≢ r →
    HaveShown parts r n states streams →
    HaveShown parts r (n + 1) states streams
have_shown-skip parts r n states streams ne have = record {
  row = have.row;
  shown = λ s u p h e done. have.shown s u p h e (skipped parts r n u ne done);
}

-- the rank of a stream that a unit gives
rank-port : (parts : FileParts) (s u p : ℕ) → source_at parts s ≡ source.Port u p →
    sheet.rank_of (plant_of parts) s ≡ rank_at parts u
unfolding plant_of
rank-port parts s u p e = rank-is parts s (source.Port u p) e

-- what an instant unit reads has lesser rank
fold_index : (a : ℕ) (xs : List ℕ) (k : ℕ) → slice_index xs k ≤ fold max a xs
fold_index a [] k = omega arith
fold_index a (x ∷ xs) zero = let h : max a x ≤ fold max (max a x) xs = fold_start (max a x) xs in omega arith
fold_index a (x ∷ xs) (suc k) = fold_index (max a x) xs k

reads-below : (parts : FileParts) (n q : ℕ) → sheet.IsRanked (plant_of parts) → n < length (units_of parts) →
    (sheet.unit_at (plant_of parts) n).instant ≡ true → Contains (sheet.unit_at (plant_of parts) n).reads q →
    sheet.rank_of (plant_of parts) q < slice_index (plant_of parts).ranks n
reads-below parts n q ranked h i c =
    let plant = plant_of parts in
    let reads : List ℕ = (sheet.unit_at plant n).reads in
    let most : sheet.rank_of plant (slice_index_or reads c.0 q) ≤ fold max 0 (map (sheet.rank_of plant) reads) =
    value_at (sheet.rank_of plant) 0 reads c.0 q c.1 in
    let same : sheet.rank_of plant (slice_index_or reads c.0 q) ≡ sheet.rank_of plant q =
    ap (sheet.rank_of plant) c.2 in
    omega (arith, ranked.instants n (omega (arith, units-counted parts)) i)

ranks-are : (parts : FileParts) (u : ℕ) → slice_index (plant_of parts).ranks u ≡ rank_at parts u
unfolding plant_of
ranks-are parts u = refl

-- so it stands already
reads-done : (parts : FileParts) (r n q : ℕ) (states streams : List (List Interval)) → ArePartsSound parts →
    sheet.IsRanked (plant_of parts) →
    HaveShown parts r n states streams → n < length (units_of parts) → rank_at parts n ≡ r →
    (sheet.unit_at (plant_of parts) n).instant ≡ true →
    Contains (sheet.unit_at (plant_of parts) n).reads q → bands_at streams q ≡ run_at parts states streams q
reads-done parts r n q states streams sound ranked have h e i c =
    let there : q < length (streams_of parts) =
    omega (arith, ranked.reads n q (omega (arith, units-counted parts)) c, streams-counted parts) in
    let below = reads-below parts n q ranked h i c in
    elim (from parts q sound there) [
      | from_feed f k m ↦ sym (run-feed parts states streams q f k ∙ ap (bands_at streams) m.0)
      | from_port u p k m ↦
          have.shown q u p there k (inl (omega (arith, below, rank-port parts q u p k, ranks-are parts n, e)))
    ]

pub ready : (parts : FileParts) (r n : ℕ) (states streams : List (List Interval)) → ArePartsSound parts →
    sheet.IsRanked (plant_of parts) →
    HaveShown parts r n states streams → n < length (units_of parts) → rank_at parts n ≡ r → IsReady parts n streams
ready parts r n states streams sound ranked have h e = λ i. (
  run_at parts states streams,
  run-inside parts states streams sound ranked have.row,
  inputs-kept (same-kept (on_bands (plant_of parts))) (sheet.unit_at (plant_of parts) n) _ _
      (λ q c. reads-done parts r n q states streams sound ranked have h e i c),
)

-- one unit more has shown itself
pub have_shown-more : (parts : FileParts) (r n : ℕ) (states before after : List (List Interval)) →
    ArePartsSound parts → sheet.IsRanked (plant_of parts) →
    n < length (units_of parts) → rank_at parts n ≡ r → HaveShown parts r n states before →
    IsRow parts (record { states = states; streams = after }) → HasShown parts n states before after →
    HaveShown parts r (n + 1) states after
have_shown-more parts r n states before after sound ranked h e have row has =
    let same = kept-after parts n states before after sound has in
    record {
      row = row;
      shown = λ s u p l k done.
          let now : bands_at after s ≡ shown_at parts states before n (bands_at before s) (source.Port u p) =
          has.shown s l ∙ ap (shown_at parts states before n (bands_at before s)) k in
          let kept = run-kept parts states before after sound ranked same s l in
          elim (cases_eq u n) [
            | inl d ↦
                let own : (sheet.unit_at (plant_of parts) u).instant ≡ true → (q : ℕ) →
                Contains (sheet.unit_at (plant_of parts) u).reads q →
                bands_at before q ≡ run_at parts states before q = λ i q c.
                reads-done parts r n q states before sound ranked have h e
                (subst (λ (v : ℕ). (sheet.unit_at (plant_of parts) v).instant ≡ true) d i)
                (subst (λ (v : ℕ). Contains (sheet.unit_at (plant_of parts) v).reads q) d c) in
                now ∙ (ap (λ b. if b then shown_by parts states (bands_at before) u p else bands_at before s)
                (eq-eqb u n d)
                ∙ (shown-same parts states (bands_at before) (run_at parts states before) u p own
                ∙ (sym (run-port parts states before s u p ranked l k) ∙ kept)))
            | inr ne ↦
                now ∙ (ap (λ b. if b then shown_by parts states (bands_at before) u p else bands_at before s)
                (ne_eqb u n ne)
                ∙ (have.shown s u p l k (earlier parts r n u ne done) ∙ kept))
          ];
    }

-- all units of a rank have
pub have_shown-rank : (parts : FileParts) (r : ℕ) (states streams : List (List Interval)) → ArePartsSound parts →
    HaveShown parts r (length (units_of parts)) states streams → HaveShown parts (r + 1) 0 states streams
have_shown-rank parts r states streams sound have = record {
  row = have.row;
  shown = λ s u p h e done. have.shown s u p h e (ranked-done parts r u (port-there parts s u p sound h e) done);
}

-- all units have
pub are-shown : (parts : FileParts) (states before after : List (List Interval)) → ArePartsSound parts →
    sheet.IsRanked (plant_of parts) →
    AreKept parts before after → HaveShown parts (greatest (ranks_of parts) + 1) 0 states after →
    AreShown parts states before after
are-shown parts states before after sound ranked same have = record {
  row = have.row;
  shown = λ s h. elim (from parts s sound h) [
    | from_feed f e k ↦
        ap (bands_at after) (sym k.0) ∙ (same.kept f k.1 ∙ sym (run-feed parts states before s f e))
    | from_port u p e k ↦
        let most : rank_at parts u ≤ greatest (ranks_of parts) = fold_index 0 (ranks_of parts) u in
        have.shown s u p h e (inl (omega arith)) ∙ sym (run-kept parts states before after sound ranked same s h)
  ];
}

pub kept-none : (parts : FileParts) (streams : List (List Interval)) → AreKept parts streams streams
kept-none parts streams = record { kept = λ f h. refl }

pub kept-more : (parts : FileParts) (before now after : List (List Interval)) → AreKept parts before now →
    AreKept parts now after → AreKept parts before after
kept-more parts before now after a b = record { kept = λ f h. b.kept f h ∙ a.kept f h }

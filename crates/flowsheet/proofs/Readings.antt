-- Relations between lists that readings keep: what a unit shows and steps to are related where its states and inputs are.
use Rattle.std.proofs.Common.{◌≡◌, ℕ, suc, ℤ, Bool, true, false, List, [], ◌∷◌, ◌++◌, map, Contains, slice_index_or, refl, sym, ap, ◌∙◌, subst₂, arith}
use Rattle.std.specs.Prelude.{if◌then◌else◌, flat_map}
use Rattle.std.proofs.lemmas.List.{map-append}
use Rattle.quant.specs.Interval.{Interval, AllHold, AllInside, AllBands, points, point}
use Rattle.quant.specs.Rounding.{Rounding}
use Rattle.quant.specs.Term.{Term, value, interval}
use Rattle.quant.proofs.Terms.{intervals-hold, intervals-bands, intervals-inside, intervals-points}
use Rattle.flowsheet.specs.Plant.{PlantUnit}
use Rattle.flowsheet.specs.Reading.{Reader, inputs_of, shown, stepped}

-- related states and inputs are read as related lists, and related lists are joined to related ones
pub record IsKept {A B : Type 0} (read : Reader A) (other : Reader B) (R : List A → List B → Type 0) : Type 0 where
  pub none : R [] []
  pub append : (xs us : List A) (ys ws : List B) → R xs ys → R us ws → R (xs ++ us) (ys ++ ws)
  pub terms : (ts : List Term) (xs us : List A) (ys ws : List B) → R xs ys → R us ws → R (map (read xs us) ts) (map (other ys ws) ts)

module _ {A B : Type 0} {read : Reader A} {other : Reader B} {R : List A → List B → Type 0} where
  -- rows of related streams, joined
  gathered-kept : IsKept read other R → (x : ℕ → List A) (v : ℕ → List B) (reads : List ℕ) →
      ((q : ℕ) → Contains reads q → R (x q) (v q)) → R (flat_map x reads) (flat_map v reads)
  gathered-kept kept x v [] h = kept.none
  gathered-kept kept x v (s ∷ reads) h = kept.append _ _ _ _ (h s (0, omega arith, refl))
      (gathered-kept kept x v reads (λ q c. h q (suc c.0, omega arith, c.2)))

  -- the inputs of a unit, where the streams that it reads are related
  pub inputs-kept : IsKept read other R → (unit : PlantUnit) (x : ℕ → List A) (v : ℕ → List B) →
      ((q : ℕ) → Contains unit.reads q → R (x q) (v q)) → R (inputs_of unit x) (inputs_of unit v)
  inputs-kept kept unit x v h = gathered-kept kept x v unit.reads h

  -- related lists if the test is true, and none otherwise
  chosen-kept : IsKept read other R → (b : Bool) (xs : List A) (ys : List B) → (b ≡ true → R xs ys) →
      R (if b then xs else []) (if b then ys else [])
  chosen-kept kept true xs ys h = h refl
  chosen-kept kept false xs ys h = kept.none

  -- what it shows, where the states are, and the inputs of an instant unit
  pub shown-kept : IsKept read other R → (unit : PlantUnit) (p : ℕ) (xs us : List A) (ys ws : List B) →
      R xs ys → (unit.instant ≡ true → R us ws) → R (shown read unit p xs us) (shown other unit p ys ws)
  shown-kept kept unit p xs us ys ws h k = kept.terms (slice_index_or unit.view p []) _ _ _ _ h (chosen-kept kept unit.instant us ws k)

  -- what it steps to, where the states and the inputs are
  pub stepped-kept : IsKept read other R → (unit : PlantUnit) (xs us : List A) (ys ws : List B) →
      R xs ys → R us ws → R (stepped read unit xs us) (stepped other unit ys ws)
  stepped-kept kept unit xs us ys ws h k = kept.terms unit.next xs us ys ws h k

-- a relation at equal lists
pub at-equal : {A B : Type 0} (R : List A → List B → Type 0) {xs us : List A} {ys ws : List B} → xs ≡ us → ys ≡ ws → R us ws → R xs ys
at-equal R e g h = subst₂ R (sym e) (sym g) h

-- equal lists are read and joined as equal ones
abbrev pub Same : {A : Type 0} → List A → List A → Type 0
Same xs ys = xs ≡ ys

pub same-kept : {A : Type 0} (read : Reader A) → IsKept read read (Same {A = A})
same-kept read = record {
  none = refl;
  append = λ xs us ys ws h k. ap (λ zs. zs ++ us) h ∙ ap (λ zs. ys ++ zs) k;
  terms = λ ts xs us ys ws h k. ap (λ zs. map (read zs us) ts) h ∙ ap (λ zs. map (read ys zs) ts) k;
}

-- lists of bands that hold numbers, joined
holds-append : (As Cs : List Interval) (zs cs : List ℤ) → AllHold As zs → AllHold Cs cs → AllHold (As ++ Cs) (zs ++ cs)
holds-append [] Cs [] cs h k = k
holds-append [] Cs (a ∷ zs) cs h k = absurd h
holds-append (A ∷ As) Cs [] cs h k = absurd h
holds-append (A ∷ As) Cs (a ∷ zs) cs h k = (h.0, holds-append As Cs zs cs h.1 k)

-- bands that hold numbers are read as such
pub holds-kept : (r : Rounding) → IsKept (interval r) (value r) AllHold
holds-kept r = record { none = tt; append = holds-append; terms = intervals-hold r }

-- bands of one number each, and these numbers, are read as such
abbrev pub ArePointsOf : List Interval → List ℤ → Type 0
ArePointsOf As zs = As ≡ points zs

pub points-kept : (r : Rounding) → IsKept (interval r) (value r) ArePointsOf
points-kept r = record {
  none = refl;
  append = λ As Cs zs cs h k. ap (λ x. x ++ Cs) h ∙ (ap (λ x. points zs ++ x) k ∙ sym (map-append point zs cs));
  terms = λ ts As Cs zs cs h k. ap (λ x. map (interval r x Cs) ts) h ∙ (ap (λ x. map (interval r (points zs) x) ts) k ∙ intervals-points r ts zs cs);
}

-- lists of bands that have numbers in them, joined
bands-append : (As Bs : List Interval) → AllBands As → AllBands Bs → AllBands (As ++ Bs)
bands-append [] Bs h k = k
bands-append (A ∷ As) Bs h k = (h.0, bands-append As Bs h.1 k)

-- lists of bands that lie in others, joined
inside-append : (As Cs Bs Ds : List Interval) → AllInside As Bs → AllInside Cs Ds → AllInside (As ++ Cs) (Bs ++ Ds)
inside-append [] Cs [] Ds h k = k
inside-append [] Cs (B ∷ Bs) Ds h k = absurd h
inside-append (A ∷ As) Cs [] Ds h k = absurd h
inside-append (A ∷ As) Cs (B ∷ Bs) Ds h k = (h.0, inside-append As Cs Bs Ds h.1 k)

-- bands that have numbers in them, and lie in others
pub record AreBandsIn (As Bs : List Interval) : Type 0 where
  pub bands : AllBands As
  pub inside : AllInside As Bs

-- they are read as such
pub bands-kept : (r : Rounding) → IsKept (interval r) (interval r) AreBandsIn
bands-kept r = record {
  none = record { bands = tt; inside = tt };
  append = λ As Cs Bs Ds h k. record {
    bands = bands-append As Cs h.bands k.bands;
    inside = inside-append As Cs Bs Ds h.inside k.inside;
  };
  terms = λ ts As Cs Bs Ds h k. record {
    bands = intervals-bands r ts As Cs h.bands k.bands;
    inside = intervals-inside r ts As Cs Bs Ds h.bands k.bands h.inside k.inside;
  };
}

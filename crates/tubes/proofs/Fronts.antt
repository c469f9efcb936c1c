-- What is found and what is met from a place on, where the bands before it lie in the others.
use Rattle.std.proofs.Common.{◌≡◌, ℕ, zero, suc, ◌+◌, ◌-◌, ◌<◌, ◌≤◌, List, [], ◌∷◌, ◌++◌, length, take, drop, refl, sym, ap, ◌∙◌, subst, pos, arith, Bool, true, false, Option, Some, None, inl, inr, take_all, length-drop}
use Rattle.std.specs.Prelude.{not}
use Rattle.std.specs.Option.{is_some}
use Rattle.std.proofs.lemmas.Bool.{cases_lt}
use Rattle.std.proofs.lemmas.Int.{ints, clamps}
use Rattle.std.proofs.lemmas.List.{get_or-drop, take-append-drop}
use Rattle.std.proofs.lemmas.Slice.{take-put_mid}
use Rattle.std.proofs.Math.Seq.{take-length}
use borrow.Rule.Slice.PartMut.{put_mid, same_len_mid}
use Rattle.quant.proofs.Calls.{same_cons}
use Rattle.quant.proofs.Hulls.{inside-same}
use Rattle.quant.specs.Interval.{Interval, AllBands, AllInside, IsBand, IsInside, point}
use Rattle.relaxation.specs.Tube.{all_inside, meet_bands}
use Rattle.relaxation.proofs.Meets.{all_inside-yes, all_inside-test}
use Rattle.tubes.specs.Flat.{AreInsideBefore, IsFirstApart, IsFirstOutside, common, nth}
use Rattle.tubes.proofs.Cuts.{drop_meet, drop_bands}
use Rattle.tubes.proofs.Flats.{meet_at, meet_counted, each_band, band_each}

-- what a band that lies in another has in common with it is the band
wider : (A B : Interval) → IsInside A B → common A B ≡ A
wider A B h = inside-same (common A B) A
    (record { above = omega (arith, ints, clamps); below = omega (arith, ints, clamps) })
    (record { above = omega (arith, ints, clamps); below = omega (arith, ints, clamps) })

-- bands that lie in the others are left as they are
front-meet : (i : ℕ) (As Bs : List Interval) → length As ≡ length Bs → i ≤ length As → AreInsideBefore i As Bs →
    take i (meet_bands As Bs) ≡ take i As
front-meet zero As Bs e k h = refl
front-meet (suc i) [] Bs e k h = absurd (omega arith)
front-meet (suc i) (A ∷ As) [] e k h = cc
front-meet (suc i) (A ∷ As) (B ∷ Bs) e k h =
    same_cons _ _ _ _ (wider A B (h 0 (omega arith)).1)
    (front-meet i As Bs (omega arith) (omega arith) (λ j l. h (suc j) (omega arith)))

-- and keep their numbers
front-band : (i : ℕ) (As Bs : List Interval) → length As ≡ length Bs → i ≤ length As → AreInsideBefore i As Bs →
    (j : ℕ) → j < i → IsBand (nth (meet_bands As Bs) j)
front-band i As Bs e k h j l =
    subst IsBand (sym (meet_at As Bs j (omega arith) e ∙ wider _ _ (h j l).1)) (h j l).0

pub inside_numbers : (As Bs : List Interval) → length As ≡ length Bs → AreInsideBefore (length As) As Bs → AllBands (meet_bands As Bs)
inside_numbers As Bs e h = each_band _ (λ j l.
    front-band (length As) As Bs e (omega arith) h j (let c : length (meet_bands As Bs) ≡ length As = meet_counted As Bs e in omega arith))

-- the test of the lists is that of their places
all-each : (As Bs : List Interval) → length As ≡ length Bs → AreInsideBefore (length As) As Bs → AllInside As Bs
all-each [] [] e h = tt
all-each [] (B ∷ Bs) e h = cc
all-each (A ∷ As) [] e h = cc
all-each (A ∷ As) (B ∷ Bs) e h =
    ((h 0 (omega arith)).1, all-each As Bs (omega arith) (λ j l. h (suc j) (omega arith)))

each-inside : (As Bs : List Interval) (i : ℕ) → i < length As → AllInside As Bs → IsInside (nth As i) (nth Bs i)
each-inside [] Bs i l h = absurd (omega arith)
each-inside (A ∷ As) [] i l h = absurd h
each-inside (A ∷ As) (B ∷ Bs) zero l h = h.0
each-inside (A ∷ As) (B ∷ Bs) (suc i) l h = each-inside As Bs i (omega arith) h.1

not-true : (b : Bool) → (b ≡ true → ⊥) → b ≡ false
not-true true h = absurd (h refl)
not-true false h = refl

pub inside_yes : (As Bs : List Interval) → length As ≡ length Bs → AreInsideBefore (length As) As Bs → all_inside As Bs ≡ true
inside_yes As Bs e h = all_inside-test As Bs (all-each As Bs e h)

pub outside_no : (As Bs : List Interval) (i : ℕ) → IsFirstOutside (Some i) As Bs → all_inside As Bs ≡ false
outside_no As Bs i h = not-true _ (λ yes. h.1 (each-inside As Bs i h.0 (all_inside-yes As Bs yes)))

pub none_is_inside : (b : Bool) (r : Option ℕ) (As Bs : List Interval) → is_some r ≡ not b → length As ≡ length Bs →
    IsFirstOutside r As Bs → b ≡ all_inside As Bs
none_is_inside true None As Bs n e h = sym (inside_yes As Bs e h)
none_is_inside true (Some i) As Bs n e h = cc
none_is_inside false None As Bs n e h = cc
none_is_inside false (Some i) As Bs n e h = sym (outside_no As Bs i h)

module _ (s : ℕ) (As Bs : List Interval) (e : length As ≡ length Bs) (inside : s ≤ length As) (h : AreInsideBefore s As Bs) where
  -- the meet of the rests is the rest of the meet
  rest : (xs : List Interval) → take (length xs - s) (drop s xs) ≡ drop s xs
  rest xs = take_all (length xs - s) (drop s xs) (omega (arith, length-drop s xs))

  pub rest_meet : meet_bands (take (length As - s) (drop s As)) (take (length Bs - s) (drop s Bs)) ≡ drop s (meet_bands As Bs)
  rest_meet =
      ap (λ xs. meet_bands xs (take (length Bs - s) (drop s Bs))) (rest As)
      ∙ (ap (meet_bands (drop s As)) (rest Bs) ∙ sym (drop_meet s As Bs))

  later : (j : ℕ) → nth (drop s (meet_bands As Bs)) j ≡ nth (meet_bands As Bs) (s + j)
  later j = get_or-drop s (meet_bands As Bs) j (point (pos 0))

  -- a place is before the rest, or in it
  band-at : (j : ℕ) → (s ≤ j → IsBand (nth (drop s (meet_bands As Bs)) (j - s))) → IsBand (nth (meet_bands As Bs) j)
  band-at j known = elim (cases_lt j s) [
    | inl lt ↦ front-band s As Bs e inside h j lt
    | inr ge ↦ (let same : s + (j - s) ≡ j = omega arith in
        subst (λ k. IsBand (nth (meet_bands As Bs) k)) same (subst IsBand (later (j - s)) (known (omega arith))))
  ]

  counted : length (drop s (meet_bands As Bs)) ≡ length As - s
  counted = length-drop s (meet_bands As Bs) ∙ ap (λ k. k - s) (meet_counted As Bs e)

  rest-counted : length (take (length As - s) (drop s As)) ≡ length As - s
  rest-counted = ap length (rest As) ∙ length-drop s As

  -- the first place of the rests is the first place
  pub none_from : IsFirstApart None (take (length As - s) (drop s As)) (take (length Bs - s) (drop s Bs)) → IsFirstApart None As Bs
  none_from all = each_band _ (λ j l. band-at j (λ ge. band_each (drop s (meet_bands As Bs)) (j - s)
      (subst AllBands rest_meet all) (omega (arith, counted, meet_counted As Bs e))))

  pub first_from : (i : ℕ) → IsFirstApart (Some i) (take (length As - s) (drop s As)) (take (length Bs - s) (drop s Bs)) →
      IsFirstApart (Some (s + i)) As Bs
  first_from i found = (
    omega (arith, found.0, rest-counted),
    (λ b. found.1 (subst (λ Cs. IsBand (nth Cs i)) (sym rest_meet) (subst IsBand (sym (later i)) b))),
    (λ j l. band-at j (λ ge. subst (λ Cs. IsBand (nth Cs (j - s))) rest_meet (found.2 (j - s) (omega arith)))),
  )

  pub numbers_from : AllBands (meet_bands As Bs) →
      AllBands (meet_bands (take (length As - s) (drop s As)) (take (length Bs - s) (drop s Bs)))
  numbers_from all = subst AllBands (sym rest_meet) (drop_bands s (meet_bands As Bs) all)

  -- the met rest behind the front is the meet
  pub met_from : (Cs : List Interval) → Cs ≡ meet_bands (take (length As - s) (drop s As)) (take (length Bs - s) (drop s Bs)) →
      put_mid s (length As - s) As Cs ≡ meet_bands As Bs
  met_from Cs made =
      let met : Cs ≡ drop s (meet_bands As Bs) = made ∙ rest_meet in
      let many : length Cs ≡ length As - s = ap length met ∙ counted in
      let whole : length (put_mid s (length As - s) As Cs) ≡ length As = same_len_mid s (length As - s) As Cs (many ∙ sym rest-counted) in
      sym (take-length (put_mid s (length As - s) As Cs))
      ∙ (ap (λ k. take k (put_mid s (length As - s) As Cs)) whole
      ∙ (take-put_mid s (length As - s) As Cs (length As) (omega arith) inside
      ∙ (ap (λ xs. xs ++ Cs) (sym (front-meet s As Bs e inside h))
      ∙ (ap (λ ys. take s (meet_bands As Bs) ++ ys) met ∙ take-append-drop s (meet_bands As Bs)))))

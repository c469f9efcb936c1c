-- Bands that are gathered from streams, and spread over them, one stream after another.
use Rattle.std.proofs.Common.{◌≡◌, ℕ, List, drop, ◌+◌, ◌<◌, ◌≤◌, ◌++◌, length, take, get_or, subst, length-append}
use Rattle.std.proofs.Common.{length-drop, refl, sym, ap, ◌∙◌, arith, [], set, inl, inr, get_or-set_other, ◌∷◌, suc}
use Rattle.std.proofs.Common.{◌≢◌, length-set, zero, get_or-set_same}
use Rattle.std.specs.List.{AllByRecursion}
use Rattle.std.proofs.lemmas.List.{drop_more, append_assoc, length-take-le}
use Rattle.std.proofs.lemmas.Slice.{take-put_mid}
use Rattle.std.proofs.lemmas.Bool.{cases_eq}
use Rattle.std.proofs.lemmas.Grind.{get_or-set_at}
use Rattle.std.specs.Prelude.{slice_index, slice_index_or, flat_map}
use borrow.Rule.Slice.PartMut.{put_mid}
use Rattle.quant.specs.Interval.{Interval}
use Rattle.quant.specs.Ports.{outputs}
use Rattle.plant_units.specs.Steps.{spread, HasRoom, bands_at}

-- what is left to spread gives what all of it gives
pub record IsSpreading (numbers : List ℕ) (whole : List (List Interval)) (i : ℕ) (rest : List Interval)
    (now : List (List Interval)) : Type 0 where
  pub room : HasRoom (drop i numbers) rest now
  pub same : spread (drop i numbers) rest now ≡ whole

-- what is gathered already of the bands of things that meet P, and what is left to gather
pub record IsGathering {X : Type 0} (P : X → Type 0) (bands : X → List Interval) (xs : List X) (i place : ℕ)
    (ins : List Interval) : Type 0 where
  pub known : AllByRecursion P (drop i xs)
  pub room : place + length (flat_map bands (drop i xs)) ≤ length ins
  pub same : take place ins ++ flat_map bands (drop i xs) ≡ flat_map bands xs

-- the next thing meets P
pub gathering-known : {X : Type 0} (P : X → Type 0) (bands : X → List Interval) (xs : List X) (d : X) (i place : ℕ)
    (ins : List Interval) →
    i < length xs → IsGathering P bands xs i place ins → P (get_or xs i d)
gathering-known P bands xs d i place ins h g = (subst (AllByRecursion P) (drop_more xs i d h) g.known).0

-- its bands are written behind what is gathered
pub gathering-more : {X : Type 0} (P : X → Type 0) (bands : X → List Interval) (xs : List X) (d : X) (i place k : ℕ)
    (ins channels : List Interval) →
    i < length xs → IsGathering P bands xs i place ins → channels ≡ bands (get_or xs i d) → k ≡ length channels →
    IsGathering P bands xs (i + 1) (place + length channels) (put_mid place k ins channels)
gathering-more P bands xs d i place k ins channels h g e l =
    let known = subst (AllByRecursion P) (drop_more xs i d h) g.known in
    let more : flat_map bands (drop i xs) ≡ channels ++ flat_map bands (drop (i + 1) xs) =
    ap (flat_map bands) (drop_more xs i d h) ∙ ap (λ cs. cs ++ flat_map bands (drop (i + 1) xs)) (sym e) in
    let lengths = ap length more ∙ length-append channels (flat_map bands (drop (i + 1) xs)) in
    let written : take (place + length channels) (put_mid place k ins channels) ≡ take place ins ++ channels =
    take-put_mid place k ins channels (place + length channels) refl (omega (arith, g.room)) in
    record {
      known = known.1;
      room = simp (length-append, length-take-le place ins (omega (arith, g.room)), length-drop)
          (omega (arith, g.room, lengths));
      same = ap (λ cs. cs ++ flat_map bands (drop (i + 1) xs)) written
          ∙ (append_assoc (take place ins) channels (flat_map bands (drop (i + 1) xs))
          ∙ (ap (λ cs. take place ins ++ cs) (sym more) ∙ g.same));
    }

-- a stream with other bands in as many channels
width-set : (streams : List (List Interval)) (n s : ℕ) (bands : List Interval) →
    length bands ≡ length (bands_at streams n) → n < length streams →
    length (bands_at (set streams n bands) s) ≡ length (bands_at streams s)
width-set streams n s bands e h =
    elim (cases_eq s n) [
      | inl d ↦ ap length (get_or-set_at streams n s bands [] d h) ∙ (e ∙ ap (λ k. length (bands_at streams k)) (sym d))
      | inr ne ↦ ap length (get_or-set_other streams n s bands [] ne)
    ]

-- each stream has as many channels as before
pub spread-widths : (numbers : List ℕ) (bands : List Interval) (streams : List (List Interval)) (s : ℕ) →
    HasRoom numbers bands streams →
    length (bands_at (spread numbers bands streams) s) ≡ length (bands_at streams s)
spread-widths [] bands streams s h = refl
spread-widths (n ∷ rest) bands streams s h =
    spread-widths rest _ _ s h.2 ∙ width-set streams n s _ (length-take-le _ bands h.1) h.0

-- streams that are not among these stay
pub spread-others : (numbers : List ℕ) (bands : List Interval) (streams : List (List Interval)) (s : ℕ) →
    ((j : ℕ) → j < length numbers → slice_index numbers j ≢ s) →
    bands_at (spread numbers bands streams) s ≡ bands_at streams s
spread-others [] bands streams s h = refl
spread-others (n ∷ rest) bands streams s h =
    let ne : s ≢ n = λ e. h 0 (omega arith) (sym e) in
    spread-others rest _ _ s (λ j l. h (suc j) (omega arith)) ∙ get_or-set_other streams n s _ [] ne

-- a row for each of these streams, of as many bands as it has channels; and no stream comes twice
pub record AreRows (numbers : List ℕ) (rows streams : List (List Interval)) : Type 0 where
  pub counted : length rows ≡ length numbers
  pub there : (j : ℕ) → j < length numbers → slice_index numbers j < length streams
  pub widths : (j : ℕ) → j < length numbers →
      length (slice_index_or rows j []) ≡ length (bands_at streams (slice_index numbers j))
  pub once : (i j : ℕ) → i < length numbers → j < length numbers → slice_index numbers i ≡ slice_index numbers j → i ≡ j

-- so is it of the further ones, after the first is written
rows-further : (n : ℕ) (numbers : List ℕ) (row : List Interval) (rows streams : List (List Interval)) →
    AreRows (n ∷ numbers) (row ∷ rows) streams →
    AreRows numbers rows (set streams n row)
rows-further n numbers row rows streams r = record {
  counted = omega (arith, r.counted);
  there = λ j l. simp length-set (r.there (suc j) (omega arith));
  widths = λ j l. r.widths (suc j) (omega arith)
      ∙ sym (width-set streams n (slice_index numbers j) row (r.widths 0 (omega arith)) (r.there 0 (omega arith)));
  once = λ i j h k e. omega (arith, r.once (suc i) (suc j) (omega arith) (omega arith) e);
}

-- the first row, and the others
first-row : (row : List Interval) (rest : List Interval) (k : ℕ) → length row ≡ k → take k (row ++ rest) ≡ row
first-row [] rest k e = ap (λ n. take n rest) (sym e)
first-row (A ∷ row) rest k e =
    ap (λ n. take n (A ∷ (row ++ rest))) (sym e) ∙ ap (λ bands. A ∷ bands) (first-row row rest (length row) refl)

other-rows : (row : List Interval) (rest : List Interval) (k : ℕ) → length row ≡ k → drop k (row ++ rest) ≡ rest
other-rows [] rest k e = ap (λ n. drop n rest) (sym e)
other-rows (A ∷ row) rest k e = ap (λ n. drop n (A ∷ (row ++ rest))) (sym e) ∙ other-rows row rest (length row) refl

-- the first row is written, and then the others
spread-first : (n : ℕ) (numbers : List ℕ) (row : List Interval) (rows streams : List (List Interval)) →
    AreRows (n ∷ numbers) (row ∷ rows) streams →
    spread (n ∷ numbers) (outputs (row ∷ rows)) streams ≡ spread numbers (outputs rows) (set streams n row)
spread-first n numbers row rows streams r =
    let w : length row ≡ length (bands_at streams n) = r.widths 0 (omega arith) in
    ap (λ bands. spread numbers bands (set streams n (take (length (bands_at streams n)) (row ++ outputs rows))))
    (other-rows row (outputs rows) _ w)
    ∙ ap (λ bands. spread numbers (outputs rows) (set streams n bands)) (first-row row (outputs rows) _ w)

-- there is room for the rows
pub rows-room : (numbers : List ℕ) (rows streams : List (List Interval)) → AreRows numbers rows streams →
    HasRoom numbers (outputs rows) streams
rows-room [] rows streams r = tt
rows-room (n ∷ numbers) [] streams r = absurd (omega (arith, r.counted))
rows-room (n ∷ numbers) (row ∷ rows) streams r =
    let w : length row ≡ length (bands_at streams n) = r.widths 0 (omega arith) in (
      r.there 0 (omega arith),
      omega (arith, w, length-append row (outputs rows)),
      rw (other-rows row (outputs rows) _ w, first-row row (outputs rows) _ w)
          (rows-room numbers rows (set streams n row) (rows-further n numbers row rows streams r)),
    )

-- each of the streams has its row then
pub rows-spread : (numbers : List ℕ) (rows streams : List (List Interval)) (j : ℕ) → AreRows numbers rows streams →
    j < length numbers →
    bands_at (spread numbers (outputs rows) streams) (slice_index numbers j) ≡ slice_index_or rows j []
rows-spread [] rows streams j r l = absurd (omega arith)
rows-spread (n ∷ numbers) [] streams j r l = absurd (omega (arith, r.counted))
rows-spread (n ∷ numbers) (row ∷ rows) streams zero r l =
    ap (λ ss. bands_at ss n) (spread-first n numbers row rows streams r)
    ∙ (spread-others numbers (outputs rows) (set streams n row) n
    (λ j h e. absurd (omega (arith, r.once (suc j) 0 (omega arith) (omega arith) e)))
    ∙ get_or-set_same streams n row [] (r.there 0 (omega arith)))
rows-spread (n ∷ numbers) (row ∷ rows) streams (suc j) r l =
    ap (λ ss. bands_at ss (slice_index numbers j)) (spread-first n numbers row rows streams r)
    ∙ rows-spread numbers rows (set streams n row) j (rows-further n numbers row rows streams r) (omega arith)

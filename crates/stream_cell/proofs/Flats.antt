-- The bands of tubes, one after another, cut into versions again.
use Rattle.std.proofs.Common.{◌≡◌, ℕ, zero, suc, ◌+◌, ◌-◌, ◌*◌, ◌<◌, ◌≤◌, List, [], ◌∷◌, ◌++◌, length, map, take, drop, slice_index_or, refl, sym, subst, ap, ◌∙◌, arith}
use Rattle.std.proofs.lemmas.List.{length-append, length-drop, take-append-le, drop-append-le, append-nil, append_assoc, take_all, take_at, drop_at, get_or_push}
use Rattle.quant.proofs.Calls.{same_cons}
use Rattle.quant.specs.Interval.{Interval}
use Rattle.relaxation.specs.Tube.{Tube, at, meet}
use Rattle.relaxation.specs.History.{Version, History, no_version, numbered}
use Rattle.tubes.specs.Shape.{HasShapeOf}
use Rattle.tubes.proofs.Flats.{meet_counted}
use Rattle.stream_cell.specs.Histories.{newest}
use Rattle.stream_cell.specs.Flat.{flat, size, cut_by, headed, versions}
use Rattle.stream_cell.specs.declared.head.Head.{Head}

-- one more tick
pub flat_more : (tube : Tube) (t : ℕ) → t < length tube → flat (take (t + 1) tube) ≡ flat (take t tube) ++ at tube t
flat_more [] t h = absurd (omega arith)
flat_more (row ∷ rows) zero h = append-nil row
flat_more (row ∷ rows) (suc t) h =
    let e : suc t + 1 ≡ suc (t + 1) = omega arith in
    ap (λ k. flat (take k (row ∷ rows))) e ∙ (ap (λ bands. row ++ bands) (flat_more rows t (omega arith)) ∙ sym (append_assoc row (flat (take t rows)) (at rows t)))

pub flat_whole : (tube : Tube) (t : ℕ) → length tube ≤ t → flat (take t tube) ≡ flat tube
flat_whole tube t h = ap flat (take_all t tube h)

pub flat_size : (tube : Tube) → length (flat tube) ≡ size (map length tube)
flat_size [] = refl
flat_size (row ∷ rows) = length-append row (flat rows) ∙ ap (λ k. length row + k) (flat_size rows)

-- the first ticks have no more than all
pub flat_room : (tube : Tube) (t : ℕ) → t < length tube → length (flat (take t tube)) + length (at tube t) ≤ length (flat tube)
flat_room [] t h = absurd (omega arith)
flat_room (row ∷ rows) zero h = rw (length-append row (flat rows)) (omega arith)
flat_room (row ∷ rows) (suc t) h =
    let more = flat_room rows t (omega arith) in
    rw (length-append row (flat rows), length-append row (flat (take t rows))) (omega arith)

-- a tube's bands cut by its shape are the tube
pub cut_flat : (tube : Tube) → cut_by (map length tube) (flat tube) ≡ tube
cut_flat [] = refl
cut_flat (row ∷ rows) = same_cons _ _ _ _
    (take_at row (flat rows) (length row) refl)
    (ap (cut_by (map length rows)) (drop_at row (flat rows) (length row) refl) ∙ cut_flat rows)

-- bands behind those that are cut do not count
pub cut_front : (shape : List ℕ) (bands more : List Interval) → size shape ≤ length bands → cut_by shape (bands ++ more) ≡ cut_by shape bands
cut_front [] bands more h = refl
cut_front (c ∷ shape) bands more h = same_cons _ _ _ _
    (take-append-le c bands more (omega arith))
    (ap (cut_by shape) (drop-append-le c bands more (omega arith)) ∙ cut_front shape (drop c bands) more (rw (length-drop c bands) (omega arith)))

-- one more version
pub versions_more : (shape : List ℕ) (heads : List Head) (bands : List Interval) (head : Head) (tube : Tube) →
    map length tube ≡ shape → length bands ≡ length heads * size shape →
    versions shape (heads ++ head ∷ []) (bands ++ flat tube) ≡ versions shape heads bands ++ headed head tube ∷ []
versions_more shape [] [] head tube e d =
    ap (λ made. headed head made ∷ []) (ap (λ s. cut_by s (flat tube)) (sym e) ∙ cut_flat tube)
versions_more shape [] (band ∷ bands) head tube e d = absurd (omega arith)
versions_more shape (first ∷ heads) bands head tube e d = let enough : size shape ≤ length bands = rw d (omega arith) in same_cons _ _ _ _
    (ap (headed first) (cut_front shape bands (flat tube) enough))
    (ap (versions shape (heads ++ head ∷ [])) (drop-append-le (size shape) bands (flat tube) enough)
    ∙ versions_more shape heads (drop (size shape) bands) head tube e (rw (length-drop (size shape) bands, d) (omega arith)))

pub versions_counted : (shape : List ℕ) (heads : List Head) (bands : List Interval) → length (versions shape heads bands) ≡ length heads
versions_counted shape [] bands = refl
versions_counted shape (head ∷ heads) bands = ap suc (versions_counted shape heads (drop (size shape) bands))

-- the rows so far, and one more
pub appended_more : (old now row new : List Interval) (tube : Tube) (t : ℕ) → t < length tube → now ≡ old ++ flat (take t tube) → row ≡ at tube t → new ≡ now ++ row →
    new ≡ old ++ flat (take (t + 1) tube)
appended_more old now row new tube t h was is made =
    made ∙ (ap (λ xs. xs ++ row) was ∙ (append_assoc old (flat (take t tube)) row ∙ ap (λ xs. old ++ xs) (ap (λ r. flat (take t tube) ++ r) is ∙ sym (flat_more tube t h))))

-- the version behind others is the last
pub newest_pushed : (history : History) (version : Version) → newest (history ++ version ∷ []) ≡ version
newest_pushed history version = get_or_push history version no_version (length (history ++ version ∷ []) - 1) (omega (arith, length-append history (version ∷ [])))

-- a version has its head's number and stamp
pub headed_at : (shape : List ℕ) (heads : List Head) (bands : List Interval) (k : ℕ) (head : Head) → k < length heads → head ≡ slice_index_or heads k head →
    ((numbered (versions shape heads bands) k).number ≡ head.number) × ((numbered (versions shape heads bands) k).stamp ≡ head.stamp)
headed_at shape [] bands k head h e = absurd (omega arith)
headed_at shape (first ∷ heads) bands zero head h e = (ap (λ (one : Head). one.number) (sym e), ap (λ (one : Head). one.stamp) (sym e))
headed_at shape (first ∷ heads) bands (suc k) head h e = headed_at shape heads (drop (size shape) bands) k head (omega arith) e

-- so has the last one
pub newest_head : (shape : List ℕ) (heads : List Head) (bands : List Interval) (history : History) → versions shape heads bands ≡ history → (k : ℕ) (head : Head) →
    k + 1 ≡ length heads → head ≡ slice_index_or heads k head → ((newest history).number ≡ head.number) × ((newest history).stamp ≡ head.stamp)
newest_head shape heads bands history is k head h e =
    let at : k ≡ length (versions shape heads bands) - 1 = omega (arith, versions_counted shape heads bands) in
    subst (λ (all : History). ((newest all).number ≡ head.number) × ((newest all).stamp ≡ head.stamp)) is
    (subst (λ i. ((numbered (versions shape heads bands) i).number ≡ head.number) × ((numbered (versions shape heads bands) i).stamp ≡ head.stamp)) at
    (headed_at shape heads bands k head (omega arith) e))

-- the meet of two tubes of one shape has it
pub meet_shape : (A B : Tube) → HasShapeOf A B → map length (meet A B) ≡ map length A
meet_shape [] B h = refl
meet_shape (A ∷ As) [] h = cc
meet_shape (A ∷ As) (B ∷ Bs) h =
    let first : length A ≡ length B = cc in
    let rest : HasShapeOf As Bs = cc in
    same_cons _ _ _ _ (meet_counted A B first) (meet_shape As Bs rest)

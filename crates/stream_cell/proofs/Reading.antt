-- A version read out of the heads and bands of all.
use Rattle.std.proofs.Common.{◌≡◌, ℕ, zero, suc, ◌+◌, ◌*◌, ◌/◌, ◌<◌, ◌≤◌, List, [], ◌∷◌, ◌++◌, length, map, set, get_or, take, drop, slice_index_or, refl, sym, ap, ◌∙◌, arith}
use Rattle.std.proofs.Math.Nat.{mul-le-mul_right, mul-div_cancel_left}
use Rattle.std.proofs.Math.Seq.{take-nil}
use Rattle.std.proofs.lemmas.List.{append-nil, drop-drop, get_or-map, length-append, length-drop, length-map, length-take, length-take-le, take_all, drop_all}
use Rattle.quant.proofs.Calls.{same_cons}
use Rattle.quant.specs.Interval.{Interval}
use Rattle.relaxation.specs.Tube.{Tube, at}
use Rattle.relaxation.specs.History.{Version, History, numbered}
use Rattle.tubes.specs.Shape.{HasShapeOf}
use Rattle.stream_cell.specs.Flat.{IsCopied, IsKept, size, cut_by, headed, versions}
use Rattle.stream_cell.specs.declared.head.Head.{Head}
use Rattle.stream_cell.proofs.Flats.{versions_counted}

-- a version, by its head and its bands
pub version_at : (shape : List ℕ) (heads : List Head) (bands : List Interval) (k : ℕ) (head : Head) → k < length heads → head ≡ slice_index_or heads k head →
    numbered (versions shape heads bands) k ≡ headed head (cut_by shape (drop (k * size shape) bands))
version_at shape [] bands k head h e = absurd (omega arith)
version_at shape (first ∷ heads) bands zero head h e =
    let none : 0 ≡ 0 * size shape = omega arith in
    ap (λ (one : Head). headed one (cut_by shape bands)) (sym e) ∙ ap (λ n. headed head (cut_by shape (drop n bands))) none
version_at shape (first ∷ heads) bands (suc k) head h e =
    version_at shape heads (drop (size shape) bands) k head (omega arith) e
    ∙ ap (λ rest. headed head (cut_by shape rest)) (drop-drop (k * size shape) (size shape) bands ∙ ap (λ n. drop n bands) (omega arith))

-- a row is written in its place
row-written : (made old : Tube) (t : ℕ) (row : List Interval) → t < length old → length made ≡ length old → row ≡ at made t →
    set (take t made ++ drop t old) t row ≡ take (t + 1) made ++ drop (t + 1) old
row-written [] old t row h same e = absurd (omega arith)
row-written (made ∷ mades) [] t row h same e = absurd (omega arith)
row-written (made ∷ mades) (old ∷ olds) zero row h same e = ap (λ (first : List Interval). first ∷ olds) e
row-written (made ∷ mades) (old ∷ olds) (suc t) row h same e =
    let more : suc t + 1 ≡ suc (t + 1) = omega arith in
    ap (λ rows. made ∷ rows) (row-written mades olds t row (omega arith) (omega arith) e)
    ∙ ap (λ k. take k (made ∷ mades) ++ drop k (old ∷ olds)) (sym more)

row-before : (made old : Tube) (t : ℕ) → t < length old → length made ≡ length old → at (take t made ++ drop t old) t ≡ at old t
row-before [] old t h same = absurd (omega arith)
row-before (made ∷ mades) [] t h same = absurd (omega arith)
row-before (made ∷ mades) (old ∷ olds) zero h same = refl
row-before (made ∷ mades) (old ∷ olds) (suc t) h same = row-before mades olds t (omega arith) (omega arith)

-- the rows that are left, by where they start
row-cut : (shape : List ℕ) (bands : List Interval) (t : ℕ) → t < length shape → at (cut_by shape bands) t ≡ take (get_or shape t 0) (drop (size (take t shape)) bands)
row-cut [] bands t h = absurd (omega arith)
row-cut (c ∷ shape) bands zero h = refl
row-cut (c ∷ shape) bands (suc t) h = row-cut shape (drop c bands) t (omega arith) ∙ ap (take (get_or shape t 0)) (drop-drop (size (take t shape)) c bands ∙ ap (λ n. drop n bands) (omega arith))

cut-counted : (shape : List ℕ) (bands : List Interval) → length (cut_by shape bands) ≡ length shape
cut-counted [] bands = refl
cut-counted (c ∷ shape) bands = ap suc (cut-counted shape (drop c bands))

size-more : (shape : List ℕ) (t : ℕ) → t < length shape → size (take (t + 1) shape) ≡ size (take t shape) + get_or shape t 0
size-more [] t h = absurd (omega arith)
size-more (c ∷ shape) zero h = omega arith
size-more (c ∷ shape) (suc t) h =
    let more : suc t + 1 ≡ suc (t + 1) = omega arith in
    let rest = size-more shape t (omega arith) in
    ap (λ k. size (take k (c ∷ shape))) more ∙ omega arith

size-part : (shape : List ℕ) (t : ℕ) → size (take t shape) ≤ size shape
size-part [] t = let none : size (take t []) ≡ 0 = ap size (take-nil t) in omega arith
size-part (c ∷ shape) zero = omega arith
size-part (c ∷ shape) (suc t) = let rest = size-part shape t in omega arith

-- what the head of a version tells
pub head_at : (shape : List ℕ) (heads : List Head) (bands : List Interval) (history : History) → versions shape heads bands ≡ history →
    (k : ℕ) (head : Head) → k < length history → head ≡ slice_index_or heads k head →
    (head.number ≡ (numbered history k).number) × (head.maker ≡ (numbered history k).maker) × (head.stamp ≡ (numbered history k).stamp) × (head.refs ≡ (numbered history k).refs)
head_at shape heads bands history is k head h e =
    let less : k < length heads = omega (arith, versions_counted shape heads bands, ap length is) in
    let same : numbered history k ≡ headed head (cut_by shape (drop (k * size shape) bands)) =
    ap (λ (all : History). numbered all k) (sym is) ∙ version_at shape heads bands k head less e in (
      ap (λ (one : Version). one.number) (sym same),
      ap (λ (one : Version). one.maker) (sym same),
      ap (λ (one : Version). one.stamp) (sym same),
      ap (λ (one : Version). one.refs) (sym same),
    )

-- the rows so far, and the next
module _ {bands : List Interval} {old now : Tube} {t : ℕ} {left : List Interval} (is : IsCopied bands old now t left) where
  as-many : length (cut_by (map length old) bands) ≡ length old
  as-many = cut-counted (map length old) bands ∙ length-map old length

  pub rows_counted : length now ≡ length old
  rows_counted =
      let there = ap length is.rows ∙ length-append (take t (cut_by (map length old) bands)) (drop t old) in
      omega (arith, there, as-many, length-take t (cut_by (map length old) bands), length-drop t old)

  module _ (less : t < length old) where
    shaped : t < length (map length old)
    shaped = omega (arith, length-map old length)

    row-counted : length (at now t) ≡ get_or (map length old) t 0
    row-counted = ap (λ (tube : Tube). length (at tube t)) is.rows ∙ ap length (row-before (cut_by (map length old) bands) old t less as-many) ∙ sym (get_or-map length old t [] 0 less)

    pub row_room : size (map length old) ≤ length bands → length (at now t) ≤ length left
    row_room room = omega (
      arith,
      row-counted,
      size-more (map length old) t shaped,
      size-part (map length old) (t + 1),
      ap length is.left,
      length-drop (size (take t (map length old))) bands,
    )

    pub next_copied : (row rest : List Interval) (next : Tube) → row ≡ take (length (at now t)) left → rest ≡ drop (length (at now t)) left → next ≡ set now t row →
        IsCopied bands old next (t + 1) rest
    next_copied row rest next is_row is_rest wrote = record {
      left = is_rest
          ∙ ap (drop (length (at now t))) is.left
          ∙ drop-drop (length (at now t)) (size (take t (map length old))) bands
          ∙ ap (λ n. drop n bands) (omega (arith, row-counted, size-more (map length old) t shaped));
      rows =
          let same : row ≡ at (cut_by (map length old) bands) t = is_row
          ∙ ap (λ n. take n left) row-counted
          ∙ ap (take (get_or (map length old) t 0)) is.left
          ∙ sym (row-cut (map length old) bands t shaped) in
          wrote ∙ ap (λ (tube : Tube). set tube t row) is.rows ∙ row-written (cut_by (map length old) bands) old t row less as-many same;
    }

  pub all_copied : length old ≤ t → now ≡ cut_by (map length old) bands
  all_copied more = is.rows
      ∙ ap (λ (tube : Tube). tube ++ drop t old) (take_all t (cut_by (map length old) bands) (omega (arith, as-many)))
      ∙ ap (λ (tube : Tube). cut_by (map length old) bands ++ tube) (drop_all t old more)
      ∙ append-nil (cut_by (map length old) bands)

-- what is cut by a shape has it
pub cut_shape : (shape : List ℕ) (bands : List Interval) → size shape ≤ length bands → map length (cut_by shape bands) ≡ shape
cut_shape [] bands h = refl
cut_shape (c ∷ shape) bands h = same_cons _ _ _ _
    (length-take-le c bands (omega arith))
    (cut_shape shape (drop c bands) (omega (arith, length-drop c bands)))

-- a head that is read is there, whatever it would be elsewhere
no_head : Head
no_head = record { number = 0; maker = 0; stamp = 0; refs = [] }

same_read : (heads : List Head) (k : ℕ) → k < length heads → slice_index_or heads k no_head ≡ slice_index_or heads k (slice_index_or heads k no_head)
same_read [] k h = absurd (omega arith)
same_read (first ∷ heads) zero h = refl
same_read (first ∷ heads) (suc k) h = same_read heads k (omega arith)

-- the bands of a version
module _ {heads : List Head} {bands : List Interval} {tube spare : Tube} {most_heads most_bands : ℕ} (kept : IsKept heads bands tube spare most_heads most_bands)
    (history : History) (is : versions (map length tube) heads bands ≡ history) (k : ℕ) (less : k < length history) where
  among : k < length heads
  among = omega (arith, versions_counted (map length tube) heads bands, ap length is)

  part-size : length bands / length heads ≡ size (map length tube)
  part-size = ap (λ n. n / length heads) kept.counted ∙ mul-div_cancel_left (size (map length tube)) kept.some

  part-there : k * size (map length tube) + size (map length tube) ≤ length bands
  part-there =
      let more : suc k * size (map length tube) ≤ length heads * size (map length tube) = mul-le-mul_right (size (map length tube)) among in
      omega (arith, kept.counted)

  enough : size (map length tube) ≤ length (drop (k * size (map length tube)) bands)
  enough = omega (arith, part-there, length-drop (k * size (map length tube)) bands)

  its-tube : (numbered history k).tube ≡ cut_by (map length tube) (drop (k * size (map length tube)) bands)
  its-tube = ap (λ (all : History). (numbered all k).tube) (sym is)
      ∙ ap (λ (version : Version). version.tube) (version_at (map length tube) heads bands k (slice_index_or heads k no_head) among (same_read heads k among))

  same-shape : (into : Tube) → HasShapeOf into (numbered history k).tube → map length into ≡ map length tube
  same-shape into shape = shape ∙ ap (map length) its-tube ∙ cut_shape (map length tube) (drop (k * size (map length tube)) bands) enough

  pub start_there : (n : ℕ) → n ≡ length bands / length heads → k * n ≤ length bands
  start_there n divided = omega (arith, part-there, ap (λ m. k * m) (divided ∙ part-size))

  pub copy_room : (into : Tube) (rest : List Interval) (n : ℕ) → HasShapeOf into (numbered history k).tube → n ≡ length bands / length heads → rest ≡ drop (k * n) bands →
      size (map length into) ≤ length rest
  copy_room into rest n shape divided left =
      let at : rest ≡ drop (k * size (map length tube)) bands = left ∙ ap (λ m. drop (k * m) bands) (divided ∙ part-size) in
      omega (arith, enough, ap size (same-shape into shape), ap length at)

  pub copy_is : (into now : Tube) (rest : List Interval) (n : ℕ) → HasShapeOf into (numbered history k).tube → n ≡ length bands / length heads → rest ≡ drop (k * n) bands →
      now ≡ cut_by (map length into) rest → now ≡ (numbered history k).tube
  copy_is into now rest n shape divided left made =
      made
      ∙ ap (λ cut. cut_by cut rest) (same-shape into shape)
      ∙ ap (cut_by (map length tube)) (left ∙ ap (λ m. drop (k * m) bands) (divided ∙ part-size))
      ∙ sym its-tube

  -- a copy of the last tube has room for it
  pub copy_fits : (copy : Tube) → copy ≡ tube → HasShapeOf copy (numbered history k).tube
  copy_fits copy same = ap (map length) same
      ∙ sym (ap (map length) its-tube ∙ cut_shape (map length tube) (drop (k * size (map length tube)) bands) enough)

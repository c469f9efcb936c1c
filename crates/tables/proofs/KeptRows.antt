-- Rows as heads with the numbers of bands behind them.
use Rattle.std.proofs.Common.{◌≡◌, ◌∙◌, refl, sym, ap, ℕ, ◌+◌, ◌<◌, ◌≤◌, min, Bool, pos, codes, arith, add-one}
use Rattle.std.proofs.Common.{List, [], ◌∷◌, ◌++◌, length, map, take, drop, get_or, slice_set}
use Rattle.std.proofs.Common.{append_assoc, append-nil, length-append}
use Rattle.std.proofs.Math.Seq.{drop-cons, map-set_same}
use Rattle.std.proofs.lemmas.List.{take_at, length-drop, length-map}
use Rattle.std.proofs.lemmas.Fmt.{decimal_digit}
use Rattle.std.proofs.Math.ListN.{get_or-map}
use Rattle.quant.specs.Interval.{Interval, point}
use Rattle.tables.specs.Output.{Label, row, channels, channel_rows, stream_rows}
use Rattle.tables.specs.Kept.{KeptOf, head_of, numbers_of, heads, headed_row, headed_rows, IsKept}

pub kept : (n : ℕ) (head text : List ℕ) (band : Interval) → n ≡ length head → text ≡ head ++ numbers_of band →
    IsKept n band text
kept n head text band counted is = record {
  headed = omega (arith, ap length is, length-append head (numbers_of band), counted);
  numbered = is
      ∙ ap (λ l. l ++ numbers_of band) (sym (ap (take n) is ∙ take_at head (numbers_of band) n (sym counted)));
}

one-row : (tick : ℕ) (name channel : List ℕ) (band : Interval) →
    headed_row tick (head_of name channel) band ≡ row tick name channel band
unfolding row
one-row tick name channel band = simp append_assoc

pub headed_rows-channels : (tick : ℕ) (name : List ℕ) (channels : List (List ℕ)) (bands : List Interval) →
    headed_rows tick (map (head_of name) channels) bands ≡ channel_rows tick name channels bands
headed_rows-channels tick name [] bands = refl
headed_rows-channels tick name (channel ∷ rest) [] = refl
headed_rows-channels tick name (channel ∷ rest) (band ∷ bands) =
    ap (λ text. text ++ headed_rows tick (map (head_of name) rest) bands) (one-row tick name channel band)
    ∙ ap (λ text. row tick name channel band ++ text) (headed_rows-channels tick name rest bands)

-- the rows from a place on: the row of this place, and those behind it
headed_rows-at : (tick : ℕ) (heads : List (List ℕ)) (bands : List Interval) (i : ℕ) (head : List ℕ) (band : Interval) →
    i < length heads → i < length bands →
    headed_rows tick (drop i heads) (drop i bands)
    ≡ headed_row tick (get_or heads i head) (get_or bands i band)
    ++ headed_rows tick (drop (i + 1) heads) (drop (i + 1) bands)
headed_rows-at tick heads bands i head band h k = rw (drop-cons heads i head h, drop-cons bands i band k, add-one)

-- no row is left where the heads or the bands are at their end
headed_rows-none : (tick : ℕ) (heads : List (List ℕ)) (bands : List Interval) → min (length heads) (length bands) ≡ 0 →
    headed_rows tick heads bands ≡ []
headed_rows-none tick [] bands none = refl
headed_rows-none tick (head ∷ rest) [] none = refl
headed_rows-none tick (head ∷ rest) (band ∷ bands) none = absurd (omega arith)

pub headed_rows-end : (tick : ℕ) (heads : List (List ℕ)) (bands : List Interval) (i n : ℕ) (before all : List ℕ) →
    n ≡ min (length heads) (length bands) → n ≤ i →
    before ++ headed_rows tick (drop i heads) (drop i bands) ≡ all → before ≡ all
headed_rows-end tick heads bands i n before all least over whole =
    let none : min (length (drop i heads)) (length (drop i bands)) ≡ 0 =
    rw (length-drop i heads, length-drop i bands) (omega arith) in
    sym (append-nil before)
    ∙ ap (λ l. before ++ l) (sym (headed_rows-none tick (drop i heads) (drop i bands) none)) ∙ whole

zero : numbers_of (point (pos 0)) ≡ codes "0,0\n"
zero = rw (decimal_digit 0 (omega arith)) refl

-- the numbers of 0
pub kept_zero : (n : ℕ) (head text : List ℕ) (band : Interval) → n ≡ length head → band ≡ point (pos 0) →
    text ≡ head ++ codes "0,0\n" → IsKept n band text
kept_zero n head text band counted is_zero is =
    kept n head text band counted (is ∙ ap (λ l. head ++ l) (sym zero) ∙ ap (λ b. head ++ numbers_of b) (sym is_zero))

pub same_heads : (rows : List KeptOf) (i : ℕ) (d made : KeptOf) (all : List (List ℕ)) →
    made.head ≡ (get_or rows i d).head → heads rows ≡ all → heads (slice_set rows i made) ≡ all
same_heads rows i d made all same whole = map-set_same (λ r. r.head) rows i made d same ∙ whole

-- the row of this place was added, so what is left begins at the next
pub headed_rows-step : (tick : ℕ) (rows : List KeptOf) (all : List (List ℕ)) (bands : List Interval) (i : ℕ)
    (d : KeptOf) (band : Interval) (text next whole : List ℕ) →
    i < length rows → i < length bands → heads rows ≡ all → band ≡ get_or bands i band →
    next ≡ text ++ headed_row tick (get_or rows i d).head band →
    text ++ headed_rows tick (drop i all) (drop i bands) ≡ whole →
    next ++ headed_rows tick (drop (i + 1) all) (drop (i + 1) bands) ≡ whole
headed_rows-step tick rows all bands i d band text next whole h k same at_band added is =
    let rest = headed_rows tick (drop (i + 1) all) (drop (i + 1) bands) in
    let counted : i < length all = omega (arith, ap length same, length-map rows (λ r. r.head)) in
    let here : (get_or rows i d).head ≡ get_or all i d.head =
    sym (get_or-map (λ r. r.head) rows i d) ∙ ap (λ l. get_or l i d.head) same in
    ap (λ l. l ++ rest)
    (added ∙ ap (λ l. text ++ headed_row tick l band) here
    ∙ ap (λ b. text ++ headed_row tick (get_or all i d.head) b) at_band)
    ∙ append_assoc text _ rest
    ∙ ap (λ l. text ++ l) (sym (headed_rows-at tick all bands i d.head band counted k)) ∙ is

-- the rows of a stream's heads are those of its channels
pub stream_rows-headed : (tick : ℕ) (name : List ℕ) (signal : Bool) (label : Label) (all : List (List ℕ))
    (bands : List Interval) (before after : List ℕ) →
    record { name = name; signal = signal } ≡ label → all ≡ map (head_of name) (channels signal) →
    after ≡ before ++ headed_rows tick all bands → after ≡ before ++ stream_rows tick label bands
stream_rows-headed tick name signal label all bands before after shown are added =
    added ∙ ap (λ l. before ++ headed_rows tick l bands) are
    ∙ ap (λ l. before ++ l) (headed_rows-channels tick name (channels signal) bands)
    ∙ ap (λ l. before ++ stream_rows tick l bands) shown

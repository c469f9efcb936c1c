-- Bands that are held take the place of others, channel by channel and feed by feed.
use Rattle.std.proofs.Common.{◌≡◌, ◌∙◌, ℕ, zero, suc, ◌+◌, ◌<◌, List, [], ◌∷◌, length, take, get_or, set, Option, Some, None, refl, sym, ap, arith, get_or-set_same, add-one}
use Rattle.std.proofs.lemmas.List.{set-set}
use Rattle.quant.specs.Interval.{Interval}
use Rattle.relaxation.specs.Tube.{Tube, at}
use Rattle.feeds.specs.Held.{covered}
use Rattle.feeds.specs.Filling.{covered_at}

-- as many bands are left
pub covered_length : (held : List (Option Interval)) (bands : List Interval) → length (covered held bands) ≡ length bands
covered_length [] bands = refl
covered_length (one ∷ held) [] = refl
covered_length (None ∷ held) (band ∷ bands) = ap suc (covered_length held bands)
covered_length (Some other ∷ held) (band ∷ bands) = ap suc (covered_length held bands)

-- what a channel has, where it is held and where it is not
abbrev put : List Interval → ℕ → Option Interval → List Interval
put bands c None = bands
put bands c (Some band) = set bands c band

put-behind : (first : Interval) (bands : List Interval) (c : ℕ) (one : Option Interval) →
    first ∷ put bands c one ≡ put (first ∷ bands) (suc c) one
put-behind first bands c None = refl
put-behind first bands c (Some band) = refl

-- one channel more
covers-more : (held : List (Option Interval)) (bands : List Interval) (c : ℕ) (d : Option Interval) →
    c < length held → length held ≡ length bands →
    covered (take (suc c) held) bands ≡ put (covered (take c held) bands) c (get_or held c d)
covers-more [] bands c d l same = absurd (omega arith)
covers-more (one ∷ held) [] c d l same = absurd (omega arith)
covers-more (None ∷ held) (band ∷ bands) zero d l same = refl
covers-more (Some other ∷ held) (band ∷ bands) zero d l same = refl
covers-more (None ∷ held) (band ∷ bands) (suc c) d l same =
    ap (λ (rest : List Interval). band ∷ rest) (covers-more held bands c d (omega arith) (omega arith))
    ∙ put-behind band (covered (take c held) bands) c (get_or held c d)
covers-more (Some other ∷ held) (band ∷ bands) (suc c) d l same =
    ap (λ (rest : List Interval). other ∷ rest) (covers-more held bands c d (omega arith) (omega arith))
    ∙ put-behind other (covered (take c held) bands) c (get_or held c d)

module _ (held : List (Option Interval)) (tick c : ℕ) (old tube : Tube) (one : Option Interval) (there : tick < length old)
    (channels : length held ≡ length (at old tick)) (l : c < length held) (is : one ≡ get_or held c one)
    (before : tube ≡ covered_at (take c held) tick old) where
  row-is : at tube tick ≡ covered (take c held) (at old tick)
  row-is = ap (λ (t : Tube). at t tick) before ∙ get_or-set_same old tick (covered (take c held) (at old tick)) [] there

  pub channel-there : c < length (at tube tick)
  channel-there = omega (arith, ap length row-is, covered_length (take c held) (at old tick))

  rows-more : put (at tube tick) c one ≡ covered (take (c + 1) held) (at old tick)
  rows-more = ap (λ (row : List Interval). put row c one) row-is
      ∙ ap (put (covered (take c held) (at old tick)) c) is
      ∙ sym (covers-more held (at old tick) c one l channels)
      ∙ ap (λ n. covered (take n held) (at old tick)) (sym (add-one c))

  pub cover-more : (band : Interval) (new : Tube) → one ≡ Some band → new ≡ set tube tick (set (at tube tick) c band) →
      new ≡ covered_at (take (c + 1) held) tick old
  cover-more band new some e = e
      ∙ ap (λ (o : Option Interval). set tube tick (put (at tube tick) c o)) (sym some)
      ∙ ap (set tube tick) rows-more
      ∙ ap (λ (t : Tube). set t tick (covered (take (c + 1) held) (at old tick))) before
      ∙ set-set old tick _ _

  pub cover-same : (new : Tube) → one ≡ None → new ≡ tube → new ≡ covered_at (take (c + 1) held) tick old
  cover-same new none e = e ∙ before
      ∙ ap (set old tick) (sym row-is ∙ ap (put (at tube tick) c) (sym none) ∙ rows-more)

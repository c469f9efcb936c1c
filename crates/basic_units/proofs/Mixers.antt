-- What the row of a mixer holds, and what one more stream adds.
use Rattle.std.proofs.Common.{◌≡◌, ℕ, zero, suc, ◌+◌, ◌-◌, ◌*◌, ◌<◌, ◌≤◌, ℤ, pos, ◌+ℤ◌, List, [], ◌∷◌, length, get_or, refl, sym, ap, subst, ◌∙◌, arith, lit<}
use Rattle.std.proofs.lemmas.Int.{ints}
use Rattle.std.specs.Prelude.{slice_index_or}
use Rattle.quant.specs.Interval.{Interval, Holds, IsInside, AllHold, AllInside, wide, widest, point}
use Rattle.quant.specs.Limits.{wide_from}
use Rattle.quant.specs.Hull.{hull2, hull4, IsHull, IsValue2}
use Rattle.quant.specs.Rounding.{Floor}
use Rattle.quant.specs.Operation.{mix}
use Rattle.quant.specs.Term.{value, interval}
use Rattle.quant.proofs.Calls.{read-inside, inside-length, held-length}
use Rattle.quant.proofs.Terms.{place-holds, place-inside}
use Rattle.basic_units.specs.Mixer.{flow_of, content_of, streams}

-- the limits of one stream, at their places
abbrev stream : List Interval
stream = wide_from (pos 0) ∷ wide ∷ wide ∷ []

first-stream : (n channel : ℕ) → channel < 3 →
    slice_index_or (streams (suc n)) channel (point (pos 0)) ≡ slice_index_or stream channel (point (pos 0))
first-stream n zero h = refl
first-stream n (suc zero) h = refl
first-stream n (suc (suc zero)) h = refl
first-stream n (suc (suc (suc c))) h = absurd (omega arith)

pub stream-at : (n i channel place : ℕ) → i < n → channel < 3 → place ≡ 3 * i + channel →
    slice_index_or (streams n) place (point (pos 0)) ≡ slice_index_or stream channel (point (pos 0))
stream-at zero i c p h k e = absurd (omega arith)
stream-at (suc n) zero c p h k e = ap (λ x. slice_index_or (streams (suc n)) x (point (pos 0))) (omega arith) ∙
    first-stream n c k
stream-at (suc n) (suc i) c p h k e =
    let further : p ≡ suc (suc (suc (3 * i + c))) = omega arith in
    ap (λ x. slice_index_or (streams (suc n)) x (point (pos 0))) further ∙
    stream-at n i c (3 * i + c) (omega arith) k refl

pub streams-length : (n : ℕ) → length (streams n) ≡ 3 * n
streams-length zero = refl
streams-length (suc n) = omega (arith, streams-length n)

-- so the channels of each stream lie there
pub channel-held : (n i channel place : ℕ) (ins : List ℤ) → AllHold (streams n) ins → i < n → channel < 3 →
    place ≡ 3 * i + channel →
    Holds (slice_index_or stream channel (point (pos 0))) (slice_index_or ins place (pos 0))
channel-held n i c p ins h k l e = subst (λ (A : Interval). Holds A (slice_index_or ins p (pos 0)))
    (stream-at n i c p k l e) (place-holds (streams n) ins p h)

pub channel-inside : (n i channel place : ℕ) (ins : List Interval) (r : Interval) → AllInside ins (streams n) → i < n →
    channel < 3 → place ≡ 3 * i + channel → r ≡ get_or ins place r →
    IsInside r (slice_index_or stream channel (point (pos 0)))
channel-inside n i c p ins r h k l e g =
    let m = inside-length ins (streams n) h in
    read-inside ins p r _ (omega (arith, streams-length n)) g
    (subst (λ (A : Interval). IsInside (slice_index_or ins p (point (pos 0))) A) (stream-at n i c p k l e)
    (place-inside ins (streams n) p h))

-- the channels of stream i lie where a mix takes them
pub record AreChannels (ins : List ℤ) (i : ℕ) : Type 0 where
  pub flow : Holds (wide_from (pos 0)) (slice_index_or ins (3 * i) (pos 0))
  pub conc : Holds wide (slice_index_or ins (3 * i + 1) (pos 0))
  pub temp : Holds wide (slice_index_or ins (3 * i + 2) (pos 0))

pub record AreChannelBands (A B C : Interval) : Type 0 where
  pub flow : IsInside A (wide_from (pos 0))
  pub conc : IsInside B wide
  pub temp : IsInside C wide

pub channels-inside : (n i : ℕ) (ins : List Interval) (A B C : Interval) → AllInside ins (streams n) → i < n →
    A ≡ get_or ins (3 * i) A → B ≡ get_or ins (3 * i + 1) B → C ≡ get_or ins (3 * i + 2) C → AreChannelBands A B C
channels-inside n i ins A B C h k e d t = record {
  flow = channel-inside n i 0 (3 * i) ins A h k (lit< tt) (omega arith) e;
  conc = channel-inside n i 1 (3 * i + 1) ins B h k (lit< tt) refl d;
  temp = channel-inside n i 2 (3 * i + 2) ins C h k (lit< tt) refl t;
}

pub channels-held : (n i : ℕ) (ins : List ℤ) → AllHold (streams n) ins → i < n → AreChannels ins i
channels-held n i ins h k = record {
  flow = channel-held n i 0 (3 * i) ins h k (lit< tt) (omega arith);
  conc = channel-held n i 1 (3 * i + 1) ins h k (lit< tt) refl;
  temp = channel-held n i 2 (3 * i + 2) ins h k (lit< tt) refl;
}

-- and their places are there
pub streams_held : (n : ℕ) (ins : List ℤ) → AllHold (streams n) ins → length ins ≡ 3 * n
streams_held n ins h = held-length (streams n) ins h ∙ streams-length n

pub streams_inside : (n : ℕ) (ins : List Interval) → AllInside ins (streams n) → length ins ≡ 3 * n
streams_inside n ins h = inside-length ins (streams n) h ∙ streams-length n

-- the flows of n streams together
abbrev pub flows_of : ℕ → Interval
flows_of n = record { lo = pos 0; hi = pos (widest * n) }

-- the streams before i are mixed, as numbers
pub record AreMixed (ins : List ℤ) (i : ℕ) (flow conc temp : ℤ) : Type 0 where
  pub flow_is : flow ≡ value Floor [] ins (flow_of (i - 1))
  pub conc_is : conc ≡ value Floor [] ins (content_of 1 (i - 1))
  pub temp_is : temp ≡ value Floor [] ins (content_of 2 (i - 1))
  pub flow_held : Holds (flows_of i) flow
  pub conc_held : Holds wide conc
  pub temp_held : Holds wide temp

-- and as bands
pub record AreMixedBands (ins : List Interval) (i : ℕ) (flow conc temp : Interval) : Type 0 where
  pub flow_is : flow ≡ interval Floor [] ins (flow_of (i - 1))
  pub conc_is : conc ≡ interval Floor [] ins (content_of 1 (i - 1))
  pub temp_is : temp ≡ interval Floor [] ins (content_of 2 (i - 1))
  pub flow_held : IsInside flow (flows_of i)
  pub conc_held : IsInside conc wide
  pub temp_held : IsInside temp wide

-- one more stream
next : (i : ℕ) → 1 ≤ i → i + 1 - 1 ≡ suc (i - 1)
next i h = omega arith

back : (i : ℕ) → 1 ≤ i → suc (i - 1) ≡ i
back i h = omega arith

pub flow-more : (ins : List ℤ) (i : ℕ) → 1 ≤ i →
    value Floor [] ins (flow_of (i - 1)) +ℤ slice_index_or ins (3 * i) (pos 0) ≡ value Floor [] ins
    (flow_of (i + 1 - 1))
flow-more ins i h =
    ap (λ n. value Floor [] ins (flow_of (i - 1)) +ℤ slice_index_or ins (3 * n) (pos 0)) (sym (back i h)) ∙
    ap (λ n. value Floor [] ins (flow_of n)) (sym (next i h))

pub content-more : (ins : List ℤ) (channel i : ℕ) → 1 ≤ i →
    mix Floor (value Floor [] ins (content_of channel (i - 1))) (slice_index_or ins (3 * i + channel) (pos 0))
    (value Floor [] ins (flow_of (i - 1))) (slice_index_or ins (3 * i) (pos 0))
    ≡ value Floor [] ins (content_of channel (i + 1 - 1))
content-more ins c i h =
    ap (λ n. mix Floor (value Floor [] ins (content_of c (i - 1))) (slice_index_or ins (3 * n + c) (pos 0))
    (value Floor [] ins (flow_of (i - 1))) (slice_index_or ins (3 * n) (pos 0))) (sym (back i h))
    ∙ ap (λ n. value Floor [] ins (content_of c n)) (sym (next i h))

pub flow-more_bands : (ins : List Interval) (i : ℕ) → 1 ≤ i →
    hull2 ◌+ℤ◌ (interval Floor [] ins (flow_of (i - 1))) (slice_index_or ins (3 * i) (point (pos 0)))
    ≡ interval Floor [] ins (flow_of (i + 1 - 1))
flow-more_bands ins i h =
    ap (λ n. hull2 ◌+ℤ◌ (interval Floor [] ins (flow_of (i - 1))) (slice_index_or ins (3 * n) (point (pos 0))))
    (sym (back i h)) ∙ ap (λ n. interval Floor [] ins (flow_of n)) (sym (next i h))

pub content-more_bands : (ins : List Interval) (channel i : ℕ) → 1 ≤ i →
    hull4 (mix Floor) (interval Floor [] ins (content_of channel (i - 1)))
    (slice_index_or ins (3 * i + channel) (point (pos 0))) (interval Floor [] ins (flow_of (i - 1)))
    (slice_index_or ins (3 * i) (point (pos 0)))
    ≡ interval Floor [] ins (content_of channel (i + 1 - 1))
content-more_bands ins c i h =
    ap (λ n. hull4 (mix Floor) (interval Floor [] ins (content_of c (i - 1)))
    (slice_index_or ins (3 * n + c) (point (pos 0))) (interval Floor [] ins (flow_of (i - 1)))
    (slice_index_or ins (3 * n) (point (pos 0)))) (sym (back i h))
    ∙ ap (λ n. interval Floor [] ins (content_of c n)) (sym (next i h))

-- sums and mixes stay where their parts are
pub sum-inside : (i : ℕ) (A B R : Interval) → IsInside A (flows_of i) → IsInside B (wide_from (pos 0)) →
    IsHull (IsValue2 ◌+ℤ◌ A B) R → IsInside R (flows_of (i + 1))
sum-inside i A B R a b h =
    let l = h.low in
    let g = h.high in
    record {
      above = omega (arith, ints, l.1.above, l.2.1.above, l.2.2);
      below = omega (arith, ints, g.1.below, g.2.1.below, g.2.2);
    }

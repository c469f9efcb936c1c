use Rattle.std.proofs.Common.{◌≡◌, ℕ, ◌+◌, ◌<◌, ◌≤◌, List, [], ◌++◌, false, refl, vec_len, length-drop, take, drop, length, Option, Some, None, IfSome, sym, ap, subst, ◌∙◌, arith}
use Rattle.std.proofs.Math.Seq.{take-add}
use Rattle.std.proofs.lemmas.List.{take_all, length-take, length-take-le, drop-drop, take-append-le}
use Rattle.std.proofs.lemmas.Bool.{false≢true}
use Rattle.flow_edge.specs.ReadText.{ReadsUp}
use Rattle.flow_edge.specs.Source.{Reads, ReadsFront}
use Rattle.flow_edge.proofs.reading.read_up.Goals as goal

-- one read of n bytes goes on with the text
front-more : (text bytes all into_old into_new rest : List ℕ) (after : Option (List ℕ)) (k m n : ℕ) →
    bytes ≡ take k text → ReadsFront (drop k text) after into_old into_new n → n ≤ length into_new →
    all ≡ bytes ++ take n (into_new ++ rest) → m ≡ k + n → (all ≡ take m text) × (after ≡ Some (drop m text))
front-more text bytes all into_old into_new rest after k m n h r within e f = (
  e ∙ ap (λ xs. bytes ++ xs) (take-append-le n into_new rest within ∙ r.bytes) ∙ ap (λ xs. xs ++ take n (drop k text)) h ∙ sym (take-add k n text) ∙ ap (λ i. take i text) (sym f),
  r.rest ∙ ap Some (drop-drop n k text) ∙ ap (λ i. Some (drop i text)) (sym f),
)

consumed-more : (o before after : Option (List ℕ)) (bytes all into_old into_new rest : List ℕ) (k m n : ℕ) →
    IfSome o (λ text. (bytes ≡ take k text) × (before ≡ Some (drop k text))) → Reads before after into_old into_new n → n ≤ length into_new →
    all ≡ bytes ++ take n (into_new ++ rest) → m ≡ k + n →
    IfSome o (λ text. (all ≡ take m text) × (after ≡ Some (drop m text)))
consumed-more None before after bytes all into_old into_new rest k m n h r within e f = tt
consumed-more (Some text) before after bytes all into_old into_new rest k m n h r within e f =
    let front : ReadsFront (drop k text) after into_old into_new n = subst (λ b. IfSome b (λ t. ReadsFront t after into_old into_new n)) h.1 r.told in
    front-more text bytes all into_old into_new rest after k m n h.0 front within e f

-- what was read is all that there was
all-read : (o left after : Option (List ℕ)) (bytes into_old into_new : List ℕ) (k most : ℕ) →
    IfSome o (λ text. (bytes ≡ take k text) × (left ≡ Some (drop k text))) → Reads left after into_old into_new 0 → 0 < length into_old →
    k ≤ most → IfSome o (λ text. ReadsUp most text (record { bytes = bytes; more = false }) after)
all-read None left after bytes into_old into_new k most h r room within = tt
all-read (Some text) left after bytes into_old into_new k most h r room within =
    let front : ReadsFront (drop k text) after into_old into_new 0 = subst (λ b. IfSome b (λ t. ReadsFront t after into_old into_new 0)) h.1 r.told in
    let none : drop k text ≡ [] = front.ends room refl in
    let short : length text ≤ k = omega (arith, ap length none, length-drop k text) in
    record {
      bytes = h.0 ∙ take_all k text short ∙ sym (take_all most text (omega arith));
      more = (λ e. absurd (false≢true e), λ lt. absurd (omega arith));
      rest = front.rest ∙ ap Some none;
    }

pub returns-then-n-eq0-clause-ok : goal.returns-then-n-eq0-clause-ok
returns-then-n-eq0-clause-ok g c =
    let r = rw c.if-n-eq0.true at c.in-Ok.ensures.ok in
    all-read _ _ _ _ _ _ _ _ c.reading.invariant.consumed r
    (simp length-take (omega arith)) (omega arith)

pub reading-preserved : goal.reading-preserved
reading-preserved g c =
    let enough : c.in-Ok.n ≤ length c.read.new.into = omega (arith, c.in-Ok.ensures.ok.fits, c.read.auto.into) in
    let longer : vec_len c.extend_from_slice.new.self ≡ vec_len c.reading.bytes + c.in-Ok.n =
    c.in_ok-extend_from_slice.ensures.len ∙ ap (λ xs. vec_len c.reading.bytes + length xs) (take-append-le c.in-Ok.n c.read.new.into _ enough) ∙ ap (λ i. vec_len c.reading.bytes + i) (length-take-le c.in-Ok.n c.read.new.into enough) in
    let room : length (take c.min-room.result c.reading.buffer) ≤ c.min-room.result = simp length-take (omega arith) in
    record {
      consumed = consumed-more _ _ _ _ _ _ _ _ _ _ _ c.reading.invariant.consumed c.in-Ok.ensures.ok enough c.in_ok-extend_from_slice.ensures.items longer;
      untold = λ e. c.in-Ok.ensures.ok.untold (c.reading.invariant.untold e);
      within = omega (arith, c.in-Ok.ensures.ok.fits);
      counted = omega (arith, c.reading.invariant.counted, c.in-Ok.ensures.counted);
    }

-- Histories that begin with a tube, and one more version of them.
use Rattle.std.proofs.Common.{◌≡◌, ℕ, ◌+◌, ◌-◌, ◌<◌, ◌^◌, List, [], ◌∷◌, ◌++◌, length, length-append, false, inl, inr, refl, sym, subst, subst₂, ap, ◌∙◌, arith}
use Rattle.std.specs.Int.{int_min, int_max}
use Rattle.std.proofs.lemmas.Int.{ints, clamps}
use Rattle.std.proofs.lemmas.Bool.{cases_lt}
use Rattle.std.proofs.lemmas.List.{get_or_append_left, get_or_push}
use Rattle.quant.proofs.Calls.{same_cons}
use Rattle.quant.specs.Interval.{Interval, AllInside, IsInside}
use Rattle.relaxation.specs.Tube.{Tube, IsWithin, IsNarrower, is_within, meet_bands, meet}
use Rattle.relaxation.specs.History.{Version, History, no_version, numbered}
use Rattle.relaxation.proofs.Meets.{within-itself, within-through, within-test}
use Rattle.tubes.specs.Shape.{HasShapeOf}
use Rattle.stream_cell.specs.Histories.{opened, newest, next_version, IsHistoryOf, Judges}
use Rattle.stream_cell.specs.declared.head.CellMet.{CellMet}
use Rattle.stream_cell.specs.declared.head.CellMet.TheVariants as answer
use Rattle.stream_cell.specs.declared.head.Uses.{Uses}
use Rattle.stream_cell.proofs.Flats.{newest_pushed}
use Rattle.stream_cell.proofs.Passing.{begins_itself, begins_more}

-- the numbers that two bands have in common lie in both
common-left : (A B : Interval) → IsInside (record { lo = int_max A.lo B.lo; hi = int_min A.hi B.hi }) A
common-left A B = record { above = omega (arith, ints, clamps); below = omega (arith, ints, clamps) }

common-right : (A B : Interval) → IsInside (record { lo = int_max A.lo B.lo; hi = int_min A.hi B.hi }) B
common-right A B = record { above = omega (arith, ints, clamps); below = omega (arith, ints, clamps) }

-- so does the meet of as many bands
bands-both : (As Bs : List Interval) → length As ≡ length Bs → AllInside (meet_bands As Bs) As × AllInside (meet_bands As Bs) Bs
bands-both [] [] h = (tt, tt)
bands-both [] (B ∷ Bs) h = absurd (omega arith)
bands-both (A ∷ As) [] h = absurd (omega arith)
bands-both (A ∷ As) (B ∷ Bs) h =
    let rest = bands-both As Bs (omega arith) in
    ((common-left A B, rest.0), (common-right A B, rest.1))

-- and of two tubes of one shape
meet-both : (A B : Tube) → HasShapeOf A B → IsWithin (meet A B) A × IsWithin (meet A B) B
meet-both [] [] h = (tt, tt)
meet-both [] (B ∷ Bs) h = cc
meet-both (A ∷ As) [] h = cc
meet-both (A ∷ As) (B ∷ Bs) h =
    let same : length A ≡ length B = cc in
    let alike : HasShapeOf As Bs = cc in
    let first = bands-both A B same in
    let rest = meet-both As Bs alike in
    ((first.0, rest.0), (first.1, rest.1))

-- it is narrower than a tube that does not lie in the other
meet-narrower : (A B : Tube) → HasShapeOf A B → is_within A B ≡ false → IsNarrower (meet A B) A
meet-narrower A B h e = record {
  within = (meet-both A B h).0;
  other = λ same. (let within = within-test A B (subst (λ C. IsWithin C B) same (meet-both A B h).1) in cc);
}

-- a tube in another has its shape
inside-length : (As Bs : List Interval) → AllInside As Bs → length As ≡ length Bs
inside-length [] [] h = refl
inside-length [] (B ∷ Bs) h = absurd h
inside-length (A ∷ As) [] h = absurd h
inside-length (A ∷ As) (B ∷ Bs) h = let rest = inside-length As Bs h.1 in omega arith

pub within_shape : (A B : Tube) → IsWithin A B → HasShapeOf A B
within_shape [] [] h = refl
within_shape [] (B ∷ Bs) h = absurd h
within_shape (A ∷ As) [] h = absurd h
within_shape (A ∷ As) (B ∷ Bs) h = same_cons _ _ _ _ (inside-length A B h.0) (within_shape As Bs h.1)

-- the opening tube alone
first-alone : (k : ℕ) → k < 1 → k ≡ 0
first-alone k h = omega arith

pub opened_history : (opening : Tube) → IsHistoryOf opening (opened opening)
opened_history opening = record {
  ordered = record {
    opened = omega arith;
    numbers = λ k l. subst (λ i. (numbered (opened opening) i).number ≡ i) (sym (first-alone k l)) refl;
    narrower = λ k l. absurd (omega arith);
    later = λ k l. absurd (omega arith);
  };
  opens = begins_itself (opened opening);
  few = omega arith;
  inside = λ k l. subst (λ i. IsWithin (numbered (opened opening) i).tube opening) (sym (first-alone k l)) (within-itself opening);
  stamps = omega arith;
}

-- its first version is the opening tube
pub first_tube : (opening : Tube) (history : History) → IsHistoryOf opening history → (numbered history 0).tube ≡ opening
first_tube opening history is = ap (λ (all : History). (numbered all 0).tube) is.opens.1

-- one more version
module _ (history : History) (version : Version) where
  longer : length (history ++ version ∷ []) ≡ length history + 1
  longer = length-append history (version ∷ [])

  stays : (k : ℕ) → k < length history → numbered (history ++ version ∷ []) k ≡ numbered history k
  stays k h = get_or_append_left history (version ∷ []) no_version k h

  comes : (k : ℕ) → length history ≡ k → numbered (history ++ version ∷ []) k ≡ version
  comes k e = get_or_push history version no_version k e

  module _ (opening : Tube) (is : IsHistoryOf opening history) where
    some : 0 < length history
    some = is.ordered.opened

    -- what is so of each version and the next, and of the last and the new one
    each-next : (R : Version → Version → Type 0) → ((k : ℕ) → k + 1 < length history → R (numbered history (k + 1)) (numbered history k)) →
        R version (newest history) → (k : ℕ) → k + 1 < length (history ++ version ∷ []) →
        R (numbered (history ++ version ∷ []) (k + 1)) (numbered (history ++ version ∷ []) k)
    each-next R before now k l = elim (cases_lt (k + 1) (length history)) [
      | inl m ↦ subst₂ R (sym (stays (k + 1) m)) (sym (stays k (omega arith))) (before k m)
      | inr m ↦
          let there = some in
          let long = longer in
          let e : length history ≡ k + 1 = omega arith in
          let g : length history - 1 ≡ k = omega arith in
          subst₂ R (sym (comes (k + 1) e)) (ap (numbered history) g ∙ sym (stays k (omega arith))) now
    ]

    -- and of each version
    each : (P : ℕ → Version → Type 0) → ((k : ℕ) → k < length history → P k (numbered history k)) → P (length history) version →
        (k : ℕ) → k < length (history ++ version ∷ []) → P k (numbered (history ++ version ∷ []) k)
    each P before now k l = elim (cases_lt k (length history)) [
      | inl m ↦ subst (P k) (sym (stays k m)) (before k m)
      | inr m ↦
          let long = longer in
          let e : length history ≡ k = omega arith in
          subst (P k) (sym (comes k e)) (subst (λ i. P i version) e now)
    ]

    pub pushed_history : version.number ≡ length history → IsNarrower version.tube (newest history).tube → (newest history).stamp < version.stamp →
        version.stamp < 2 ^ 62 + (length history + 1) → length history < 33 → IsHistoryOf opening (history ++ version ∷ [])
    pushed_history number narrow late stamp few =
        let there = some in
        let long = longer in
        let last : length history - 1 < length history = omega arith in
        record {
          ordered = record {
            opened = omega arith;
            numbers = each (λ k one. one.number ≡ k) is.ordered.numbers number;
            narrower = each-next (λ next one. IsNarrower next.tube one.tube) is.ordered.narrower narrow;
            later = each-next (λ next one. one.stamp < next.stamp) is.ordered.later late;
          };
          opens = begins_more (opened opening) history version is.opens;
          few = omega arith;
          inside = each (λ k one. IsWithin one.tube opening) is.inside
              (within-through version.tube (newest history).tube opening narrow.within (is.inside (length history - 1) last));
          stamps = subst₂ (λ k (one : Version). one.stamp < 2 ^ 62 + k) (sym longer) (sym (newest_pushed history version)) stamp;
        }

-- the version that a maker appends
appended-history : (opening renewal : Tube) (history : History) (maker : ℕ) (uses : Uses) → IsHistoryOf opening history →
    HasShapeOf (newest history).tube renewal → uses.base < 2 ^ 62 → is_within (newest history).tube renewal ≡ false → length history < 33 →
    IsHistoryOf opening (history ++ next_version history maker renewal uses ∷ [])
appended-history opening renewal history maker uses is shape base narrows few =
    let stamp = is.stamps in
    pushed_history history (next_version history maker renewal uses) opening is refl (meet-narrower (newest history).tube renewal shape narrows)
    (omega arith) (omega arith) few

pub judged_history : (opening renewal : Tube) (old new : History) (maker : ℕ) (uses : Uses) (met : CellMet) → IsHistoryOf opening old →
    HasShapeOf (newest old).tube renewal → uses.base < 2 ^ 62 → Judges met old maker renewal uses new → IsHistoryOf opening new
judged_history opening renewal old new maker uses answer.Busy is shape base h = absurd h
judged_history opening renewal old new maker uses (answer.Empty tick channel) is shape base h = subst (IsHistoryOf opening) (sym h.1) is
judged_history opening renewal old new maker uses (answer.Same number) is shape base h = subst (IsHistoryOf opening) (sym h.3) is
judged_history opening renewal old new maker uses (answer.Full number) is shape base h = subst (IsHistoryOf opening) (sym h.4) is
judged_history opening renewal old new maker uses (answer.Narrowed number stamp) is shape base h =
    subst (IsHistoryOf opening) (sym h.5) (appended-history opening renewal old maker uses is shape base h.1 h.2)

-- the last version can be met
pub newest_shape : (opening renewal : Tube) (history : History) → IsHistoryOf opening history → HasShapeOf opening renewal → HasShapeOf (newest history).tube renewal
newest_shape opening renewal history is shape =
    let there : 0 < length history = is.ordered.opened in
    let last : length history - 1 < length history = omega arith in
    within_shape (newest history).tube opening (is.inside (length history - 1) last) ∙ shape

pub newest_stamp : (opening : Tube) (history : History) → IsHistoryOf opening history → (newest history).stamp + 1 < 2 ^ 64
newest_stamp opening history is =
    let stamp = is.stamps in
    let few = is.few in
    omega arith

-- Named versions are read in port by port.
use Rattle.std.proofs.Common.{◌≡◌, ◌∙◌, ℕ, zero, suc, ◌+◌, ◌<◌, ◌≤◌, List, [], ◌∷◌, ◌++◌, length, map, pos, slice_index_or, slice_index, refl, sym, ap, subst, arith, inl, inr, get_or-set_same, get_or-set_other}
use Rattle.std.specs.Prelude.{slice_set}
use Rattle.std.proofs.lemmas.Bool.{cases_eq, cases_lt}
use Rattle.std.proofs.lemmas.List.{ext_get_or, get_or_past}
use Rattle.std.proofs.Math.ListN.{get_or-map}
use Rattle.quant.specs.Interval.{point}
use Rattle.quant.proofs.Calls.{inside-length, same_cons}
use Rattle.relaxation.specs.Tube.{Tube, IsWithin, at}
use Rattle.relaxation.specs.Window.{row_of}
use Rattle.relaxation.specs.Core.{Versions, versions_of, version_at, named, AreThere}
use Rattle.tubes.specs.Meeting.{IsFirstDifference}
use Rattle.tubes.specs.Shape.{HasShapeOf}
use Rattle.renewal.specs.Plan.{PlanOf, window_of}
use Rattle.renewal.specs.Room.{AreOpened}
use Rattle.renewal.proofs.Openings.{set-opened}
use Rattle.relax_core.specs.Making.{AreVersionsWithin}
use Rattle.relax_core.specs.Rooms.{AreSameTicks}

-- tubes in one another have one shape
pub within-shape : (A B : Tube) → IsWithin A B → HasShapeOf A B
within-shape [] [] h = refl
within-shape [] (B ∷ Bs) h = absurd h
within-shape (A ∷ As) [] h = absurd h
within-shape (A ∷ As) (B ∷ Bs) h = same_cons (length A) (length B) (map length As) (map length Bs) (inside-length A B h.0) (within-shape As Bs h.1)

pub opened-counted : (plan : PlanOf) (streams : List ℕ) (tubes : List Tube) → AreOpened plan streams tubes → length tubes ≡ length streams
opened-counted plan [] [] h = refl
opened-counted plan [] (tube ∷ tubes) h = absurd h
opened-counted plan (s ∷ streams) [] h = absurd h
opened-counted plan (s ∷ streams) (tube ∷ tubes) h = ap suc (opened-counted plan streams tubes h.1)

opened-at : (plan : PlanOf) (streams : List ℕ) (tubes : List Tube) (p : ℕ) → AreOpened plan streams tubes → p < length streams →
    IsWithin (slice_index_or tubes p []) ((window_of plan).opening (slice_index streams p))
opened-at plan [] tubes p h l = absurd (omega arith)
opened-at plan (s ∷ streams) [] p h l = absurd h
opened-at plan (s ∷ streams) (tube ∷ tubes) zero h l = h.0
opened-at plan (s ∷ streams) (tube ∷ tubes) (suc p) h l = opened-at plan streams tubes p h.1 (omega arith)

-- the versions that are there, port by port
pub there-counted : (state : Versions) (reads numbers : List ℕ) → AreThere state reads numbers → length numbers ≡ length reads
there-counted state [] [] h = refl
there-counted state [] (k ∷ numbers) h = absurd h
there-counted state (s ∷ reads) [] h = absurd h
there-counted state (s ∷ reads) (k ∷ numbers) h = ap suc (there-counted state reads numbers h.1)

pub there-at : (state : Versions) (reads numbers : List ℕ) (p : ℕ) → AreThere state reads numbers → p < length reads →
    slice_index numbers p < length (versions_of state (slice_index reads p))
there-at state [] numbers p h l = absurd (omega arith)
there-at state (s ∷ reads) [] p h l = absurd h
there-at state (s ∷ reads) (k ∷ numbers) zero h l = h.0
there-at state (s ∷ reads) (k ∷ numbers) (suc p) h l = there-at state reads numbers p h.1 (omega arith)

pub there-each : (state : Versions) (reads numbers : List ℕ) → length numbers ≡ length reads →
    ((p : ℕ) → p < length reads → slice_index numbers p < length (versions_of state (slice_index reads p))) → AreThere state reads numbers
there-each state [] [] e h = tt
there-each state [] (k ∷ numbers) e h = absurd (omega arith)
there-each state (s ∷ reads) [] e h = absurd (omega arith)
there-each state (s ∷ reads) (k ∷ numbers) e h =
    (h 0 (omega arith), there-each state reads numbers (omega arith) (λ p l. h (suc p) (omega arith)))

pub named-counted : (state : Versions) (reads numbers : List ℕ) → length numbers ≡ length reads →
    length (named state reads numbers) ≡ length reads
named-counted state [] numbers e = refl
named-counted state (s ∷ reads) [] e = absurd (omega arith)
named-counted state (s ∷ reads) (k ∷ numbers) e = ap suc (named-counted state reads numbers (omega arith))

pub named-at : (state : Versions) (reads numbers : List ℕ) (p : ℕ) → length numbers ≡ length reads → p < length reads →
    slice_index_or (named state reads numbers) p [] ≡ version_at state (slice_index reads p) (slice_index numbers p)
named-at state [] numbers p e l = absurd (omega arith)
named-at state (s ∷ reads) [] p e l = absurd (omega arith)
named-at state (s ∷ reads) (k ∷ numbers) zero e l = refl
named-at state (s ∷ reads) (k ∷ numbers) (suc p) e l = named-at state reads numbers p (omega arith) (omega arith)

-- the versions at the ports below n are read in
pub record IsReading (plan : PlanOf) (state : Versions) (reads numbers : List ℕ) (n : ℕ) (tubes : List Tube) : Type 0 where
  pub opened : AreOpened plan reads tubes
  pub read : (p : ℕ) → p < n → slice_index_or tubes p [] ≡ version_at state (slice_index reads p) (slice_index numbers p)

pub reading-none : (plan : PlanOf) (state : Versions) (reads numbers : List ℕ) (tubes : List Tube) → AreOpened plan reads tubes →
    IsReading plan state reads numbers 0 tubes
reading-none plan state reads numbers tubes h = record { opened = h; read = λ p l. absurd (omega arith) }

module _ (plan : PlanOf) (state : Versions) (within : AreVersionsWithin plan state) (reads numbers : List ℕ) (there : AreThere state reads numbers) where
  named-shape : (n : ℕ) (tubes : List Tube) → n < length reads → IsReading plan state reads numbers n tubes →
      HasShapeOf (slice_index_or tubes n []) (version_at state (slice_index reads n) (slice_index numbers n))
  named-shape n tubes l r =
      within-shape _ _ (opened-at plan reads tubes n r.opened l)
      ∙ sym (within-shape _ _ (within (slice_index reads n) (slice_index numbers n) (there-at state reads numbers n there l)))

  named-more : (n : ℕ) (tubes : List Tube) → n < length reads → IsReading plan state reads numbers n tubes →
      IsReading plan state reads numbers (n + 1)
      (slice_set tubes n (version_at state (slice_index reads n) (slice_index numbers n)))
  named-more n tubes l r =
      let tube : Tube = version_at state (slice_index reads n) (slice_index numbers n) in
      record {
        opened = set-opened plan reads tubes n tube r.opened l
            (within (slice_index reads n) (slice_index numbers n) (there-at state reads numbers n there l));
        read = λ p m. elim (cases_eq p n) [
          | inl e ↦ subst (λ i. slice_index_or (slice_set tubes n tube) i [] ≡ version_at state (slice_index reads i) (slice_index numbers i)) (sym e)
              (get_or-set_same tubes n tube [] (omega (arith, opened-counted plan reads tubes r.opened)))
          | inr ne ↦ get_or-set_other tubes n p tube [] ne ∙ r.read p (omega arith)
        ];
      }

  -- one more, of the streams that were asked for, fits and is read in
  module _ (n : ℕ) (tubes : List Tube) (streams : List ℕ) (tube : Tube) (asked : streams ≡ reads) (l : n < length streams)
      (is : tube ≡ version_at state (slice_index streams n) (slice_index numbers n))
      (r : IsReading plan state reads numbers n tubes) where
    tube-named : tube ≡ version_at state (slice_index reads n) (slice_index numbers n)
    tube-named = is ∙ ap (λ (list : List ℕ). version_at state (slice_index list n) (slice_index numbers n)) asked

    pub reading-shape : HasShapeOf (slice_index_or tubes n []) tube
    reading-shape = subst (λ (t : Tube). HasShapeOf (slice_index_or tubes n []) t) (sym tube-named)
        (named-shape n tubes (omega (arith, ap length asked, l)) r)

    pub reading-more : IsReading plan state reads numbers (n + 1) (slice_set tubes n tube)
    reading-more = subst (λ (t : Tube). IsReading plan state reads numbers (n + 1) (slice_set tubes n t)) (sym tube-named)
        (named-more n tubes (omega (arith, ap length asked, l)) r)

  pub reading-whole : (n : ℕ) (tubes : List Tube) → length reads ≤ n → IsReading plan state reads numbers n tubes →
      tubes ≡ named state reads numbers
  reading-whole n tubes l r =
      let counted : length tubes ≡ length reads = opened-counted plan reads tubes r.opened in
      let numbered : length numbers ≡ length reads = there-counted state reads numbers there in
      ext_get_or [] tubes (named state reads numbers) (counted ∙ sym (named-counted state reads numbers numbered))
      (λ p m. r.read p (omega arith) ∙ sym (named-at state reads numbers p numbered (omega arith)))

-- tubes of one shape have the same bands before their first difference
pub same-before : (A B : Tube) (t c : ℕ) → HasShapeOf A B → IsFirstDifference A B t c → AreSameTicks t A B
same-before A B t c shape found q m =
    let counted : length (at A q) ≡ length (at B q) =
    sym (get_or-map length A q []) ∙ ap (λ counts. slice_index_or counts q 0) shape ∙ get_or-map length B q [] in
    ext_get_or (point (pos 0)) (at A q) (at B q) counted (λ d l. found.first q d (omega (arith, found.tick)) l (inl m))

-- the bands of inputs at a tick are those of others that have the same at each port
pub same-row : (tubes others : List Tube) (t : ℕ) → length tubes ≡ length others →
    ((p : ℕ) → at (slice_index_or tubes p []) t ≡ at (slice_index_or others p []) t) → row_of tubes t ≡ row_of others t
same-row [] [] t e h = refl
same-row [] (other ∷ others) t e h = absurd (omega arith)
same-row (tube ∷ tubes) [] t e h = absurd (omega arith)
same-row (tube ∷ tubes) (other ∷ others) t e h =
    ap (λ bands. bands ++ row_of tubes t) (h 0)
    ∙ ap (λ bands. at other t ++ bands) (same-row tubes others t (omega arith) (λ p. h (suc p)))

-- the tubes at each port have the same bands at the ticks below n
abbrev pub AreSamePorts : ℕ → List Tube → List Tube → Type 0
AreSamePorts n tubes others = (p : ℕ) → AreSameTicks n (slice_index_or tubes p []) (slice_index_or others p [])

-- where another tube is read, they have so below the tick at which it differs
pub same-read : (n m k : ℕ) (tubes others : List Tube) (i : ℕ) (tube : Tube) → k ≤ n → k ≤ m → i < length others →
    AreSamePorts n tubes others → AreSameTicks m (slice_index_or others i []) tube →
    AreSamePorts k tubes (slice_set others i tube)
same-read n m k tubes others i tube below least l same read p t q = elim (cases_eq p i) [
  | inl e ↦ same p t (omega arith) ∙ ap (λ j. at (slice_index_or others j []) t) e ∙ read t (omega arith)
      ∙ ap (λ found. at found t) (sym (get_or-set_same others i tube [] l))
      ∙ ap (λ j. at (slice_index_or (slice_set others i tube) j []) t) (sym e)
  | inr ne ↦ same p t (omega arith) ∙ ap (λ found. at found t) (sym (get_or-set_other others i p tube [] ne))
]

-- a stream with versions is there
pub stream-there : (state : Versions) (s k : ℕ) → k < length (versions_of state s) → s < length state
stream-there state s k l = elim (cases_lt s (length state)) [
  | inl m ↦ m
  | inr n ↦ (let none : versions_of state s ≡ [] = get_or_past state s [] n in absurd (omega (arith, ap length none)))
]

-- A text has one judgement at most, and what is found of it, step by step, is its judgement.
use Rattle.std.proofs.Common.{◌≡◌, ◌<◌, ◌≤◌, ℕ, List, length, Result, Ok, Err, refl, sym, ap, subst, ◌∙◌, arith}
use Rattle.std.proofs.Common.{inl, inr}
use Rattle.std.proofs.lemmas.Bool.{cases_lt}
use Rattle.parts.specs.Parts.{FileParts}
use Rattle.parts.specs.InRange.{AreInRange}
use Rattle.plant_checks.specs.Checks.{Checked}
use Rattle.plant.specs.Sound.{IsPlant}
use Rattle.plant.specs.Verdict.{IsVerdict}
use Rattle.plant_checks.specs.declared.fault.PlantFault.{PlantFault}
use Rattle.plant.proofs.PlantLaws.{verdict-unique}
use Rattle.flow_file.specs.Plant.{parts_in}
use Rattle.flow_file.specs.declared.fault.TextFault.{TextFault}
use Rattle.report.specs.declared.fault.TopFault.TheVariants as top
use Rattle.flow_top.specs.Faults.{fault_of_text, fault_of_plant}
use Rattle.flow_top.specs.Judged.{Judgement, most_bytes, IsJudged, too_long, unreadable, unbuilt, built}

-- no text is both longer than the most bytes and not
apart : (n : ℕ) → most_bytes < n → n ≤ most_bytes → ⊥
apart n long short = omega arith

-- the verdict on a plant
passed : (parts : FileParts) → IsPlant parts → IsVerdict parts (Ok tt)
passed parts plant = (plant.passes, plant.ranked, plant.shallow)

-- the judgement of parts by their verdict
abbrev of_verdict : FileParts → Checked → Judgement
of_verdict parts (Ok done) = Ok parts
of_verdict parts (Err fault) = Err (fault_of_plant fault)

module _ (text : List ℕ) (other : Judgement) where
  -- every judgement of a text from which parts are read is that of their verdict
  by_verdict : (parts : FileParts) (verdict : Checked) → length text ≤ most_bytes → parts_in text ≡ Ok parts →
      IsVerdict parts verdict →
      IsJudged text other → other ≡ of_verdict parts verdict
  by_verdict parts verdict short read is (too_long long e) = absurd (apart (length text) long short)
  by_verdict parts verdict short read is (unreadable fault s r e) = absurd (cc (read, r))
  by_verdict parts verdict short read is (unbuilt found fault s r v e) =
      let same : found ≡ parts = cc (read, r) in
      e ∙ ap (of_verdict parts)
      (verdict-unique parts (Err fault) verdict (subst (λ p. IsVerdict p (Err fault)) same v) is)
  by_verdict parts verdict short read is (built found s r plant e) =
      let same : found ≡ parts = cc (read, r) in
      e ∙ ap Ok same
      ∙ ap (of_verdict parts)
      (verdict-unique parts (Ok tt) verdict (subst (λ p. IsVerdict p (Ok tt)) same (passed found plant)) is)

  -- every judgement of a text that is no plant's
  by_reading : (fault : TextFault) → length text ≤ most_bytes → parts_in text ≡ Err fault → IsJudged text other →
      other ≡ Err (fault_of_text fault)
  by_reading fault short read (too_long long e) = absurd (apart (length text) long short)
  by_reading fault short read (unreadable found s r e) =
      let same : found ≡ fault = cc (read, r) in e ∙ ap (λ f. Err (fault_of_text f)) same
  by_reading fault short read (unbuilt parts found s r v e) = absurd (cc (read, r))
  by_reading fault short read (built parts s r plant e) = absurd (cc (read, r))

  -- every judgement of a text longer than the most bytes
  by_length : most_bytes < length text → IsJudged text other → other ≡ Err top.TooLong
  by_length long (too_long l e) = e
  by_length long (unreadable fault s r e) = absurd (apart (length text) long s)
  by_length long (unbuilt parts fault s r v e) = absurd (apart (length text) long s)
  by_length long (built parts s r plant e) = absurd (apart (length text) long s)

-- there is one judgement of a text at most
pub judgement-unique : (text : List ℕ) (one other : Judgement) → IsJudged text one → IsJudged text other → one ≡ other
judgement-unique text one other (too_long long e) j = e ∙ sym (by_length text other long j)
judgement-unique text one other (unreadable fault short read e) j = e ∙ sym (by_reading text other fault short read j)
judgement-unique text one other (unbuilt parts fault short read v e) j =
    e ∙ sym (by_verdict text other parts (Err fault) short read v j)
judgement-unique text one other (built parts short read plant e) j =
    e ∙ sym (by_verdict text other parts (Ok tt) short read (passed parts plant) j)

-- a text longer than the most bytes
pub long-judged : (text : List ℕ) → most_bytes < length text → IsJudged text (Err top.TooLong)
long-judged text long = too_long long refl

-- a text that is no plant's
pub unread-judged : (text : List ℕ) (fault : TextFault) → length text ≤ most_bytes → parts_in text ≡ Err fault →
    IsJudged text (Err (fault_of_text fault))
unread-judged text fault short read = unreadable fault short read refl

-- parts that are no plant
pub unbuilt-judged : (text : List ℕ) (parts : FileParts) (fault : PlantFault) → length text ≤ most_bytes →
    parts_in text ≡ Ok parts → IsVerdict parts (Err fault) → IsJudged text (Err (fault_of_plant fault))
unbuilt-judged text parts fault short read verdict = unbuilt parts fault short read verdict refl

-- a plant
pub built-judged : (text : List ℕ) (parts : FileParts) → length text ≤ most_bytes → parts_in text ≡ Ok parts → IsPlant parts →
    IsJudged text (Ok parts)
built-judged text parts short read plant = built parts short read plant refl

module _ (verdicts : (parts : FileParts) → (verdict : Checked) × IsVerdict parts verdict)
    (ranges : (bytes : List ℕ) (parts : FileParts) → parts_in bytes ≡ Ok parts → AreInRange parts) where
  -- the judgement of parts that were read, by their verdict
  of_parts : (text : List ℕ) (parts : FileParts) → length text ≤ most_bytes → parts_in text ≡ Ok parts →
      (verdict : Checked) → IsVerdict parts verdict → (judgement : Judgement) × IsJudged text judgement
  of_parts text parts short read (Err fault) is = (Err (fault_of_plant fault), unbuilt parts fault short read is refl)
  of_parts text parts short read (Ok tt) is =
      let plant : IsPlant parts = record { ranges = ranges text parts read; passes = is.0; ranked = is.1; shallow = is.2 } in
      (Ok parts, built parts short read plant refl)

  of_reading : (text : List ℕ) → length text ≤ most_bytes → (reading : Result FileParts TextFault) → parts_in text ≡ reading →
      (judgement : Judgement) × IsJudged text judgement
  of_reading text short (Err fault) read = (Err (fault_of_text fault), unreadable fault short read refl)
  of_reading text short (Ok parts) read = of_parts text parts short read (verdicts parts).0 (verdicts parts).1

  -- each text has a judgement
  pub judgement-exists : (text : List ℕ) → (judgement : Judgement) × IsJudged text judgement
  judgement-exists text = elim (cases_lt most_bytes (length text)) [
    | inl long ↦ (Err top.TooLong, too_long long refl)
    | inr short ↦ of_reading text short (parts_in text) refl
  ]

-- What the text of a plant source says: the parts of a plant, or why it is refused.
use Rattle.std.specs.Prelude.{◌≡◌, ◌<◌, ◌≤◌, ℕ, List, length, Result, Ok, Err}
use Rattle.parts.specs.Parts.{FileParts}
use Rattle.plant_checks.specs.declared.fault.PlantFault.{PlantFault}
use Rattle.plant.specs.Sound.{IsPlant}
use Rattle.plant.specs.Verdict.{IsVerdict}
use Rattle.flow_file.specs.Plant.{parts_in}
use Rattle.flow_file.specs.declared.fault.TextFault.{TextFault}
use Rattle.report.specs.declared.fault.TopFault.{TopFault}
use Rattle.report.specs.declared.fault.TopFault.TheVariants as top
use Rattle.flow_top.specs.Faults.{fault_of_text, fault_of_plant}

-- the most bytes that a plant text has
abbrev pub most_bytes : ℕ
most_bytes = 1048576

abbrev pub Judgement : Type 0
Judgement = Result FileParts TopFault

-- The judgement of a text: that it is too long; what is wrong with it, as it is read; the first refusal of its parts, by their
-- verdict; or its parts, which are a plant.
pub data IsJudged (text : List ℕ) (judgement : Judgement) : Type 0 where
  too_long : most_bytes < length text → judgement ≡ Err top.TooLong → IsJudged text judgement
  unreadable : (fault : TextFault) → length text ≤ most_bytes → parts_in text ≡ Err fault →
      judgement ≡ Err (fault_of_text fault) → IsJudged text judgement
  unbuilt : (parts : FileParts) (fault : PlantFault) → length text ≤ most_bytes → parts_in text ≡ Ok parts →
      IsVerdict parts (Err fault) → judgement ≡ Err (fault_of_plant fault) → IsJudged text judgement
  built : (parts : FileParts) → length text ≤ most_bytes → parts_in text ≡ Ok parts → IsPlant parts →
      judgement ≡ Ok parts → IsJudged text judgement

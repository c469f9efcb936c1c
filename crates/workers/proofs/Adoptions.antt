-- What is gathered of sound histories, adopted one after another.
use Rattle.std.proofs.Common.{◌≡◌, List, map, ap, sym, subst, ◌∙◌}
use Rattle.std.proofs.lemmas.Simd.{map-map}
use Rattle.relaxation.specs.Window.{Window}
use Rattle.relaxation.specs.Core.{Step, opening_versions, reached, AreLegal, AreNarrowing}
use Rattle.relaxation.specs.History.{History, AreSound}
use Rattle.relaxation.specs.Gathered.{Made, step_of, CanAdoptAll, tubes_of}
use Rattle.relaxation.proofs.Adopted.{gathered_adopted, adopted_legal, adopted_narrowing}
use Rattle.relax_core.specs.Adopting.{MadeOf, made_step}
use Rattle.workers.specs.Gathering.{answer_of, AreGathered}

-- the steps are those of the made versions
steps-are : (made : List Made) (gathered : List MadeOf) → gathered ≡ map answer_of made → map step_of made ≡ map made_step gathered
steps-are made gathered is = sym (ap (map made_step) is ∙ map-map made_step answer_of made)

module _ (window : Window) (histories : List History) (gathered : List MadeOf) (sound : AreSound window histories) (is : AreGathered histories gathered) where
  pub adopted : (made : List Made) × (gathered ≡ map answer_of made) × CanAdoptAll window (opening_versions window) made
  adopted = (is.0, is.2, (gathered_adopted window histories is.0 sound is.1).0)

  pub legal : AreLegal window (opening_versions window) (map made_step gathered)
  legal = subst (AreLegal window (opening_versions window)) (steps-are is.0 gathered is.2)
      (adopted_legal window (opening_versions window) is.0 (gathered_adopted window histories is.0 sound is.1).0)

  pub narrowing : AreNarrowing window (opening_versions window) (map made_step gathered)
  narrowing = subst (AreNarrowing window (opening_versions window)) (steps-are is.0 gathered is.2)
      (adopted_narrowing window (opening_versions window) is.0 (gathered_adopted window histories is.0 sound is.1).0)

  pub replayed : reached window (map made_step gathered) ≡ tubes_of histories
  replayed = subst (λ (steps : List Step). reached window steps ≡ tubes_of histories) (steps-are is.0 gathered is.2) (gathered_adopted window histories is.0 sound is.1).1

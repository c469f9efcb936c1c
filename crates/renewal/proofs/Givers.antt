-- The unit that is renewed: what it takes, steps to and shows.
use Rattle.std.proofs.Common.{◌≡◌, ◌∙◌, ℕ, zero, suc, ◌<◌, List, [], length, get_or, refl, sym, subst, ap}
use Rattle.std.specs.Prelude.{slice_index_or}
use Rattle.std.specs.List.{AllByRecursion}
use Rattle.std.proofs.lemmas.List.{length-map, get_or_default}
use Rattle.quant.specs.Interval.{Interval, AllInside}
use Rattle.quant.proofs.Calls.{inside-length}
use Rattle.flowsheet.specs.Plant.{PlantUnit}
use Rattle.flowsheet.specs.Reading.{on_bands, shown, stepped}
use Rattle.flowsheet.specs.Renewal.{renewed_states}
use Rattle.relaxation.specs.Tube.{Tube}
use Rattle.relaxation.specs.Window.{row_of}
use Rattle.plant_units.specs.declared.units.Unit.{Unit}
use Rattle.plant_units.specs.Units.{units_of, sheet_unit, view_of, state_limits_of, output_limits_of, reads_of, MayTake}
use Rattle.plant_units.specs.Steps.{steps}
use Rattle.plant_units.proofs.AllKinds.{steps-inside, shown-inside, ports-alike}
use Rattle.plant.specs.PlantOf.{plant_of}
use Rattle.plant.specs.Sound.{IsSoundUnit}
use Rattle.plant.proofs.Lookups.{item, sound-at, unit-is}
use Rattle.plant.proofs.PlantLaws.{plant-sound}
use Rattle.plant.proofs.Showing.{shown_rows, row-is}
use Rattle.renewal.specs.Plan.{PlanOf, IsPlan, carried_into}
use Rattle.renewal.specs.Room.{planned, AreOpened}
pub use Rattle.renewal.specs.Giver.{IsGiver}
use Rattle.renewal.proofs.Openings.{opened-ticked, opened-inside}

-- the unit of the plan with this number
pub is-giver : (plan : PlanOf) (u : ℕ) (x : Unit) (units : List Unit) → IsPlan plan → u < length (units_of plan.parts) →
    x ≡ get_or units u x → units ≡ units_of plan.parts → IsGiver plan u x
is-giver plan u x units h l e k =
    let at : get_or (units_of plan.parts) u x ≡ x = sym (e ∙ ap (λ list. get_or list u x) k) in
    record {
      plan_is = h;
      there = l;
      sound = subst (IsSoundUnit plan.parts u) at (sound-at plan.parts u x (plant-sound plan.parts h.plant).units l);
      is = unit-is plan.parts u x l ∙ ap sheet_unit at;
    }

pub some-giver : (plan : PlanOf) (u : ℕ) → IsPlan plan →
    u < length (units_of plan.parts) → (x : Unit) × IsGiver plan u x
some-giver plan u h l =
    let y : Unit = item (units_of plan.parts) u l in
    let x : Unit = get_or (units_of plan.parts) u y in
    (x, is-giver plan u x (units_of plan.parts) h l (get_or_default (units_of plan.parts) u y x l) refl)

module _ (plan : PlanOf) (u : ℕ) (x : Unit) (g : IsGiver plan u x) where
  -- what the definitions' unit has
  pub reads-are : (planned plan u).reads ≡ reads_of x
  unfolding sheet_unit
  reads-are = ap (λ (v : PlantUnit). v.reads) g.is

  pub state-limits-are : (planned plan u).state_limits ≡ state_limits_of x
  unfolding sheet_unit
  state-limits-are = ap (λ (v : PlantUnit). v.state_limits) g.is

  pub output-limits-are : (planned plan u).output_limits ≡ output_limits_of x
  unfolding sheet_unit
  output-limits-are = ap (λ (v : PlantUnit). v.output_limits) g.is

  pub views-are : (planned plan u).view ≡ view_of x
  unfolding sheet_unit
  views-are = ap (λ (v : PlantUnit). v.view) g.is

  -- it may take what tubes have at a tick
  pub row-taken : (t : ℕ) (tubes : List Tube) → t < plan.ticks → AreOpened plan (planned plan u).reads tubes →
      MayTake x (row_of tubes t)
  row-taken t tubes m o = g.sound.takes (row_of tubes t)
      (opened-inside plan g.plan_is t (reads_of x) tubes m
      (subst (λ (reads : List ℕ). AreOpened plan reads tubes) reads-are o)
      g.sound.reads)

  pub tubes-ticked : (t : ℕ) (tubes : List Tube) → t < plan.ticks → AreOpened plan (planned plan u).reads tubes →
      AllByRecursion (λ tube. t < length tube) tubes
  tubes-ticked t tubes m o =
      opened-ticked plan g.plan_is t (reads_of x) tubes m
      (subst (λ (reads : List ℕ). AreOpened plan reads tubes) reads-are o)
      g.sound.reads

  -- its steps are the definitions'
  pub steps-are : (state ins : List Interval) →
      steps x state ins ≡ stepped (on_bands (plant_of plan.parts)) (planned plan u) state ins
  unfolding plant_of sheet_unit steps
  steps-are state ins = sym (ap (λ (v : PlantUnit). stepped (on_bands (plant_of plan.parts)) v state ins) g.is)

  -- its states stay in their limits
  pub states-limited : (rows : ℕ → List Interval) (t : ℕ) →
      AllInside (renewed_states (on_bands (plant_of plan.parts)) (planned plan u) (carried_into plan u) rows t)
      (state_limits_of x)
  states-limited rows zero =
      subst (AllInside (carried_into plan u)) state-limits-are (g.plan_is.carried u g.there).inside
  states-limited rows (suc t) =
      subst (λ (state : List Interval). AllInside state (state_limits_of x)) (steps-are _ (rows t))
      (steps-inside x _ (rows t) g.sound.sound)

  -- so do its outputs, which are the definitions'
  pub shown-are : (state ins : List Interval) (p : ℕ) → slice_index_or (shown_rows x state ins) p []
      ≡ shown (on_bands (plant_of plan.parts)) (planned plan u) p state ins
  unfolding plant_of sheet_unit
  shown-are state ins p = row-is x state ins p
      ∙ sym (ap (λ (v : PlantUnit). shown (on_bands (plant_of plan.parts)) v p state ins) g.is)

  pub shown-wide : (state ins : List Interval) (p : ℕ) → AllInside state (state_limits_of x) →
      length (slice_index_or (shown_rows x state ins) p [])
      ≡ length (slice_index_or (planned plan u).output_limits p [])
  shown-wide state ins p inside =
      ap length (row-is x state ins p)
      ∙ inside-length _ (slice_index_or (output_limits_of x) p []) (shown-inside x p state ins g.sound.sound inside)
      ∙ ap (λ limits. length (slice_index_or limits p [])) (sym output-limits-are)

  pub shown-counted : (state ins : List Interval) →
      length (shown_rows x state ins) ≡ length (planned plan u).output_limits
  shown-counted state ins = length-map (view_of x) _ ∙ ports-alike x ∙ ap length (sym output-limits-are)

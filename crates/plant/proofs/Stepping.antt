-- A unit steps its states.
use Rattle.std.proofs.Common.{ℕ, ◌<◌, List, length, get_or, subst, sym, ◌≡◌, ap, [], set, inl, inr, ◌∙◌}
use Rattle.std.proofs.Common.{get_or-set_other, length-set, arith, refl, ◌+◌, ◌≢◌, true}
use Rattle.std.specs.List.{AllByRecursion}
use Rattle.std.proofs.lemmas.Bool.{cases_eq}
use Rattle.std.proofs.lemmas.Grind.{get_or-set_at}
use Rattle.quant.specs.Interval.{Interval, AllInside}
use Rattle.flowsheet.specs.Plant as sheet
use Rattle.flowsheet.specs.Reading.{on_bands, inputs_of, stepped}
use Rattle.parts.specs.Parts.{FileParts}
use Rattle.plant_units.specs.declared.units.Unit.{Unit}
use Rattle.plant_streams.specs.Streams.{streams_of}
use Rattle.plant_units.specs.Units.{units_of, sheet_unit, state_limits_of, reads_of, is_instant, MayTake}
use Rattle.plant_units.specs.Steps.{bands_at, MayShow, MayStep, gathered, steps}
use Rattle.plant_units.proofs.AllKinds.{steps-inside}
use Rattle.plant.specs.PlantOf.{plant_of}
use Rattle.plant.proofs.Inputs.{takes-streams}
use Rattle.plant.proofs.Lookups.{unit-is, sound-at}
use Rattle.plant.specs.Sound.{ArePartsSound}
use Rattle.plant.specs.Steps.{AreStreams, AreStates, stepped_by, HaveStepped}

-- the limits of its states
pub states-inside : (parts : FileParts) (n : ℕ) (x : Unit) (state : List Interval) → n < length (units_of parts) →
    AllInside state (sheet.unit_at (plant_of parts) n).state_limits →
    AllInside state (state_limits_of (get_or (units_of parts) n x))
unfolding sheet_unit
states-inside parts n x state h inside =
    subst (λ (u : sheet.PlantUnit). AllInside state u.state_limits) (unit-is parts n x h) inside

pub inside-states : (parts : FileParts) (n : ℕ) (x : Unit) (state : List Interval) → n < length (units_of parts) →
    AllInside state (state_limits_of (get_or (units_of parts) n x)) →
    AllInside state (sheet.unit_at (plant_of parts) n).state_limits
unfolding sheet_unit
inside-states parts n x state h inside =
    subst (λ (u : sheet.PlantUnit). AllInside state u.state_limits) (sym (unit-is parts n x h)) inside

-- it may show itself, if it holds something back or may take what it reads
pub may-show_by : (parts : FileParts) (n : ℕ) (x : Unit) (states streams : List (List Interval)) → ArePartsSound parts →
    AllInside (bands_at states n) (sheet.unit_at (plant_of parts) n).state_limits →
    length streams ≡ length (streams_of parts) → n < length (units_of parts) →
    (is_instant (get_or (units_of parts) n x) ≡ true →
    MayTake (get_or (units_of parts) n x) (gathered (reads_of (get_or (units_of parts) n x)) streams)) →
    MayShow (get_or (units_of parts) n x) (bands_at states n) streams
may-show_by parts n x states streams s inside counted h takes =
    let t = sound-at parts n x s.units h in
    record {
      sound = t.sound;
      states = states-inside parts n x (bands_at states n) h inside;
      known = subst (λ (k : ℕ). AllByRecursion (λ q. q < k) (reads_of (get_or (units_of parts) n x))) (sym counted) t.reads;
      inputs = takes;
    }

-- it may take what is inside the limits of all streams
pub may-step : (parts : FileParts) (n : ℕ) (x : Unit) (states streams : List (List Interval)) → ArePartsSound parts →
    AreStates parts states → AreStreams parts streams → n < length (units_of parts) →
    MayStep (get_or (units_of parts) n x) (bands_at states n) streams
may-step parts n x states streams s a b h =
    let takes = takes-streams parts n (get_or (units_of parts) n x) (bands_at streams) (sound-at parts n x s.units h) b.inside in
    let shows = may-show_by parts n x states streams s (a.inside n h) b.counted h (λ instant. takes) in
    record { sound = shows.sound; states = shows.states; known = shows.known; inputs = takes }

-- its steps are the definitions'
pub steps-are : (parts : FileParts) (n : ℕ) (x : Unit) (state : List Interval) (streams : List (List Interval)) →
    n < length (units_of parts) →
    steps (get_or (units_of parts) n x) state (gathered (reads_of (get_or (units_of parts) n x)) streams) ≡ stepped_by
    parts streams n state
unfolding plant_of sheet_unit steps
steps-are parts n x state streams h =
    sym (ap (λ (u : sheet.PlantUnit). stepped (on_bands (plant_of parts)) u state (inputs_of u (bands_at streams)))
    (unit-is parts n x h))

-- they end inside the limits
pub states-after : (parts : FileParts) (n : ℕ) (x : Unit) (state ins : List Interval)
    (states : List (List Interval)) → ArePartsSound parts → AreStates parts states →
    n < length (units_of parts) → AreStates parts (set states n (steps (get_or (units_of parts) n x) state ins))
states-after parts n x state ins states s a h =
    let new : List Interval = steps (get_or (units_of parts) n x) state ins in
    let t = sound-at parts n x s.units h in
    record {
      counted = length-set states n new ∙ a.counted;
      inside = λ u k.
          elim (cases_eq u n) [
            | inl e ↦
                rw (get_or-set_at states n u new [] e (omega (arith, a.counted)), e)
                (inside-states parts n x new h (steps-inside (get_or (units_of parts) n x) state ins t.sound))
            | inr ne ↦ rw (get_or-set_other states n u new [] ne) (a.inside u k)
          ];
    }

-- one unit more has stepped
pub have_stepped-none : (parts : FileParts) (streams before : List (List Interval)) → AreStates parts before →
    HaveStepped parts 0 streams before before
have_stepped-none parts streams before a =
    record { states = a; stepped = λ u h k. absurd (omega arith); rest = λ u h. refl }

pub have_stepped-more : (parts : FileParts) (n : ℕ) (streams before now after : List (List Interval)) →
    n < length (units_of parts) →
    HaveStepped parts n streams before now → AreStates parts after →
    after ≡ set now n (stepped_by parts streams n (bands_at now n)) →
    HaveStepped parts (n + 1) streams before after
have_stepped-more parts n streams before now after h have a e =
    let new : List Interval = stepped_by parts streams n (bands_at now n) in
    let others : (u : ℕ) → u ≢ n → bands_at after u ≡ bands_at now u =
    λ u ne. ap (λ rows. bands_at rows u) e ∙ get_or-set_other now n u new [] ne in
    record {
      states = a;
      stepped = λ u k l.
          elim (cases_eq u n) [
            | inl d ↦
                ap (λ rows. bands_at rows u) e ∙ (get_or-set_at now n u new [] d (omega (arith, have.states.counted))
                ∙ (ap (stepped_by parts streams n) (have.rest n (omega arith))
                ∙ ap (λ v. stepped_by parts streams v (bands_at before v)) (sym d)))
            | inr ne ↦ others u ne ∙ have.stepped u k (omega arith)
          ];
      rest = λ u k. let ne : u ≢ n = omega arith in others u ne ∙ have.rest u (omega arith);
    }

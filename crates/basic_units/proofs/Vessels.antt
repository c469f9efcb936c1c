-- What the rows of a tank or a reactor hold, as far as a vessel's steps need it.
use Rattle.std.proofs.Common.{◌≡◌, ◌<◌, ℕ, ℤ, List, [], ◌∷◌, ◌++◌, set, length, get_or, refl, ap, ◌∙◌, arith}
use Rattle.std.specs.Prelude.{pos}
use Rattle.std.proofs.lemmas.List.{get_or_default}
use Rattle.quant.specs.declared.limits.Limits.{Limits}
use Rattle.quant.specs.Interval.{Interval, AllHold, AllInside, wide}
use Rattle.quant.specs.Limits.{AreLimits, wide_from}
use Rattle.quant.proofs.Calls.{filled, same_cons, place-held, held-length, inside-trans, inside-length}
use Rattle.quant.proofs.Terms.{place-holds, place-inside}
use Rattle.basic_units.specs.Vessel.{vessel_limits}
use Rattle.basic_units.specs.Stirring.{AreStates, AreInputs, AreStateBands, AreInputBands}

-- the limits of the inputs of a vessel, and of those behind them
abbrev inputs_before : List Interval → List Interval
inputs_before rest = wide_from (pos 0) ∷ wide ∷ wide ∷ wide ∷ rest

-- states in their limits
pub are_states : (limits : Limits) (state : List ℤ) → AreLimits limits → AllHold (vessel_limits limits) state →
    AreStates state
are_states limits state are h =
    let l = held-length (vessel_limits limits) state h in
    record {
      four = omega arith;
      volume = place-held (vessel_limits limits) state 0 (wide_from (pos 1)) h are.volume.1;
      conc = place-held (vessel_limits limits) state 2 wide h are.conc.1;
      temp = place-held (vessel_limits limits) state 3 wide h are.temp.1;
    }

pub are_state_bands : (limits : Limits) (states : List Interval) → AreLimits limits →
    AllInside states (vessel_limits limits) →
    AreStateBands states
are_state_bands limits states are h =
    let l = inside-length states (vessel_limits limits) h in
    record {
      four = omega arith;
      volume = inside-trans _ limits.volume _ (place-inside states (vessel_limits limits) 0 h) are.volume.1;
      conc = inside-trans _ limits.conc _ (place-inside states (vessel_limits limits) 2 h) are.conc.1;
      temp = inside-trans _ limits.temp _ (place-inside states (vessel_limits limits) 3 h) are.temp.1;
    }

-- and inputs in theirs, whatever comes behind
pub are_inputs : (rest : List Interval) (ins : List ℤ) → AllHold (inputs_before rest) ins → AreInputs ins
are_inputs rest ins h =
    let l = held-length (inputs_before rest) ins h in
    record {
      four = omega arith;
      flow = place-holds (inputs_before rest) ins 0 h;
      conc = place-holds (inputs_before rest) ins 1 h;
      temp = place-holds (inputs_before rest) ins 2 h;
    }

pub are_input_bands : (rest ins : List Interval) → AllInside ins (inputs_before rest) → AreInputBands ins
are_input_bands rest ins h =
    let l = inside-length ins (inputs_before rest) h in
    record {
      four = omega arith;
      flow = place-inside ins (inputs_before rest) 0 h;
      conc = place-inside ins (inputs_before rest) 1 h;
      temp = place-inside ins (inputs_before rest) 2 h;
    }

-- what was read within a row, whatever would stand behind it
pub read-any : {X : Type 0} (xs : List X) (i : ℕ) (r none : X) → i < length xs → r ≡ get_or xs i r → r ≡ get_or xs i none
read-any xs i r none h e = e ∙ get_or_default xs i r none h

-- a row that is filled, and one more thing behind it
pub appended : {X : Type 0} (xs ys back : List X) (v w : X) → xs ≡ ys → length back ≡ 1 → v ≡ w →
    xs ++ set back 0 v ≡ ys ++ w ∷ []
appended xs ys back v w e n d =
    ap (λ t. t ++ set back 0 v) e ∙ ap (λ t. ys ++ t) (filled back (v ∷ []) n ∙ same_cons _ _ _ _ d refl)

-- four functions of equal things
pub four_same : {X : Type 0} (f g h k : X → X) (a b c d p q r s : X) → a ≡ p → b ≡ q → c ≡ r → d ≡ s →
    f a ∷ g b ∷ h c ∷ k d ∷ [] ≡ f p ∷ g q ∷ h r ∷ k s ∷ []
four_same f g h k a b c d p q r s e i j l =
    same_cons _ _ _ _ (ap f e) (same_cons _ _ _ _ (ap g i)
    (same_cons _ _ _ _ (ap h j) (same_cons _ _ _ _ (ap k l) refl)))

-- A renewal that is made tick by tick.
use Rattle.std.proofs.Common.{◌≡◌, ◌∙◌, ℕ, suc, ◌+◌, ◌<◌, ◌≤◌, List, [], length, map, refl, sym, subst, ap, arith, inl, inr}
use Rattle.std.proofs.Common.{get_or-set_other}
use Rattle.std.specs.Prelude.{slice_index_or, slice_set}
use Rattle.std.proofs.lemmas.Bool.{cases_eq}
use Rattle.std.proofs.lemmas.Grind.{get_or-set_at}
use Rattle.std.proofs.lemmas.List.{ext_get_or}
use Rattle.std.proofs.lemmas.List.FromFn.{get_or-map-range_with_len, length-map-range_with_len}
use Rattle.quant.specs.Interval.{Interval, AllInside}
use Rattle.quant.specs.Ports.{outputs}
use Rattle.quant.proofs.Calls.{inside-length}
use Rattle.flowsheet.specs.Reading.{on_bands, shown, stepped}
use Rattle.flowsheet.specs.Renewal.{renewed, renewed_states}
use Rattle.flowsheet.proofs.Readings.{same-kept}
use Rattle.relaxation.specs.Tube.{Tube, at}
use Rattle.relaxation.specs.Window.{row_of, renewal}
use Rattle.relaxation.proofs.Renewing.{states-related, shown-related}
use Rattle.relaxation.proofs.Ticks.{at-tube_of}
use Rattle.plant_units.specs.declared.units.Unit.{Unit}
use Rattle.plant_units.specs.Units.{state_limits_of}
use Rattle.plant_units.specs.Steps.{views, steps}
use Rattle.plant_units.proofs.AllKinds.{steps-inside, states-few, ports-alike}
use Rattle.plant.specs.PlantOf.{plant_of}
use Rattle.plant.proofs.Showing.{shown_rows, views-rows}
use Rattle.renewal.specs.Plan.{PlanOf, carried_into, window_of}
use Rattle.renewal.specs.Room.{planned, RenewalOf, HasRoomFor, HoldsRenewal, renewal_of}
use Rattle.renewal.specs.Ticks.{spread_at, AreFilled, IsRenewed, port_in}
use Rattle.renewal.specs.Giver.{IsGiver}
use Rattle.renewal.proofs.Givers.{states-limited, steps-are, state-limits-are, output-limits-are}
use Rattle.renewal.proofs.Givers.{views-are, shown-are, shown-wide, shown-counted}
use Rattle.renewal.proofs.Shapes.{shape-ticks, shape-wide, shapes-at, shapes-counted, same-tube}
use Rattle.renewal.proofs.Spread.{AreFit, fit-each, fit-filled, fit-at, fit-shape, shape-set}

-- the bands that are read are the plan's
pub carried-is : (plan : PlanOf) (u : ℕ) (rows : List (List Interval)) (bands : List Interval) → rows ≡ plan.carried →
    bands ≡ slice_index_or rows u [] → bands ≡ carried_into plan u
carried-is plan u rows bands e is = is ∙ ap (λ (units : List (List Interval)). slice_index_or units u []) e

-- a renewal from tubes that have the same rows below n is this unit's up to n
module _ (plan : PlanOf) (u n : ℕ) (tubes : List Tube) (made : RenewalOf) (few : n ≤ plan.ticks)
    (holds : HoldsRenewal plan u tubes n made) where
  before-shown : (p t : ℕ) → p < length made.ports → t < n → at (port_in made p) t
      ≡ renewed (on_bands (plant_of plan.parts)) (planned plan u) p (carried_into plan u) (row_of tubes) t
  before-shown p t l m =
      let count : ℕ = length (planned plan u).view in
      let counted : length made.ports ≡ count =
      ap (λ (room : RenewalOf). length room.ports) holds.renewed
      ∙ length-map-range_with_len (λ q. renewal (window_of plan) u q holds.before) 0 count in
      ap (λ (room : RenewalOf). at (port_in room p) t) holds.renewed
      ∙ ap (λ (tube : Tube). at tube t)
      (get_or-map-range_with_len (λ q. renewal (window_of plan) u q holds.before) 0 count p p [] (omega arith)
      (omega arith))
      ∙ at-tube_of (renewed (on_bands (plant_of plan.parts)) (planned plan u) p (carried_into plan u)
      (row_of holds.before)) plan.ticks t (omega arith)
      ∙ shown-related (same-kept (on_bands (plant_of plan.parts))) (planned plan u) (carried_into plan u)
      (carried_into plan u) (row_of holds.before) (row_of tubes) refl p t (λ q k. holds.same q (omega arith))
      (λ i. holds.same t m)

  before-stepped : (t : ℕ) → t ≤ n → at made.states t
      ≡ renewed_states (on_bands (plant_of plan.parts)) (planned plan u) (carried_into plan u) (row_of tubes) t
  before-stepped t m =
      ap (λ (room : RenewalOf). at room.states t) holds.renewed
      ∙ at-tube_of (renewed_states (on_bands (plant_of plan.parts)) (planned plan u) (carried_into plan u)
      (row_of holds.before)) (plan.ticks + 1) t (omega arith)
      ∙ states-related (same-kept (on_bands (plant_of plan.parts))) (planned plan u) (carried_into plan u)
      (carried_into plan u) (row_of holds.before) (row_of tubes) refl t (λ q k. holds.same q (omega arith))

  pub renewed-before : HasRoomFor plan u made → IsRenewed plan u tubes n made
  renewed-before room = record { shape = room; shown = before-shown; stepped = before-stepped }

module _ (plan : PlanOf) (u : ℕ) (x : Unit) (g : IsGiver plan u x) where
  -- how many ticks and channels there are
  pub states-counted : (made : RenewalOf) → HasRoomFor plan u made → length made.states ≡ plan.ticks + 1
  states-counted made room = shape-ticks made.states _ _ room.states_shape

  pub states-wide : (made : RenewalOf) (t : ℕ) → HasRoomFor plan u made → t ≤ plan.ticks →
      length (at made.states t) ≡ length (state_limits_of x)
  states-wide made t room m = shape-wide made.states _ _ t room.states_shape (omega arith)
      ∙ ap length (state-limits-are plan u x g)

  ports-counted : (made : RenewalOf) → HasRoomFor plan u made →
      length made.ports ≡ length (planned plan u).output_limits
  ports-counted made room = shapes-counted _ made.ports plan.ticks room.ports_shape

  port-ticks : (made : RenewalOf) (p : ℕ) → HasRoomFor plan u made → p < length made.ports →
      length (port_in made p) ≡ plan.ticks
  port-ticks made p room l = shape-ticks (port_in made p) _ _ (shapes-at _ made.ports plan.ticks p room.ports_shape l)

  port-wide : (made : RenewalOf) (p t : ℕ) → HasRoomFor plan u made → p < length made.ports → t < plan.ticks →
      length (at (port_in made p) t) ≡ length (slice_index_or (planned plan u).output_limits p [])
  port-wide made p t room l m =
      shape-wide (port_in made p) _ _ t (shapes-at _ made.ports plan.ticks p room.ports_shape l) m

  -- what it shows fits its tubes
  shown-fit : (made : RenewalOf) (t : ℕ) (ins : List Interval) → HasRoomFor plan u made → t < plan.ticks →
      AllInside (at made.states t) (state_limits_of x) → AreFit t (shown_rows x (at made.states t) ins) made.ports
  shown-fit made t ins room m inside = fit-each t (shown_rows x (at made.states t) ins) made.ports
      (shown-counted plan u x g (at made.states t) ins ∙ sym (ports-counted made room))
      (λ p l. subst (λ (n : ℕ). t < n) (sym (port-ticks made p room l)) m)
      (λ p l. shown-wide plan u x g (at made.states t) ins p inside ∙ sym (port-wide made p t room l m))

  pub shown-filled : (made : RenewalOf) (t : ℕ) (ins : List Interval) → HasRoomFor plan u made → t < plan.ticks →
      AllInside (at made.states t) (state_limits_of x) → AreFilled t (views x (at made.states t) ins) made.ports
  shown-filled made t ins room m inside =
      subst (λ (bands : List Interval). AreFilled t bands made.ports) (sym (views-rows x (at made.states t) ins inside))
      (fit-filled t (shown_rows x (at made.states t) ins) made.ports (shown-fit made t ins room m inside))

module _ (plan : PlanOf) (u : ℕ) (x : Unit) (g : IsGiver plan u x) (tubes : List Tube) where
  abbrev states_at : ℕ → List Interval
  states_at t = renewed_states (on_bands (plant_of plan.parts)) (planned plan u) (carried_into plan u) (row_of tubes) t

  abbrev shown_at : ℕ → ℕ → List Interval
  shown_at p t = renewed (on_bands (plant_of plan.parts)) (planned plan u) p (carried_into plan u) (row_of tubes) t

  -- the states that a tick starts from lie in their limits
  pub states-inside : (made : RenewalOf) (n : ℕ) → IsRenewed plan u tubes n made →
      AllInside (at made.states n) (state_limits_of x)
  states-inside made n r =
      subst (λ (state : List Interval). AllInside state (state_limits_of x)) (sym (r.stepped n (omega arith)))
      (states-limited plan u x g (row_of tubes) n)

  -- the bands that are carried in: there are few
  pub carried-few : length (carried_into plan u) ≤ 68
  carried-few = states-few x (carried_into plan u) g.sound.sound (states-limited plan u x g (row_of tubes) 0)

  pub carried-counted : length (carried_into plan u) ≡ length (planned plan u).state_limits
  carried-counted =
      inside-length (carried_into plan u) (state_limits_of x) (states-limited plan u x g (row_of tubes) 0)
      ∙ ap length (sym (state-limits-are plan u x g))

  pub carried-wide : (made : RenewalOf) → HasRoomFor plan u made →
      length (carried_into plan u) ≡ length (at made.states 0)
  carried-wide made room =
      inside-length (carried_into plan u) (state_limits_of x) (states-limited plan u x g (row_of tubes) 0)
      ∙ sym (states-wide plan u x g made 0 room (omega arith))

  -- they are the first states
  pub renewed-none : (made : RenewalOf) → HasRoomFor plan u made →
      IsRenewed plan u tubes 0 (record { ports = made.ports; states = slice_set made.states 0 (carried_into plan u) })
  renewed-none made room =
      let carried : List Interval = carried_into plan u in
      record {
        shape = record {
          ports_shape = room.ports_shape;
          states_shape = shape-set made.states 0 carried (carried-wide made room) ∙ room.states_shape;
        };
        shown = λ p t l m. absurd (omega arith);
        stepped = λ t m.
            let e : t ≡ 0 = omega arith in
            get_or-set_at made.states 0 t carried [] e (omega (arith, states-counted plan u x g made room))
            ∙ ap states_at (sym e);
      }

  -- one tick more
  abbrev after : RenewalOf → ℕ → RenewalOf
  after made n = record {
    ports = spread_at n (views x (at made.states n) (row_of tubes n)) made.ports;
    states = slice_set made.states (n + 1) (steps x (at made.states n) (row_of tubes n));
  }

  spread-rows : (made : RenewalOf) (n : ℕ) → IsRenewed plan u tubes n made →
      spread_at n (views x (at made.states n) (row_of tubes n)) made.ports
      ≡ spread_at n (outputs (shown_rows x (at made.states n) (row_of tubes n))) made.ports
  spread-rows made n r = ap (λ bands. spread_at n bands made.ports)
      (views-rows x (at made.states n) (row_of tubes n) (states-inside made n r))

  fits : (made : RenewalOf) (n : ℕ) → n < plan.ticks → IsRenewed plan u tubes n made →
      AreFit n (shown_rows x (at made.states n) (row_of tubes n)) made.ports
  fits made n m r = shown-fit plan u x g made n (row_of tubes n) r.shape m (states-inside made n r)

  after-shape : (made : RenewalOf) (n : ℕ) → n < plan.ticks → IsRenewed plan u tubes n made →
      HasRoomFor plan u (after made n)
  after-shape made n m r = record {
    ports_shape = ap (map (map length)) (spread-rows made n r) ∙ fit-shape n _ made.ports (fits made n m r)
        ∙ r.shape.ports_shape;
    states_shape =
        shape-set made.states (n + 1) (steps x (at made.states n) (row_of tubes n))
        (inside-length _ (state_limits_of x) (steps-inside x (at made.states n) (row_of tubes n) g.sound.sound)
        ∙ sym (states-wide plan u x g made (n + 1) r.shape (omega arith)))
        ∙ r.shape.states_shape;
  }

  after-port : (made : RenewalOf) (n p : ℕ) → n < plan.ticks → IsRenewed plan u tubes n made → p < length made.ports →
      port_in (after made n) p ≡ slice_set (port_in made p) n (shown_at p n)
  after-port made n p m r l =
      ap (λ ports. slice_index_or ports p []) (spread-rows made n r)
      ∙ fit-at n _ made.ports p (fits made n m r) l
      ∙ ap (slice_set (port_in made p) n) (shown-are plan u x g (at made.states n) (row_of tubes n) p
      ∙ ap (λ state. shown (on_bands (plant_of plan.parts)) (planned plan u) p state (row_of tubes n))
      (r.stepped n (omega arith)))

  after-counted : (made : RenewalOf) (n : ℕ) → n < plan.ticks → IsRenewed plan u tubes n made →
      length (after made n).ports ≡ length made.ports
  after-counted made n m r = ports-counted plan u x g (after made n) (after-shape made n m r)
      ∙ sym (ports-counted plan u x g made r.shape)

  pub renewed-more : (made : RenewalOf) (n : ℕ) → n < plan.ticks → IsRenewed plan u tubes n made →
      IsRenewed plan u tubes (n + 1) (after made n)
  renewed-more made n m r = record {
    shape = after-shape made n m r;
    shown = λ p t l k.
        let there : p < length made.ports = omega (arith, after-counted made n m r) in
        ap (λ tube. at tube t) (after-port made n p m r there)
        ∙ elim (cases_eq t n) [
          | inl e ↦
              get_or-set_at (port_in made p) n t (shown_at p n) [] e
              (omega (arith, port-ticks plan u x g made p r.shape there))
              ∙ ap (shown_at p) (sym e)
          | inr ne ↦ get_or-set_other (port_in made p) n t (shown_at p n) [] ne ∙ r.shown p t there (omega arith)
        ];
    stepped = λ t k.
        let new : List Interval = steps x (at made.states n) (row_of tubes n) in
        elim (cases_eq t (n + 1)) [
          | inl e ↦
              (let next : suc n ≡ t = omega arith in
              get_or-set_at made.states (n + 1) t new [] e (omega (arith, states-counted plan u x g made r.shape))
              ∙ steps-are plan u x g (at made.states n) (row_of tubes n)
              ∙ ap (λ state. stepped (on_bands (plant_of plan.parts)) (planned plan u) state (row_of tubes n))
              (r.stepped n (omega arith))
              ∙ ap states_at next)
          | inr ne ↦ get_or-set_other made.states (n + 1) t new [] ne ∙ r.stepped t (omega arith)
        ];
  }

  -- all of them
  same-record : (ports others : List Tube) (states more : Tube) → ports ≡ others → states ≡ more →
      (let made : RenewalOf = record { ports = ports; states = states } in made)
      ≡ record { ports = others; states = more }
  same-record ports others states more e d =
      ap (λ (tubes : List Tube). let made : RenewalOf = record { ports = tubes; states = states } in made) e
      ∙ ap (λ (tube : Tube). let made : RenewalOf = record { ports = others; states = tube } in made) d

  whole-ports : (made : RenewalOf) → IsRenewed plan u tubes plan.ticks made →
      made.ports ≡ (renewal_of plan u tubes).ports
  whole-ports made r =
      let count : ℕ = length (planned plan u).view in
      let counted : length made.ports ≡ count = ports-counted plan u x g made r.shape
      ∙ ap length (output-limits-are plan u x g)
      ∙ sym (ports-alike x) ∙ ap length (sym (views-are plan u x g)) in
      ext_get_or [] made.ports (renewal_of plan u tubes).ports
      (counted ∙ sym (length-map-range_with_len (λ p. renewal (window_of plan) u p tubes) 0 count))
      (λ p l. same-tube (port_in made p) (shown_at p) plan.ticks (port-ticks plan u x g made p r.shape l)
      (λ t m. r.shown p t l m)
      ∙ sym (get_or-map-range_with_len (λ p. renewal (window_of plan) u p tubes) 0 count p p [] (omega arith)
      (omega arith)))

  pub renewed-whole : (made : RenewalOf) → IsRenewed plan u tubes plan.ticks made → made ≡ renewal_of plan u tubes
  renewed-whole made r = same-record made.ports _ made.states _ (whole-ports made r)
      (same-tube made.states states_at (plan.ticks + 1) (states-counted plan u x g made r.shape)
      (λ t m. r.stepped t (omega arith)))

-- What all kinds of units have in common, seen one kind after another.
use Rattle.std.proofs.Common.{◌≡◌, ℕ, ◌-◌, pos, List, subst, ◌+◌, refl, zero, suc, [], arith, ◌∷◌, sym, ◌*◌, length}
use Rattle.std.proofs.Common.{◌≤◌, map, ap, ◌∙◌, ◌<◌, false}
use Rattle.std.specs.Prelude.{slice_index_or, if◌then◌else◌}
use Rattle.std.proofs.lemmas.List.{length-map, length-append}
use Rattle.std.proofs.lemmas.List.FromFn.{length-range_with_len}
use Rattle.quant.specs.Interval.{Interval, IsInside, AllInside, point}
use Rattle.quant.proofs.Terms.{place-inside}
use Rattle.quant.specs.Rounding.{Floor}
use Rattle.quant.specs.Term.{interval}
use Rattle.quant.proofs.Calls.{clamped-inside, inside-length}
use Rattle.basic_units.specs.Tank as tanks
use Rattle.basic_units.specs.Reactor as reactors
use Rattle.basic_units.specs.TankLaws as tank_laws
use Rattle.basic_units.specs.ReactorLaws as reactor_laws
use Rattle.basic_units.specs.Mixer as mixers
use Rattle.basic_units.specs.Splitter as splitters
use Rattle.column_section.specs.Column as columns
use Rattle.column_section.specs.declared.column.Column.{Column}
use Rattle.column_section.specs.ColumnLaws as column_laws
use Rattle.controllers.specs.Controller as controllers
use Rattle.controllers.specs.ControllerLaws as controller_laws
use Rattle.flowsheet.specs.Reading.{shown}
use Rattle.flowsheet.specs.Limited.{KeepsLimits}
use Rattle.plant_units.specs.declared.units.Unit.{Unit}
use Rattle.plant_units.specs.declared.units.Unit.TheVariants as unit
use Rattle.plant_units.specs.Units.{sheet_unit, view_of, state_limits_of, output_limits_of, IsUnitSound, is_instant, MayTake}
use Rattle.plant_units.specs.Steps.{steps, views}

-- what a column reads from its states lies in the limits of its place
placed : (column : Column) (state : List Interval) (place : ℕ) (A : Interval) →
    AllInside state (columns.state_limits column) →
    slice_index_or (columns.state_limits column) place (point (pos 0)) ≡ A →
    IsInside (slice_index_or state place (point (pos 0))) A
placed column state place A h e = subst (IsInside (slice_index_or state place (point (pos 0)))) e
    (place-inside state (columns.state_limits column) place h)

registered : (column : Column) (state : List Interval) (j : ℕ) → AllInside state (columns.state_limits column) →
    IsInside (slice_index_or state (column.stages + j) (point (pos 0)))
    (slice_index_or (columns.register_limits column) j (point (pos 0)))
registered column state j h =
    placed column state (column.stages + j) _ h (column_laws.register-limits column j (column.stages + j) refl)

-- what a unit shows lies in the limits of its outputs
pub shown-inside : (x : Unit) (p : ℕ) (state ins : List Interval) → IsUnitSound x →
    AllInside state (state_limits_of x) →
    AllInside (shown (interval Floor) (sheet_unit x) p state ins) (slice_index_or (output_limits_of x) p [])
unfolding sheet_unit
shown-inside (unit.Tank tank ends) zero state ins sound inside =
    let at : (n : ℕ) →
    IsInside (slice_index_or state n (point (pos 0))) (slice_index_or (tanks.state_limits tank) n (point (pos 0))) =
    λ n. place-inside state (tanks.state_limits tank) n inside in
    (at 1, (at 2, (at 3, tt)))
shown-inside (unit.Tank tank ends) (suc zero) state ins sound inside =
    (clamped-inside tank.limits.signal _ sound.limits.signal.0, tt)
shown-inside (unit.Tank tank ends) (suc (suc p)) state ins sound inside = tt
shown-inside (unit.Reactor reactor ends) zero state ins sound inside =
    let at : (n : ℕ) →
    IsInside (slice_index_or state n (point (pos 0)))
    (slice_index_or (reactors.state_limits reactor) n (point (pos 0))) =
    λ n. place-inside state (reactors.state_limits reactor) n inside in
    (at 1, (at 2, (at 3, tt)))
shown-inside (unit.Reactor reactor ends) (suc zero) state ins sound inside =
    (clamped-inside reactor.limits.signal _ sound.limits.signal.0, tt)
shown-inside (unit.Reactor reactor ends) (suc (suc zero)) state ins sound inside =
    (clamped-inside reactor.limits.signal _ sound.limits.signal.0, tt)
shown-inside (unit.Reactor reactor ends) (suc (suc (suc p))) state ins sound inside = tt
shown-inside (unit.Column column ends) zero state ins sound inside =
    let last = column_laws.stage-limits column (column.stages - 1) (omega (arith, sound.some)) in (
      placed column state column.stages column.limits.flow inside
          (column_laws.register-limits column 0 column.stages (omega arith)),
      (placed column state (column.stages - 1) column.limits.conc inside last, (registered column state 1 inside, tt)),
    )
shown-inside (unit.Column column ends) (suc zero) state ins sound inside = (
  registered column state 2 inside,
  (clamped-inside column.limits.conc _ sound.limits.conc.0, (registered column state 3 inside, tt)),
)
shown-inside (unit.Column column ends) (suc (suc p)) state ins sound inside = tt
shown-inside (unit.Controller controller ends) zero state ins sound inside =
    (place-inside state (controllers.state_limits controller) 1 inside, tt)
shown-inside (unit.Controller controller ends) (suc p) state ins sound inside = tt
shown-inside (unit.Mixer mixer ends) zero state ins sound inside = (
  clamped-inside mixer.limits.flow _ sound.limits.flow.0,
  (
    clamped-inside mixer.limits.conc _ sound.limits.conc.0,
    (clamped-inside mixer.limits.temp _ sound.limits.temp.0, tt),
  ),
)
shown-inside (unit.Mixer mixer ends) (suc p) state ins sound inside = tt
shown-inside (unit.Splitter splitter ends) zero state ins sound inside = (
  clamped-inside splitter.limits.flow _ sound.limits.flow.0,
  (
    clamped-inside splitter.limits.conc _ sound.limits.conc.0,
    (clamped-inside splitter.limits.temp _ sound.limits.temp.0, tt),
  ),
)
shown-inside (unit.Splitter splitter ends) (suc zero) state ins sound inside = (
  clamped-inside splitter.limits.flow _ sound.limits.flow.0,
  (
    clamped-inside splitter.limits.conc _ sound.limits.conc.0,
    (clamped-inside splitter.limits.temp _ sound.limits.temp.0, tt),
  ),
)
shown-inside (unit.Splitter splitter ends) (suc (suc p)) state ins sound inside = tt

-- what it steps to lies in the limits of its states
pub steps-inside : (x : Unit) (state ins : List Interval) → IsUnitSound x →
    AllInside (steps x state ins) (state_limits_of x)
unfolding steps
steps-inside (unit.Tank tank ends) state ins sound = tank_laws.next-limited tank state ins sound
steps-inside (unit.Reactor reactor ends) state ins sound =
    reactor_laws.next-limited reactor state ins sound
steps-inside (unit.Column column ends) state ins sound =
    column_laws.next-limited column state ins sound
steps-inside (unit.Controller controller ends) state ins sound =
    controller_laws.next-limited controller state ins sound
steps-inside (unit.Mixer mixer ends) state ins sound = tt
steps-inside (unit.Splitter splitter ends) state ins sound = tt

-- no bands lie in no limits but none
pub none_inside : (As : List Interval) → AllInside As [] → As ≡ []
none_inside [] h = refl
none_inside (A ∷ As) h = absurd h

-- a unit that holds nothing back has no states
pub states-read : (x : Unit) (state : List Interval) → AllInside state (state_limits_of x) →
    (if is_instant x then [] else state) ≡ state
states-read (unit.Tank tank ends) state inside = refl
states-read (unit.Reactor reactor ends) state inside = refl
states-read (unit.Column column ends) state inside = refl
states-read (unit.Controller controller ends) state inside = refl
states-read (unit.Mixer mixer ends) state inside = sym (none_inside state inside)
states-read (unit.Splitter splitter ends) state inside = sym (none_inside state inside)

-- the channels that a mixer reads
streams-length : (n : ℕ) → length (mixers.streams n) ≡ 3 * n
streams-length zero = refl
streams-length (suc n) = omega (arith, streams-length n)

mixer-few : (n : ℕ) (ins : List Interval) → n ≤ 8 → AllInside ins (mixers.streams n) → length ins ≤ 24
mixer-few n ins h inside = omega (arith, inside-length ins (mixers.streams n) inside, streams-length n)

-- there are as many bands as limits
pub inside_length : (As Bs : List Interval) → AllInside As Bs → length Bs ≡ length As
inside_length As Bs h = sym (inside-length As Bs h)

-- the states of a column
pub column_states : (column : Column) → length (columns.state_limits column) ≡ column.stages + 4
column_states column =
    length-append (map (λ (i : ℕ). column.limits.conc) (columns.stages_of column)) (columns.register_limits column)
    ∙ ap (λ n. n + 4) (length-map (columns.stages_of column) (λ i. column.limits.conc)
    ∙ length-range_with_len 0 column.stages)

-- a unit has few states
pub states-few : (x : Unit) (state : List Interval) → IsUnitSound x → AllInside state (state_limits_of x) →
    length state ≤ 68
states-few (unit.Tank tank ends) state sound inside =
    omega (arith, inside-length state (tanks.state_limits tank) inside)
states-few (unit.Reactor reactor ends) state sound inside =
    omega (arith, inside-length state (reactors.state_limits reactor) inside)
states-few (unit.Column column ends) state sound inside =
    omega (arith, inside-length state (columns.state_limits column) inside, column_states column, sound.few)
states-few (unit.Controller controller ends) state sound inside =
    omega (arith, inside-length state (controllers.state_limits controller) inside)
states-few (unit.Mixer mixer ends) state sound inside =
    omega (arith, inside-length state [] inside)
states-few (unit.Splitter splitter ends) state sound inside =
    omega (arith, inside-length state [] inside)

-- a unit that holds something back shows the same whatever its inputs are
pub views-held : (x : Unit) (state ins others : List Interval) → is_instant x ≡ false →
    views x state ins ≡ views x state others
unfolding views
views-held x state ins others e = rw e refl

-- where there is a state, there are few inputs
pub inputs-few : (x : Unit) (state ins : List Interval) → AllInside state (state_limits_of x) → MayTake x ins →
    0 < length state → length ins ≤ 6
inputs-few (unit.Tank tank ends) state ins inside takes h =
    omega (arith, inside-length ins tanks.input_limits takes)
inputs-few (unit.Reactor reactor ends) state ins inside takes h =
    omega (arith, inside-length ins reactors.input_limits takes)
inputs-few (unit.Column column ends) state ins inside takes h =
    omega (arith, inside-length ins columns.input_limits takes.held)
inputs-few (unit.Controller controller ends) state ins inside takes h =
    omega (arith, inside-length ins controllers.input_limits takes)
inputs-few (unit.Mixer mixer ends) state ins inside takes h =
    absurd (omega (arith, inside-length state [] inside))
inputs-few (unit.Splitter splitter ends) state ins inside takes h =
    absurd (omega (arith, inside-length state [] inside))

none-here : (As : List Interval) → length As ≡ 0 → [] ≡ As
none-here [] h = refl
none-here (A ∷ As) h = absurd (omega (arith, h))

-- where there is none, there is none at the next tick
pub steps-none : (x : Unit) (state ins : List Interval) → IsUnitSound x → AllInside state (state_limits_of x) →
    length state ≡ 0 → state ≡ steps x state ins
steps-none x [] ins sound inside h =
    none-here (steps x [] ins)
    (omega (
      arith,
      inside-length (steps x [] ins) (state_limits_of x) (steps-inside x [] ins sound),
      inside-length [] (state_limits_of x) inside,
    ))
steps-none x (A ∷ state) ins sound inside h = absurd (omega (arith, h))

-- no unit has many inputs
pub takes-few : (x : Unit) (ins : List Interval) → IsUnitSound x → MayTake x ins → length ins ≤ 24
takes-few (unit.Tank tank ends) ins sound takes =
    omega (arith, inside-length ins tanks.input_limits takes)
takes-few (unit.Reactor reactor ends) ins sound takes =
    omega (arith, inside-length ins reactors.input_limits takes)
takes-few (unit.Column column ends) ins sound takes =
    omega (arith, inside-length ins columns.input_limits takes.held)
takes-few (unit.Controller controller ends) ins sound takes =
    omega (arith, inside-length ins controllers.input_limits takes)
takes-few (unit.Mixer mixer ends) ins sound takes = mixer-few mixer.inputs ins sound.few takes
takes-few (unit.Splitter splitter ends) ins sound takes =
    omega (arith, inside-length ins splitters.input_limits takes)

-- it has as many outputs as limits for them
pub ports-alike : (x : Unit) → length (view_of x) ≡ length (output_limits_of x)
ports-alike (unit.Tank tank ends) = refl
ports-alike (unit.Reactor reactor ends) = refl
ports-alike (unit.Column column ends) = refl
ports-alike (unit.Controller controller ends) = refl
ports-alike (unit.Mixer mixer ends) = refl
ports-alike (unit.Splitter splitter ends) = refl

-- it keeps its limits
pub unit-keeps : (x : Unit) → IsUnitSound x → KeepsLimits Floor (sheet_unit x)
unfolding sheet_unit steps
unit-keeps x sound = record {
  next = λ states inputs bands others. steps-inside x states inputs sound;
  view = λ p states inputs bands others inside. shown-inside x p states inputs sound inside;
}

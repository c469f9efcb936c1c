-- A generated plant passes all checks.
use Rattle.std.proofs.Common.{ℕ, suc, ◌+◌, ◌*◌, ◌<◌, ◌≤◌, ◌≡◌, Bool, true, false, List, [], ◌∷◌, pos, Ok}
use Rattle.std.proofs.Common.{refl, arith}
use Rattle.std.specs.List.{AllByRecursion}
use Rattle.std.proofs.lemmas.Int.{ints}
use Rattle.quant.specs.Interval.{point}
use Rattle.parts.specs.Parts.{FileParts}
use Rattle.parts.specs.InRange.{from_to}
use Rattle.parts.specs.declared.units.UnitPart.{UnitPart}
use Rattle.plant_streams.specs.Streams.{Reference, references_of, streams_of, number_of, gives_signal}
use Rattle.plant_streams.specs.declared.streams.StreamSource.{StreamSource}
use Rattle.plant_streams.specs.Limits.{limits_in}
use Rattle.plant_checks.specs.Openings.{openings_of}
use Rattle.plant_checks.specs.Checks.{Checked, each, source_check, source_refused, port_check, port_refused, same_bool}
use Rattle.plant_checks.specs.Checks.{is_outside}
use Rattle.plant_checks.specs.Checks.{limits_check, own_limits_check, opening_check, feed_pieces_check, pieces_check}
use Rattle.plant_checks.specs.Checks.{feed_inside_check, inside_check, channels_of, rate_check, rate_kind_check}
use Rattle.plant_checks.specs.Checks.{column_check, column_kind_check, checked, names_of}
use Rattle.plant_gen.specs.Generated.{mixer_of, tank_of, splitter_of, generated_parts, generated_limits}
use Rattle.plant_gen.specs.Generated.{generated_feeds}
use Rattle.plant_gen.proofs.Stages.{stages, each-stages}
use Rattle.plant_gen.proofs.Coded.{names-pass}
use Rattle.plant_gen.proofs.Names.{unit_code, names-coded}
use Rattle.plant_gen.proofs.Sources.{IsRead, mixer-read, tank-read, second-read, valve-read, taken-read}

-- a reference is met: there is such a stream, and it is a signal or not as is needed
record IsMet (parts : FileParts) (reference : Reference) : Type 0 where
  from : StreamSource
  read : IsRead parts reference.name reference.signal from

sources-met : (parts : FileParts) (u i : ℕ) (references : List Reference) → AllByRecursion (IsMet parts) references →
    each (λ k reference. source_refused u reference (number_of (streams_of parts) reference.name)) i references ≡ Ok tt
sources-met parts u i [] h = refl
sources-met parts u i (reference ∷ rest) h = rw h.0.read.number (sources-met parts u (suc i) rest h.1)

same-self : (b : Bool) → same_bool b b ≡ true
same-self true = refl
same-self false = refl

ports-met : (parts : FileParts) (u i : ℕ) (references : List Reference) → AllByRecursion (IsMet parts) references →
    each
    (λ k reference. port_refused u reference
    (gives_signal (streams_of parts) (number_of (streams_of parts) reference.name))) i references ≡ Ok tt
ports-met parts u i [] h = refl
ports-met parts u i (reference ∷ rest) h =
    rw (h.0.read.number, h.0.read.signal, same-self reference.signal) (ports-met parts u (suc i) rest h.1)

-- those of each unit are met
mixer-met : (n i : ℕ) → n ≤ 80 → i < n → AllByRecursion (IsMet (generated_parts n)) (references_of (mixer_of i).kind)
unfolding references_of
mixer-met n i few h =
    (record { from = _; read = taken-read n i few h }, (record { from = _; read = second-read n i few h }, tt))

tank-met : (n i : ℕ) → n ≤ 80 → i < n → AllByRecursion (IsMet (generated_parts n)) (references_of (tank_of i).kind)
unfolding references_of
tank-met n i few h =
    (record { from = _; read = mixer-read n i few h }, (record { from = _; read = valve-read n }, tt))

splitter-met : (n i : ℕ) → n ≤ 80 → i < n →
    AllByRecursion (IsMet (generated_parts n)) (references_of (splitter_of i).kind)
unfolding references_of
splitter-met n i few h = (record { from = _; read = tank-read n i few h }, tt)

-- a check that a unit passes where its references are met
met-pass : (check : ℕ → UnitPart → Checked) (n : ℕ) → n ≤ 80 →
    ((u : ℕ) (unit : UnitPart) → AllByRecursion (IsMet (generated_parts n)) (references_of unit.kind) → check u unit ≡ Ok tt) →
    each check 0 (stages 0 n) ≡ Ok tt
met-pass check n few passes =
    each-stages check n (λ u i h. passes u (mixer_of i) (mixer-met n i few h))
    (λ u i h. passes u (tank_of i) (tank-met n i few h)) (λ u i h. passes u (splitter_of i) (splitter-met n i few h)) 0 0 n
    (omega arith)

sources-pass : (n : ℕ) → n ≤ 80 →
    each (source_check (streams_of (generated_parts n))) 0 (stages 0 n) ≡ Ok tt
unfolding source_check
sources-pass n few =
    met-pass (source_check (streams_of (generated_parts n))) n few
    (λ u unit. sources-met (generated_parts n) u 0 (references_of unit.kind))

ports-pass : (n : ℕ) → n ≤ 80 → each (port_check (streams_of (generated_parts n))) 0 (stages 0 n) ≡ Ok tt
unfolding port_check
ports-pass n few =
    met-pass (port_check (streams_of (generated_parts n))) n few
    (λ u unit. ports-met (generated_parts n) u 0 (references_of unit.kind))

own_limits-pass : (n : ℕ) → each own_limits_check 0 (stages 0 n) ≡ Ok tt
unfolding own_limits_check
own_limits-pass n =
    each-stages own_limits_check n (λ u i h. refl) (λ u i h. refl) (λ u i h. refl) 0 0 n (omega arith)

-- one number inside its limits
inside : (lo hi x : ℕ) → lo ≤ x → x ≤ hi → is_outside (point (pos x)) (from_to lo hi) ≡ false
inside lo hi x h k = grind (arith, ints)

openings-pass : (n : ℕ) → n ≤ 80 → each (opening_check generated_limits) 0 (stages 0 n) ≡ Ok tt
unfolding opening_check openings_of limits_in
openings-pass n few =
    each-stages (opening_check generated_limits) n (λ u i h. refl)
    (λ u i h. rw (
      inside 1 1000000 (1000 + 10 * i) (omega arith) (omega arith),
      inside 0 100000 (100 + i) (omega arith) (omega arith),
    ) refl)
    (λ u i h. refl) 0 0 n (omega arith)

rates-pass : (n : ℕ) → each rate_check 0 (stages 0 n) ≡ Ok tt
unfolding rate_check rate_kind_check
rates-pass n = each-stages rate_check n (λ u i h. refl) (λ u i h. refl) (λ u i h. refl) 0 0 n (omega arith)

columns-pass : (parts : FileParts) (n : ℕ) → each (column_check parts) 0 (stages 0 n) ≡ Ok tt
unfolding column_check column_kind_check
columns-pass parts n =
    each-stages (column_check parts) n (λ u i h. refl) (λ u i h. refl) (λ u i h. refl) 0 0 n (omega arith)

limits-pass : limits_check generated_limits ≡ Ok tt
unfolding limits_check
limits-pass = refl

pieces-pass : each (λ f feed. feed_pieces_check f feed.kind) 0 generated_feeds ≡ Ok tt
unfolding feed_pieces_check pieces_check
pieces-pass = refl

feeds-pass : each (feed_inside_check generated_limits) 0 generated_feeds ≡ Ok tt
unfolding feed_inside_check inside_check channels_of
feeds-pass = refl

pub passes : (n : ℕ) → n ≤ 80 → checked (generated_parts n) ≡ Ok tt
unfolding checked generated_parts
passes n few =
    rw (
      names-pass unit_code (names_of (generated_parts n)) (names_of (generated_parts n)) 0 (names-coded n few)
          (names-coded n few),
      sources-pass n few,
      ports-pass n few,
      limits-pass,
      own_limits-pass n,
      openings-pass n few,
      pieces-pass,
      feeds-pass,
      rates-pass n,
      columns-pass (generated_parts n) n,
    ) refl

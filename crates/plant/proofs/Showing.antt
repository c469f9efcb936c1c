-- A unit shows itself in the streams.
use Rattle.std.proofs.Common.{List, [], map, ◌≡◌, ◌∷◌, ◌++◌, refl, ap, ◌∙◌, ℕ, length, sym, arith, true, subst, ◌<◌}
use Rattle.std.proofs.Common.{get_or, ◌≢◌, inl, inr}
use Rattle.std.specs.Prelude.{if◌then◌else◌, slice_index_or, slice_index}
use Rattle.std.proofs.lemmas.List.{map-append, length-map}
use Rattle.std.proofs.Math.ListN.{get_or-map}
use Rattle.std.specs.List.{AllByRecursion}
use Rattle.std.proofs.lemmas.Bool.{cases_eq, eq-eqb, ne_eqb}
use Rattle.quant.specs.Interval.{Interval, AllInside}
use Rattle.quant.specs.Rounding.{Floor}
use Rattle.quant.specs.Term.{intervals, interval}
use Rattle.quant.specs.Ports.{outputs}
use Rattle.quant.proofs.Calls.{inside-length}
use Rattle.flowsheet.specs.Reading.{shown, inputs_of, on_bands}
use Rattle.flowsheet.specs.Plant as sheet
use Rattle.parts.specs.Parts.{FileParts}
use Rattle.plant_streams.specs.declared.streams.StreamSource.{StreamSource}
use Rattle.plant_streams.specs.declared.streams.StreamSource.TheVariants as source
use Rattle.plant_streams.specs.Limits.{source_at}
use Rattle.plant_units.specs.declared.units.Unit.{Unit}
use Rattle.plant_units.specs.Units.{view_of, is_instant, state_limits_of, sheet_unit, gives_of, output_limits_of}
use Rattle.plant_units.specs.Units.{reads_of, MayTake, units_of}
use Rattle.plant_units.specs.Steps.{views, bands_at, gathered, MayShow, HasRoom, spread, shows}
use Rattle.plant_units.proofs.AllKinds.{states-read, shown-inside}
use Rattle.plant_units.proofs.Spreads.{AreRows, rows-room, rows-spread, spread-others, spread-widths}
use Rattle.plant.specs.Rows.{IsRow}
use Rattle.plant.specs.Sound.{IsSoundUnit, ArePartsSound, outputs_at, IsSource}
use Rattle.plant.specs.PlantOf.{plant_of}
use Rattle.plant.specs.Steps.{IsReady, shown_by, shown_at, HasShown}
use Rattle.plant.proofs.Inputs.{takes-streams}
use Rattle.plant.proofs.Lookups.{sound-at, unit-is, From, from_feed, from_port, from, outputs-are}
use Rattle.plant.proofs.Stepping.{states-inside, may-show_by}

-- what a unit shows, an output a row
abbrev pub shown_rows : Unit → List Interval → List Interval → List (List Interval)
shown_rows x state ins = map (λ terms. intervals Floor terms state (if is_instant x then ins else [])) (view_of x)

outputs-map : {A B : Type 0} (f : A → B) (rows : List (List A)) → map f (outputs rows) ≡ outputs (map (map f) rows)
outputs-map f [] = refl
outputs-map f (row ∷ rows) = map-append f row (outputs rows) ∙ ap (λ rest. map f row ++ rest) (outputs-map f rows)

pub views-rows : (x : Unit) (state ins : List Interval) → AllInside state (state_limits_of x) →
    views x state ins ≡ outputs (shown_rows x state ins)
unfolding views
views-rows x state ins inside =
    let read : List Interval = if is_instant x then ins else [] in
    ap (λ (bands : List Interval). intervals Floor (outputs (view_of x)) bands read) (states-read x state inside)
    ∙ outputs-map (interval Floor state read) (view_of x)

-- each row is what the definitions show
pub row-is : (x : Unit) (state ins : List Interval) (p : ℕ) → slice_index_or (shown_rows x state ins) p [] ≡ shown
    (interval Floor) (sheet_unit x) p state ins
unfolding sheet_unit
row-is x state ins p =
    get_or-map (λ terms. intervals Floor terms state (if is_instant x then ins else [])) (view_of x) p []

-- the numbers of a port and its unit
port_in : StreamSource → ℕ
port_in (source.Feed f) = 0
port_in (source.Port u p) = p

unit_in : StreamSource → ℕ
unit_in (source.Feed f) = 0
unit_in (source.Port u p) = u

rows-of : (parts : FileParts) (n : ℕ) (x : Unit) (states streams : List (List Interval)) (ins : List Interval) →
    IsRow parts (record { states = states; streams = streams }) → IsSoundUnit parts n x →
    AllInside (bands_at states n) (state_limits_of x) →
    AreRows (gives_of x) (shown_rows x (bands_at states n) ins) streams
unfolding port_in
rows-of parts n x states streams ins row t inside = record {
  counted =
      length-map (view_of x) (λ terms. intervals Floor terms (bands_at states n) (if is_instant x then ins else []))
      ∙ sym t.counted;
  there = λ j l. omega (arith, row.streams_counted, (t.gives j l).0);
  widths = λ j l.
      ap length (row-is x (bands_at states n) ins j)
      ∙ (inside-length _ (slice_index_or (output_limits_of x) j [])
      (shown-inside x j (bands_at states n) ins t.sound inside)
      ∙ (ap length (sym (t.limits j l)) ∙ sym (row.channels (slice_index (gives_of x) j) (t.gives j l).0)));
  once = λ i j l k e. sym (ap port_in (t.gives i l).1)
      ∙ (ap (λ s. port_in (source_at parts s)) e ∙ ap port_in (t.gives j k).1);
}

-- what it reads is what it may take
ready-takes : (parts : FileParts) (n : ℕ) (x : Unit) (streams : List (List Interval)) → IsSoundUnit parts n x →
    IsReady parts n streams →
    sheet.unit_at (plant_of parts) n ≡ sheet_unit x → is_instant x ≡ true → MayTake x (gathered (reads_of x) streams)
unfolding sheet_unit
ready-takes parts n x streams t ready e i =
    let others = ready (ap (λ (u : sheet.PlantUnit). u.instant) e ∙ i) in
    subst (MayTake x)
    (sym (sym (ap (λ (u : sheet.PlantUnit). inputs_of u (bands_at streams)) e)
    ∙ (others.2 ∙ ap (λ (u : sheet.PlantUnit). inputs_of u others.0) e)))
    (takes-streams parts n x others.0 t others.1)

pub may-show : (parts : FileParts) (n : ℕ) (x : Unit) (states streams : List (List Interval)) → ArePartsSound parts →
    IsRow parts (record { states = states; streams = streams }) → IsReady parts n streams →
    n < length (units_of parts) →
    MayShow (get_or (units_of parts) n x) (bands_at states n) streams
may-show parts n x states streams s row ready h =
    may-show_by parts n x states streams s (row.states n h) row.streams_counted h
    (ready-takes parts n (get_or (units_of parts) n x) streams (sound-at parts n x s.units h) ready (unit-is parts n x h))

-- there is room for what it shows
has_room-unit : (parts : FileParts) (n : ℕ) (x : Unit) (states streams : List (List Interval)) (ins : List Interval) →
    IsRow parts (record { states = states; streams = streams }) → IsSoundUnit parts n x →
    AllInside (bands_at states n) (state_limits_of x) →
    HasRoom (gives_of x) (views x (bands_at states n) ins) streams
has_room-unit parts n x states streams ins row t inside =
    rw (views-rows x (bands_at states n) ins inside)
    (rows-room (gives_of x) _ streams (rows-of parts n x states streams ins row t inside))

pub has-room : (parts : FileParts) (n : ℕ) (x : Unit) (states streams : List (List Interval)) (ins : List Interval) →
    ArePartsSound parts →
    IsRow parts (record { states = states; streams = streams }) → n < length (units_of parts) →
    HasRoom (gives_of (get_or (units_of parts) n x)) (views (get_or (units_of parts) n x) (bands_at states n) ins)
    streams
has-room parts n x states streams ins s row h =
    has_room-unit parts n (get_or (units_of parts) n x) states streams ins row (sound-at parts n x s.units h)
    (states-inside parts n x (bands_at states n) h (row.states n h))

-- what it shows at an output
shows-output : (parts : FileParts) (n p : ℕ) (x : Unit) (states streams : List (List Interval)) →
    sheet.unit_at (plant_of parts) n ≡ sheet_unit x →
    slice_index_or (shown_rows x (bands_at states n) (gathered (reads_of x) streams)) p [] ≡ shown_by parts states
    (bands_at streams) n p
unfolding plant_of sheet_unit
shows-output parts n p x states streams e =
    row-is x (bands_at states n) (gathered (reads_of x) streams) p
    ∙ sym (ap (λ (u : sheet.PlantUnit). shown (on_bands (plant_of parts)) u p (bands_at states n)
    (inputs_of u (bands_at streams))) e)

-- a stream from elsewhere is none of its outputs
other-stream : (parts : FileParts) (n s : ℕ) (x : Unit) (src : StreamSource) → IsSoundUnit parts n x →
    source_at parts s ≡ src →
    ((p : ℕ) → src ≢ source.Port n p) → (j : ℕ) → j < length (gives_of x) → slice_index (gives_of x) j ≢ s
other-stream parts n s x src t e ne j l d = ne j (sym e ∙ (ap (source_at parts) (sym d) ∙ (t.gives j l).1))

-- each of its outputs stands in its stream
shown-port : (parts : FileParts) (n u p s : ℕ) (x : Unit) (states streams : List (List Interval)) →
    IsSoundUnit parts n x →
    AreRows (gives_of x) (shown_rows x (bands_at states n) (gathered (reads_of x) streams)) streams →
    sheet.unit_at (plant_of parts) n ≡ sheet_unit x → outputs_at parts n ≡ gives_of x →
    source_at parts s ≡ source.Port u p → IsSource parts s (source.Port u p) →
    bands_at (spread (gives_of x) (outputs (shown_rows x (bands_at states n) (gathered (reads_of x) streams)))
    streams) s
    ≡ shown_at parts states streams n (bands_at streams s) (source.Port u p)
unfolding unit_in
shown-port parts n u p s x states streams t rows e o h k =
    elim (cases_eq u n) [
      | inl d ↦
          let k' = subst (λ (v : ℕ). IsSource parts s (source.Port v p)) d k in
          let l : p < length (gives_of x) = subst (λ (ns : List ℕ). p < length ns) o k'.1 in
          let at : slice_index (gives_of x) p ≡ s = sym (ap (λ ns. slice_index ns p) o) ∙ k'.2 in
          ap (λ q. bands_at
          (spread (gives_of x) (outputs (shown_rows x (bands_at states n) (gathered (reads_of x) streams)))
          streams) q) (sym at)
          ∙ (rows-spread (gives_of x) _ streams p rows l ∙ (shows-output parts n p x states streams e
          ∙ (ap (λ v. shown_by parts states (bands_at streams) v p) (sym d)
          ∙ ap (λ b. if b then shown_by parts states (bands_at streams) u p else bands_at streams s)
          (sym (eq-eqb u n d)))))
      | inr ne ↦
          spread-others (gives_of x) _ streams s
          (other-stream parts n s x (source.Port u p) t h (λ q d. ne (ap unit_in d)))
          ∙ ap (λ b. if b then shown_by parts states (bands_at streams) u p else bands_at streams s)
          (sym (ne_eqb u n ne))
    ]

has_shown-rows : (parts : FileParts) (n s : ℕ) (x : Unit) (states streams : List (List Interval)) →
    IsSoundUnit parts n x →
    AreRows (gives_of x) (shown_rows x (bands_at states n) (gathered (reads_of x) streams)) streams →
    sheet.unit_at (plant_of parts) n ≡ sheet_unit x → outputs_at parts n ≡ gives_of x → From parts s →
    bands_at (spread (gives_of x) (outputs (shown_rows x (bands_at states n) (gathered (reads_of x) streams)))
    streams) s
    ≡ shown_at parts states streams n (bands_at streams s) (source_at parts s)
has_shown-rows parts n s x states streams t rows e o (from_feed f h k) =
    spread-others (gives_of x) _ streams s (other-stream parts n s x (source.Feed f) t h (λ p d. absurd (cc)))
    ∙ sym (ap (shown_at parts states streams n (bands_at streams s)) h)
has_shown-rows parts n s x states streams t rows e o (from_port u p h k) =
    shown-port parts n u p s x states streams t rows e o h k
    ∙ sym (ap (shown_at parts states streams n (bands_at streams s)) h)

has_shown-unit : (parts : FileParts) (n : ℕ) (x : Unit) (states streams : List (List Interval)) → ArePartsSound parts →
    IsRow parts (record { states = states; streams = streams }) → sheet.unit_at (plant_of parts) n ≡ sheet_unit x →
    outputs_at parts n ≡ gives_of x →
    IsSoundUnit parts n x → AllInside (bands_at states n) (state_limits_of x) →
    HasShown parts n states streams (shows x (bands_at states n) streams)
has_shown-unit parts n x states streams sound row e o t inside =
    let ins : List Interval = gathered (reads_of x) streams in
    let rows = rows-of parts n x states streams ins row t inside in
    let same : shows x (bands_at states n) streams ≡ spread (gives_of x)
    (outputs (shown_rows x (bands_at states n) ins)) streams =
    ap (λ bands. spread (gives_of x) bands streams) (views-rows x (bands_at states n) ins inside) in
    record {
      shown = λ s h. ap (λ ss. bands_at ss s) same ∙ has_shown-rows parts n s x states streams t rows e o
          (from parts s sound h);
      widths = λ s. spread-widths (gives_of x) _ streams s (has_room-unit parts n x states streams ins row t inside);
    }

pub has-shown : (parts : FileParts) (n : ℕ) (x : Unit) (states streams : List (List Interval)) → ArePartsSound parts →
    IsRow parts (record { states = states; streams = streams }) → n < length (units_of parts) →
    HasShown parts n states streams (shows (get_or (units_of parts) n x) (bands_at states n) streams)
has-shown parts n x states streams s row h =
    has_shown-unit parts n (get_or (units_of parts) n x) states streams s row (unit-is parts n x h)
    (outputs-are parts n x h) (sound-at parts n x s.units h)
    (states-inside parts n x (bands_at states n) h (row.states n h))

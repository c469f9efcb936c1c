-- What a unit reads lies in the limits of the streams that its references name, and so where it may lie.
use Rattle.std.proofs.Common.{arith, List, [], ◌∷◌, ◌++◌, pos, Bool, true, false, ◌≡◌, ℕ, zero, suc, ◌<◌, length, map}
use Rattle.std.proofs.Common.{slice_index_or, refl, ap, ◌∙◌, subst, ℤ, ◌≤ℤ◌, Ok, subst₂}
use Rattle.std.proofs.lemmas.Int.{ints}
use Rattle.std.specs.Prelude.{if◌then◌else◌, flat_map, ◌+ℤ◌, ◌*ℤ◌, int_le, ◌&&◌, codes}
use Rattle.quant.specs.Interval.{Interval, IsInside, AllInside, wide, point}
use Rattle.quant.specs.Limits.{wide_from, AreLimits}
use Rattle.quant.specs.declared.limits.Limits.{Limits}
use Rattle.quant.specs.Operation.{million, IsDrainable}
use Rattle.quant.proofs.Division.{times-le}
use Rattle.quant.proofs.Terms.{place-inside}
use Rattle.basic_units.specs.Mixer as mixers
use Rattle.parts.specs.Parts.{FileParts}
use Rattle.parts.specs.InRange.{IsKindPart}
use Rattle.parts.specs.declared.units.KindPart.{KindPart}
use Rattle.parts.specs.declared.units.KindPart.TheVariants as part
use Rattle.plant_streams.specs.Limits.{channel_limits, source_limits, stream_limits, source_at, limits_at}
use Rattle.plant_streams.specs.declared.streams.Stream.{Stream}
use Rattle.plant_streams.specs.declared.streams.StreamSource.TheVariants as source
use Rattle.plant_streams.specs.Streams.{streams_of, Reference, mixer_references, number_of, needs_material}
use Rattle.plant_streams.specs.Streams.{references_of}
use Rattle.plant_checks.specs.declared.fault.PlantFault.{PlantFault}
use Rattle.plant_checks.specs.Checks.{refuse_if, is_too_fast, greatest_flow, column_kind_check}
use Rattle.plant_checks.proofs.Passed.{passes-test}
use Rattle.plant_units.specs.Units.{made_unit, inputs_of, MayTake}
use Rattle.plant.proofs.Numbers.{number_named, IsFound, AreFound}

-- intervals inside others
inside-through : (A B C : Interval) → IsInside A B → IsInside B C → IsInside A C
inside-through A B C h k = let a = h.above in let b = h.below in let c = k.above in let d = k.below in
    record { above = omega (arith, ints); below = omega (arith, ints) }

all-through : (As Bs Cs : List Interval) → AllInside As Bs → AllInside Bs Cs → AllInside As Cs
all-through [] [] Cs h k = k
all-through [] (B ∷ Bs) Cs h k = absurd h
all-through (A ∷ As) [] Cs h k = absurd h
all-through (A ∷ As) (B ∷ Bs) [] h k = absurd k
all-through (A ∷ As) (B ∷ Bs) (C ∷ Cs) h k = (inside-through A B C h.0 k.0, all-through As Bs Cs h.1 k.1)

pub inside-append : (As Cs Bs Ds : List Interval) → AllInside As Bs → AllInside Cs Ds → AllInside (As ++ Cs) (Bs ++ Ds)
inside-append [] Cs [] Ds h k = k
inside-append [] Cs (B ∷ Bs) Ds h k = absurd h
inside-append (A ∷ As) Cs [] Ds h k = absurd h
inside-append (A ∷ As) Cs (B ∷ Bs) Ds h k = (h.0, inside-append As Cs Bs Ds h.1 k)

-- where the channels of any stream lie
abbrev widest : Bool → List Interval
widest signal = if signal then wide ∷ [] else wide_from (pos 0) ∷ wide ∷ wide ∷ []

limits-widest : (limits : Limits) (signal : Bool) → AreLimits limits →
    AllInside (channel_limits limits signal) (widest signal)
limits-widest limits true h = (h.signal.1, tt)
limits-widest limits false h = (h.flow.1, (h.conc.1, (h.temp.1, tt)))

-- the limits of a stream, by where it comes from and whether it is a signal
limits-placed : (parts : FileParts) (streams : List Stream) (s : ℕ) → s < length streams →
    slice_index_or (map (stream_limits parts) streams) s []
    ≡ channel_limits (source_limits parts (slice_index_or (map (λ stream. stream.source) streams) s (source.Feed 0)))
    (slice_index_or (map (λ stream. stream.signal) streams) s false)
limits-placed parts [] s l = absurd (omega arith)
limits-placed parts (stream ∷ streams) zero l = refl
limits-placed parts (stream ∷ streams) (suc s) l = limits-placed parts streams s (omega arith)

pub limits-at : (parts : FileParts) (s : ℕ) → s < length (streams_of parts) →
    limits_at parts s
    ≡ channel_limits (source_limits parts (source_at parts s))
    (slice_index_or (map (λ stream. stream.signal) (streams_of parts)) s false)
limits-at parts s l = limits-placed parts (streams_of parts) s l

-- the limits of the plant or the unit from which what a reference names comes, and those of its channels
abbrev limits_named : FileParts → Reference → Limits
limits_named parts reference = source_limits parts (source_at parts (number_named (streams_of parts) reference))

abbrev channels_named : FileParts → Reference → List Interval
channels_named parts reference = channel_limits (limits_named parts reference) reference.signal

-- the limits of what a unit reads
named-limits : (parts : FileParts) (reference : Reference) → IsFound (streams_of parts) reference →
    limits_at parts (number_named (streams_of parts) reference) ≡ channels_named parts reference
named-limits parts reference found =
    limits-at parts (number_named (streams_of parts) reference) found.there
    ∙ ap (channel_limits (limits_named parts reference)) found.fits

read-limits : (parts : FileParts) (references : List Reference) → AreFound (streams_of parts) references →
    flat_map (limits_at parts) (map (number_named (streams_of parts)) references)
    ≡ flat_map (channels_named parts) references
read-limits parts [] found = refl
read-limits parts (reference ∷ references) found =
    ap (λ limits. limits ++ flat_map (limits_at parts) (map (number_named (streams_of parts)) references))
    (named-limits parts reference found.0)
    ∙ ap (λ rest. channels_named parts reference ++ rest) (read-limits parts references found.1)

reads-inside : (parts : FileParts) (row : List Interval) (references : List Reference) →
    AllInside row (flat_map (limits_at parts) (map (number_named (streams_of parts)) references)) →
    AreFound (streams_of parts) references →
    AllInside row (flat_map (channels_named parts) references)
reads-inside parts row references inside found = subst (AllInside row) (read-limits parts references found) inside

-- and these lie where the channels of any stream lie
abbrev pub HaveLimits : FileParts → Type 0
HaveLimits parts = (s : ℕ) → AreLimits (source_limits parts (source_at parts s))

channels-widest : (parts : FileParts) (references : List Reference) → HaveLimits parts →
    AllInside (flat_map (channels_named parts) references) (flat_map (λ reference. widest reference.signal) references)
channels-widest parts [] limits = tt
channels-widest parts (reference ∷ references) limits =
    inside-append (channels_named parts reference) (flat_map (channels_named parts) references)
    (widest reference.signal) (flat_map (λ (reference : Reference). widest reference.signal) references)
    (limits-widest (limits_named parts reference) reference.signal (limits (number_named (streams_of parts) reference)))
    (channels-widest parts references limits)

reads-widest : (parts : FileParts) (row : List Interval) (references : List Reference) →
    AllInside row (flat_map (limits_at parts) (map (number_named (streams_of parts)) references)) →
    HaveLimits parts → AreFound (streams_of parts) references →
    AllInside row (flat_map (λ reference. widest reference.signal) references)
reads-widest parts row references inside limits found =
    all-through _ (flat_map (channels_named parts) references) _ (reads-inside parts row references inside found)
    (channels-widest parts references limits)

-- a mixer reads streams of flow, conc and temp alone
mixer-widest : (i : ℕ) (input : List (List ℕ)) →
    flat_map (λ reference. widest reference.signal) (mixer_references i input) ≡ mixers.streams (length input)
mixer-widest i [] = refl
mixer-widest i (name ∷ input) =
    ap (λ (rest : List Interval). wide_from (pos 0) ∷ wide ∷ wide ∷ rest) (mixer-widest (suc i) input)

-- a column that is not too fast at the greatest flows is not too fast below them
not-too-fast : (holdup slope l v : ℤ) →
    (int_le (l *ℤ million +ℤ v *ℤ slope) (holdup *ℤ million) && int_le v holdup) ≡ true →
    IsDrainable holdup slope l v
not-too-fast holdup slope l v e = record { leaves = grind (arith, ints); passes = grind (arith, ints) }

drains-below : (holdup slope l v x y : ℤ) → pos 0 ≤ℤ slope → l ≤ℤ x → v ≤ℤ y → IsDrainable holdup slope x y →
    IsDrainable holdup slope l v
drains-below holdup slope l v x y s h k d =
    let a : (l *ℤ million) ≤ℤ (x *ℤ million) = times-le l x million (omega (arith, ints)) h in
    let b : (v *ℤ slope) ≤ℤ (y *ℤ slope) = times-le v y slope s k in
    let c = d.leaves in
    let e = d.passes in
    record { leaves = omega (arith, ints); passes = omega (arith, ints) }

column-drains : (parts : FileParts) (holdup slope : ℤ) (liquid vapour : Reference) (ins : List Interval)
    (refusal : PlantFault) →
    pos 0 ≤ℤ slope → liquid.signal ≡ false → vapour.signal ≡ false →
    IsFound (streams_of parts) liquid → IsFound (streams_of parts) vapour →
    AllInside ins (channels_named parts liquid ++ channels_named parts vapour ++ []) →
    refuse_if (is_too_fast holdup slope (greatest_flow parts (number_of (streams_of parts) liquid.name))
    (greatest_flow parts (number_of (streams_of parts) vapour.name))) refusal
    ≡ Ok tt →
    IsDrainable holdup slope (slice_index_or ins 0 (point (pos 0))).hi (slice_index_or ins 3 (point (pos 0))).hi
column-drains parts holdup slope liquid vapour ins refusal s a b f g inside e =
    let L : Limits = limits_named parts liquid in
    let M : Limits = limits_named parts vapour in
    let lies : AllInside ins (channel_limits L false ++ channel_limits M false ++ [])
    = subst₂ (λ i j. AllInside ins (channel_limits L i ++ channel_limits M j ++ [])) a b inside in
    let l : IsInside (slice_index_or ins 0 (point (pos 0))) L.flow = place-inside ins _ 0 lies in
    let v : IsInside (slice_index_or ins 3 (point (pos 0))) M.flow = place-inside ins _ 3 lies in
    drains-below holdup slope _ _ L.flow.hi M.flow.hi s l.below v.below
    (subst₂ (IsDrainable holdup slope) (ap (greatest_flow parts) f.named) (ap (greatest_flow parts) g.named)
    (not-too-fast holdup slope _ _ (passes-test _ refusal e)))

-- what each kind of unit may take
pub made-takes : (parts : FileParts) (name : List ℕ) (limits : Limits) (outputs : List ℕ) (kind : KindPart) →
    IsKindPart kind →
    AreFound (streams_of parts) (references_of kind) → HaveLimits parts → column_kind_check parts name kind ≡ Ok tt →
    (row : List Interval) → AllInside row (flat_map (limits_at parts) (inputs_of (streams_of parts) kind)) →
    MayTake (made_unit name limits (inputs_of (streams_of parts) kind) outputs kind) row
unfolding made_unit references_of column_kind_check
made-takes parts name limits outputs (part.Tank input valve k volume flow conc temp) range found wide checks
    row inside =
    reads-widest parts row (references_of (part.Tank input valve k volume flow conc temp)) inside wide found
made-takes parts name limits outputs (part.Reactor input valve jacket k rate heat ua volume flow conc temp)
    range found wide
    checks row inside =
    reads-widest parts row (references_of (part.Reactor input valve jacket k rate heat ua volume flow conc temp))
    inside wide
    found
made-takes parts name limits outputs
    (part.Column liquid vapour stages holdup slope x liquid_flow liquid_temp vapour_flow vapour_temp) range
    found wide checks
    row inside =
    let kind : KindPart =
    part.Column liquid vapour stages holdup slope x liquid_flow liquid_temp vapour_flow vapour_temp in
    record {
      held = reads-widest parts row (references_of kind) inside wide found;
      drainable = column-drains parts holdup slope (needs_material (codes "liquid") liquid)
          (needs_material (codes "vapour") vapour) _ _
          range.5.above refl refl found.0 found.1.0 (reads-inside parts row (references_of kind) inside found)
          checks;
    }
made-takes parts name limits outputs (part.Controller set measured kp ki bias integral_limits integral out)
    range found wide
    checks row inside =
    reads-widest parts row (references_of (part.Controller set measured kp ki bias integral_limits integral out))
    inside wide
    found
made-takes parts name limits outputs (part.Mixer input) range found wide checks row inside =
    subst (AllInside row) (mixer-widest 0 input)
    (reads-widest parts row (references_of (part.Mixer input)) inside wide found)
made-takes parts name limits outputs (part.Splitter input share) range found wide checks row inside =
    reads-widest parts row (references_of (part.Splitter input share)) inside wide found

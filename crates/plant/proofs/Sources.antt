-- Where streams come from, by their numbers: the feeds, and then the outputs of each unit in turn.
use Rattle.std.proofs.Common.{◌≡◌, ℕ, suc, ◌+◌, ◌-◌, List, [], ◌∷◌, length, refl, ap, map, slice_index_or, zero, ◌<◌}
use Rattle.std.proofs.Common.{◌++◌, arith, slice_index, sym, ◌∙◌, subst, subst₂, ⊎_elim, add-zero}
use Rattle.std.specs.List.{range_with_len}
use Rattle.std.proofs.lemmas.List.FromFn.{length-range_with_len, get_or-range_with_len}
use Rattle.std.proofs.lemmas.Bool.{cases_lt}
use Rattle.std.proofs.lemmas.List.{length-append}
use Rattle.flowsheet.specs.Plant.{feed, Origin, port, origin_of}
use Rattle.parts.specs.Parts.{FileParts}
use Rattle.parts.specs.declared.units.UnitPart.{UnitPart}
use Rattle.plant_streams.specs.Streams.{ports_of, Port, port_streams, streams_of, unit_streams, feed_streams}
use Rattle.plant_streams.specs.declared.streams.Stream.{Stream}
use Rattle.plant_streams.specs.declared.streams.StreamSource.{StreamSource}
use Rattle.plant_streams.specs.declared.streams.StreamSource.TheVariants as source
use Rattle.plant_streams.specs.Limits.{limits_in, source_at}
use Rattle.plant_units.specs.Units.{units_from, units_of, gives_of, inputs_of, unit_from}
use Rattle.plant_units.specs.declared.units.Unit.{Unit}
use Rattle.plant_units.proofs.Making.{is_made}
use Rattle.plant_streams.proofs.Counts.{length-feed_streams, length-port_streams}
use Rattle.plant.proofs.Numbers.{at-placed, feeds-first}
use Rattle.plant.specs.PlantOf.{origin_in, plant_of}

-- there are as many units as parts of units
length-units_from : (parts : FileParts) (first : ℕ) (rest : List UnitPart) →
    length (units_from parts first rest) ≡ length rest
length-units_from parts first [] = refl
length-units_from parts first (unit ∷ rest) =
    ap suc (length-units_from parts (first + length (ports_of unit.kind)) rest)

pub length-units_of : (parts : FileParts) → length (units_of parts) ≡ length parts.units
unfolding units_of
length-units_of parts = length-units_from parts (length parts.feeds) parts.units

abbrev pub outputs_in : List Unit → ℕ → List ℕ
outputs_in units u = slice_index_or (map gives_of units) u []

-- the source of a port's stream
pub port-at : (name : List ℕ) (u p k n : ℕ) (ports : List Port) (rest : List Stream) (d : StreamSource) →
    k < length ports → n ≡ p + k →
    slice_index_or (map (λ stream. stream.source) (port_streams name u p ports ++ rest)) k d ≡ source.Port u n
port-at name u p k n [] rest d l e = absurd (omega arith)
port-at name u p zero n (x ∷ ports) rest d l e = ap (source.Port u) (omega arith)
port-at name u p (suc k) n (x ∷ ports) rest d l e = port-at name u (suc p) k n ports rest d (omega arith) (omega arith)

-- the number of a unit's output
pub unit-gives : (parts : FileParts) (first : ℕ) (x : UnitPart) →
    gives_of (unit_from parts first x) ≡ range_with_len first (length (ports_of x.kind))
unfolding unit_from
unit-gives parts first x =
    (is_made x.name (limits_in parts.limits x.limits) (inputs_of (streams_of parts) x.kind)
    (range_with_len first (length (ports_of x.kind))) x.kind).gives

output-at : (parts : FileParts) (first k : ℕ) (x : UnitPart) → k < length (ports_of x.kind) →
    (k < length (gives_of (unit_from parts first x))) × (slice_index (gives_of (unit_from parts first x)) k ≡ first + k)
output-at parts first k x l =
    let n : ℕ = length (ports_of x.kind) in
    rw (unit-gives parts first x) (omega (arith, length-range_with_len first n), get_or-range_with_len first n k 0 l)

-- what holds of each output of the units from number u on holds of each of their streams
at-outputs : (parts : FileParts) (Q : ℕ → StreamSource → Type 0) (u first : ℕ) (rest : List UnitPart)
    (d : StreamSource) →
    ((j p : ℕ) → j < length rest → p < length (outputs_in (units_from parts first rest) j) →
    Q (slice_index (outputs_in (units_from parts first rest) j) p) (source.Port (u + j) p)) →
    (k : ℕ) → k < length (unit_streams u rest) →
    Q (first + k) (slice_index_or (map (λ stream. stream.source) (unit_streams u rest)) k d)
at-outputs parts Q u first [] d h k l = absurd (omega arith)
at-outputs parts Q u first (x ∷ rest) d h k l = ⊎_elim
    (λ a.
    let o = output-at parts first k x a in
    let here : slice_index_or (map (λ (stream : Stream). stream.source) (unit_streams u (x ∷ rest))) k d
    ≡ source.Port u k
    = port-at x.name u 0 k k (ports_of x.kind) (unit_streams (suc u) rest) d a (omega arith) in
    subst₂ Q o.1 (ap (λ v. source.Port v k) (add-zero u) ∙ sym here) (h 0 k (omega arith) o.0))
    (λ b.
    let n : ℕ = length (ports_of x.kind) in
    let own : List Stream = port_streams x.name u 0 (ports_of x.kind) in
    let others : List Stream = unit_streams (suc u) rest in
    let owned : length own ≡ n = length-port_streams x.name u 0 (ports_of x.kind) in
    let all : length (own ++ others) ≡ length own + length others = length-append own others in
    let behind : slice_index_or (map (λ (stream : Stream). stream.source) (own ++ others)) k d
    ≡ slice_index_or (map (λ (stream : Stream). stream.source) others) (k - n) d
    = at-placed (λ (stream : Stream). stream.source) (own ++ others) own others n (k - n) k d refl owned
    (omega arith) in
    subst₂ Q (omega arith) (sym behind)
    (at-outputs parts Q (suc u) (first + n) rest d
    (λ j p e f. subst (λ v. Q (slice_index (outputs_in (units_from parts (first + n) rest) j) p) (source.Port v p))
    (omega arith)
    (h (suc j) p (omega arith) f))
    (k - n) (omega arith)))
    (cases_lt k (length (ports_of x.kind)))

-- what holds of each feed and of each output of a unit holds of each stream
pub by-source : (parts : FileParts) (Q : ℕ → StreamSource → Type 0) →
    ((f : ℕ) → f < length parts.feeds → Q f (source.Feed f)) →
    ((u p : ℕ) → u < length (units_of parts) → p < length (outputs_in (units_of parts) u) →
    Q (slice_index (outputs_in (units_of parts) u) p) (source.Port u p)) →
    (s : ℕ) → s < length (streams_of parts) → Q s (source_at parts s)
unfolding streams_of units_of
by-source parts Q fed shows s l = ⊎_elim
    (λ a. subst (Q s) (sym (feeds-first parts s a)) (fed s a))
    (λ b.
    let n : ℕ = length parts.feeds in
    let feeds : List Stream = feed_streams 0 parts.feeds in
    let others : List Stream = unit_streams 0 parts.units in
    let counted : length feeds ≡ n = length-feed_streams 0 parts.feeds in
    let all : length (streams_of parts) ≡ length feeds + length others = length-append feeds others in
    let behind : source_at parts s ≡ slice_index_or (map (λ (stream : Stream). stream.source) others) (s - n)
    (source.Feed 0)
    = at-placed (λ (stream : Stream). stream.source) (streams_of parts) feeds others n (s - n) s
    (source.Feed 0) refl counted
    (omega arith) in
    subst₂ Q (omega arith) (sym behind)
    (at-outputs parts Q 0 n parts.units (source.Feed 0)
    (λ j p e f. subst (λ v. Q (slice_index (outputs_in (units_of parts) j) p) (source.Port v p)) (omega arith)
    (shows j p (omega (arith, length-units_of parts)) f))
    (s - n) (omega arith)))
    (cases_lt s (length parts.feeds))

-- so it holds of each origin
pub origin-at : (streams : List Stream) (s : ℕ) →
    slice_index_or (map (λ stream. origin_in stream.source) streams) s (feed 0)
    ≡ origin_in (slice_index_or (map (λ stream. stream.source) streams) s (source.Feed 0))
origin-at [] s = refl
origin-at (stream ∷ streams) zero = refl
origin-at (stream ∷ streams) (suc s) = origin-at streams s

pub by-origin : (parts : FileParts) (Q : Origin → Type 0) → ((f : ℕ) → f < length parts.feeds → Q (feed f)) →
    ((u p : ℕ) → u < length (units_of parts) → p < length (outputs_in (units_of parts) u) → Q (port u p)) →
    (s : ℕ) → s < length (streams_of parts) → Q (origin_of (plant_of parts) s)
unfolding plant_of
by-origin parts Q fed shows s l =
    subst Q (sym (origin-at (streams_of parts) s)) (by-source parts (λ n from. Q (origin_in from)) fed shows s l)

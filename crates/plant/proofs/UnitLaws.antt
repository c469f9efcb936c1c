-- Each unit that passes the checks is sound.
use Rattle.std.proofs.Common.{◌≡◌, ℕ, Ok, List, suc, ◌∷◌, arith, zero, ◌+◌, ◌<◌, false, [], ◌++◌, length, map}
use Rattle.std.proofs.Common.{slice_index_or, refl, ◌∙◌, slice_index, ap, Bool, subst}
use Rattle.std.specs.Prelude.{flat_map}
use Rattle.std.specs.List.{AllByRecursion, range_with_len}
use Rattle.std.proofs.lemmas.List.{length-append}
use Rattle.std.proofs.lemmas.List.FromFn.{length-range_with_len, get_or-range_with_len}
use Rattle.quant.specs.Interval.{AllInside}
use Rattle.quant.specs.declared.limits.Limits.{Limits}
use Rattle.quant.specs.Limits.{AreLimits}
use Rattle.parts.specs.Parts.{FileParts}
use Rattle.parts.specs.InRange.{IsUnitPart, AreInRange}
use Rattle.parts.specs.declared.units.UnitPart.{UnitPart}
use Rattle.plant_streams.specs.Streams.{streams_of, Port, port_streams, ports_of, unit_streams, references_of}
use Rattle.plant_streams.specs.declared.streams.Stream.{Stream}
use Rattle.plant_streams.specs.Limits.{limits_in, unit_limits, source_at, channel_limits, source_limits, limits_at}
use Rattle.plant_streams.specs.declared.streams.StreamSource.TheVariants as source
use Rattle.plant_checks.specs.Checks.{source_check, port_check, own_limits_check, opening_check, column_check, each}
use Rattle.plant_checks.proofs.Passed.{passes-both, ArePassed}
use Rattle.plant_units.specs.Units.{output_limits_of, unit_from, gives_of, inputs_of, units_from}
use Rattle.plant_units.specs.Units.{units_of}
use Rattle.plant_streams.proofs.Counts.{length-port_streams}
use Rattle.plant.proofs.Numbers.{AreRest, at-placed, below-placed, AreFound, found-each, numbers-there, rest-next}
use Rattle.plant.proofs.Numbers.{rest-all}
use Rattle.plant_units.proofs.Making.{is_made}
use Rattle.plant.proofs.Sources.{port-at, unit-gives}
use Rattle.plant.specs.Sound.{IsOutput, IsSoundUnit, AreSoundFrom}
use Rattle.plant.proofs.Takes.{limits-at, HaveLimits, made-takes}
use Rattle.plant.proofs.OwnLimits.{plant-limits, own-limits, stream-limits}
use Rattle.plant.proofs.Starts.{made-starts, made-bands, made-sound}

-- a unit in its ranges passes the checks
record IsPassed (parts : FileParts) (u : ℕ) (unit : UnitPart) : Type 0 where
  range : IsUnitPart unit
  sources : source_check (streams_of parts) u unit ≡ Ok tt
  ports : port_check (streams_of parts) u unit ≡ Ok tt
  own_limits : own_limits_check u unit ≡ Ok tt
  opening : opening_check parts.limits u unit ≡ Ok tt
  column : column_check parts u unit ≡ Ok tt

-- so do those from number u on
record AreRestPassed (parts : FileParts) (u : ℕ) (rest : List UnitPart) : Type 0 where
  ranges : AllByRecursion IsUnitPart rest
  sources : each (source_check (streams_of parts)) u rest ≡ Ok tt
  ports : each (port_check (streams_of parts)) u rest ≡ Ok tt
  own_limits : each own_limits_check u rest ≡ Ok tt
  openings : each (opening_check parts.limits) u rest ≡ Ok tt
  columns : each (column_check parts) u rest ≡ Ok tt

passed-next : (parts : FileParts) (u : ℕ) (unit : UnitPart) (rest : List UnitPart) →
    AreRestPassed parts u (unit ∷ rest) →
    IsPassed parts u unit × AreRestPassed parts (suc u) rest
passed-next parts u unit rest passed =
    let streams : List Stream = streams_of parts in
    let a = passes-both (source_check streams u unit) (each (source_check streams) (suc u) rest) passed.sources in
    let b = passes-both (port_check streams u unit) (each (port_check streams) (suc u) rest) passed.ports in
    let c = passes-both (own_limits_check u unit) (each own_limits_check (suc u) rest) passed.own_limits in
    let d = passes-both (opening_check parts.limits u unit) (each (opening_check parts.limits) (suc u) rest)
    passed.openings in
    let e = passes-both (column_check parts u unit) (each (column_check parts) (suc u) rest) passed.columns in (
      record { range = passed.ranges.0; sources = a.0; ports = b.0; own_limits = c.0; opening = d.0; column = e.0 },
      record { ranges = passed.ranges.1; sources = a.1; ports = b.1; own_limits = c.1; openings = d.1; columns = e.1 },
    )

-- the limits of a unit among the units
rest-limits : (parts : FileParts) (u first : ℕ) (unit : UnitPart) (rest : List UnitPart) →
    AreRest parts u first (unit ∷ rest) →
    unit_limits parts u ≡ limits_in parts.limits unit.limits
rest-limits parts u first unit rest left =
    at-placed (λ (x : UnitPart). limits_in parts.limits x.limits) parts.units left.earlier (unit ∷ rest) u
    0 u parts.limits
    left.units left.counted (omega arith)

-- whether a port's stream is a signal
port-signal : (name : List ℕ) (u p k : ℕ) (ports : List Port) (rest : List Stream) → k < length ports →
    slice_index_or (map (λ stream. stream.signal) (port_streams name u p ports ++ rest)) k false
    ≡ slice_index_or (map (λ port. port.signal) ports) k false
port-signal name u p k [] rest l = absurd (omega arith)
port-signal name u p zero (port ∷ ports) rest l = refl
port-signal name u p (suc k) (port ∷ ports) rest l = port-signal name u (suc p) k ports rest (omega arith)

-- the stream of a unit's port: it is there, and comes from this port
output-placed : (parts : FileParts) (u first p : ℕ) (unit : UnitPart) (rest : List UnitPart) →
    AreRest parts u first (unit ∷ rest) →
    p < length (ports_of unit.kind) →
    (first + p < length (streams_of parts)) × (source_at parts (first + p) ≡ source.Port u p)
    × (slice_index_or (map (λ stream. stream.signal) (streams_of parts)) (first + p) false
    ≡ slice_index_or (map (λ port. port.signal) (ports_of unit.kind)) p false)
output-placed parts u first p unit rest left l =
    let own : List Stream = port_streams unit.name u 0 (ports_of unit.kind) in
    let others : List Stream = unit_streams (suc u) rest in
    let counted = length-port_streams unit.name u 0 (ports_of unit.kind) in
    let all = length-append own others in (
      below-placed (streams_of parts) left.before (own ++ others) first p (first + p) left.streams left.placed
          refl (omega arith),
      at-placed (λ (stream : Stream). stream.source) (streams_of parts) left.before (own ++ others) first p (first + p)
          (source.Feed 0)
          left.streams left.placed refl ∙ port-at unit.name u 0 p p (ports_of unit.kind) others (source.Feed 0)
          l (omega arith),
      at-placed (λ (stream : Stream). stream.signal) (streams_of parts) left.before (own ++ others) first p
          (first + p) false
          left.streams left.placed refl ∙ port-signal unit.name u 0 p (ports_of unit.kind) others l,
    )

-- the limits of each kind's outputs are those of its ports
port-limits : (limits : Limits) (p : ℕ) (ports : List Port) → p < length ports →
    channel_limits limits (slice_index_or (map (λ port. port.signal) ports) p false)
    ≡ slice_index_or (map (λ port. channel_limits limits port.signal) ports) p []
port-limits limits p [] l = absurd (omega arith)
port-limits limits zero (port ∷ ports) l = refl
port-limits limits (suc p) (port ∷ ports) l = port-limits limits p ports (omega arith)

-- the number of an output
output-number : (parts : FileParts) (first p : ℕ) (unit : UnitPart) →
    p < length (gives_of (unit_from parts first unit)) →
    (p < length (ports_of unit.kind)) × (slice_index (gives_of (unit_from parts first unit)) p ≡ first + p)
output-number parts first p unit l =
    let n : ℕ = length (ports_of unit.kind) in
    let e = unit-gives parts first unit in
    let k : p < n = omega (arith, ap length e, length-range_with_len first n) in
    (k, ap (λ xs. slice_index xs p) e ∙ get_or-range_with_len first n p 0 k)

gives-sound : (parts : FileParts) (u first p : ℕ) (unit : UnitPart) (rest : List UnitPart) →
    AreRest parts u first (unit ∷ rest) →
    p < length (gives_of (unit_from parts first unit)) →
    IsOutput parts u p (slice_index (gives_of (unit_from parts first unit)) p)
gives-sound parts u first p unit rest left l =
    let n = output-number parts first p unit l in
    let o = output-placed parts u first p unit rest left n.0 in
    rw n.1 (o.0, o.1)

limits-sound : (parts : FileParts) (u first p : ℕ) (unit : UnitPart) (rest : List UnitPart) →
    AreRest parts u first (unit ∷ rest) →
    p < length (gives_of (unit_from parts first unit)) →
    limits_at parts (slice_index (gives_of (unit_from parts first unit)) p)
    ≡ slice_index_or (output_limits_of (unit_from parts first unit)) p []
unfolding unit_from
limits-sound parts u first p unit rest left l =
    let n = output-number parts first p unit l in
    let o = output-placed parts u first p unit rest left n.0 in
    let own : Limits = limits_in parts.limits unit.limits in
    let signal : Bool =
    slice_index_or (map (λ (stream : Stream). stream.signal) (streams_of parts)) (first + p) false in
    ap (limits_at parts) n.1 ∙ limits-at parts (first + p) o.0
    ∙ ap (λ from. channel_limits (source_limits parts from) signal) o.1
    ∙ ap (λ limits. channel_limits limits signal) (rest-limits parts u first unit rest left)
    ∙ ap (channel_limits own) o.2
    ∙ port-limits own p (ports_of unit.kind) n.0
    ∙ ap (λ limits. slice_index_or limits p []) (is_made unit.name own _ _ unit.kind).limited

-- a unit that passes is sound
unit-sound : (parts : FileParts) (u first : ℕ) (unit : UnitPart) (rest : List UnitPart) → AreInRange parts →
    ArePassed parts →
    IsPassed parts u unit → AreRest parts u first (unit ∷ rest) → IsSoundUnit parts u (unit_from parts first unit)
unfolding unit_from source_check port_check opening_check column_check
unit-sound parts u first unit rest ranges all passed left =
    let own : Limits = limits_in parts.limits unit.limits in
    let ins : List ℕ = inputs_of (streams_of parts) unit.kind in
    let outs : List ℕ = range_with_len first (length (ports_of unit.kind)) in
    let found : AreFound (streams_of parts) (references_of unit.kind)
    = found-each (streams_of parts) u 0 (references_of unit.kind) passed.sources passed.ports in
    let haves : HaveLimits parts = λ s. stream-limits parts (source_at parts s) ranges all in
    let limits : AreLimits own
    = own-limits parts.limits u unit (plant-limits parts.limits ranges.limits all.limits) passed.range.limits
    passed.own_limits in
    let made = is_made unit.name own ins outs unit.kind in
    let read = made.reads in
    record {
      sound = made-sound unit.name own ins outs unit.kind passed.range.kind limits;
      reads = rw read (numbers-there (streams_of parts) (references_of unit.kind) found);
      takes = λ row inside.
          made-takes parts unit.name own outs unit.kind passed.range.kind found haves passed.column row
          (subst (λ (ns : List ℕ). AllInside row (flat_map (limits_at parts) ns)) read inside);
      counted = ap length (unit-gives parts first unit) ∙ length-range_with_len first (length (ports_of unit.kind))
          ∙ made.viewed;
      gives = λ p l. gives-sound parts u first p unit rest left l;
      limits = λ p l. limits-sound parts u first p unit rest left l;
      starts = made-starts u unit.name own ins outs unit.kind passed.opening;
      bands = made-bands unit.name own ins outs unit.kind passed.range.kind;
    }

-- so are the units from number u on
rest-sound : (parts : FileParts) (u first : ℕ) (rest : List UnitPart) → AreInRange parts → ArePassed parts →
    AreRestPassed parts u rest →
    AreRest parts u first rest → AreSoundFrom parts u (units_from parts first rest)
rest-sound parts u first [] ranges all passed left = tt
rest-sound parts u first (unit ∷ rest) ranges all passed left =
    let both = passed-next parts u unit rest passed in (
      unit-sound parts u first unit rest ranges all both.0 left,
      rest-sound parts (suc u) (first + length (ports_of unit.kind)) rest ranges all both.1
          (rest-next parts u first unit rest left),
    )

-- so are all
pub units-sound : (parts : FileParts) → AreInRange parts → ArePassed parts → AreSoundFrom parts 0 (units_of parts)
unfolding units_of
units-sound parts ranges passed =
    rest-sound parts 0 (length parts.feeds) parts.units ranges passed
    (record {
      ranges = ranges.units.2;
      sources = passed.sources;
      ports = passed.ports;
      own_limits = passed.own_limits;
      openings = passed.openings;
      columns = passed.columns;
    })
    (rest-all parts)

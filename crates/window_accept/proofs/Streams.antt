-- A stream of a plant: whether it is a signal, and how wide its channels' bands can be.
use Rattle.std.proofs.Common.{◌≡◌, ◌∙◌, ℕ, zero, suc, ◌+◌, ◌-◌, ◌<◌, pos, Bool, true, false, List, [], ◌∷◌, length, get_or}
use Rattle.std.proofs.Common.{refl, sym, ap, subst, arith, Option}
use Rattle.std.specs.Prelude.{slice_index_or}
use Rattle.std.proofs.lemmas.Int.{ints}
use Rattle.std.proofs.lemmas.List.{get_or_default}
use Rattle.quant.specs.Interval.{Interval, AllInside, IsInside, point, wide}
use Rattle.quant.specs.Limits.{AreLimits, wide_from}
use Rattle.quant.specs.declared.limits.Limits.{Limits}
use Rattle.quant.proofs.Calls.{inside-trans}
use Rattle.parts.specs.Parts.{FileParts}
use Rattle.parts.specs.declared.parts.Widths.{Widths}
use Rattle.plant_streams.specs.declared.streams.Stream.{Stream}
use Rattle.plant_streams.specs.declared.streams.StreamSource.TheVariants as source
use Rattle.plant_streams.specs.Streams.{streams_of}
use Rattle.plant_streams.specs.Limits.{source_limits, channel_limits, stream_limits, limits_at}
use Rattle.plant.specs.Sound.{IsPlant}
use Rattle.plant.proofs.Lookups.{at-map}
use Rattle.plant.proofs.PlantLaws.{plant-sound}
use Rattle.relaxation.specs.Tube.{Tube, at}
use Rattle.relax_core.specs.Settled.{WindowOf, bands_in}
use Rattle.window_accept.specs.Wide.{asked_of, is_signal}
use Rattle.window_accept.specs.declared.channels.WideChannel.{WideChannel}
use Rattle.window_accept.specs.Searching.{AreWide, IsInLimits, FindsChannel}

pub signal-is : (parts : FileParts) (streams : List Stream) (s : ℕ) (d : Stream) → s < length (streams_of parts) →
    streams ≡ streams_of parts → (get_or streams s d).signal ≡ is_signal parts s
signal-is parts streams s d l e = ap (λ (list : List Stream). (get_or list s d).signal) e
    ∙ sym (at-map (λ (stream : Stream). stream.signal) (streams_of parts) s d false l)

-- and of one that was read from them
pub signal-of : (parts : FileParts) (streams : List Stream) (s : ℕ) (x : Stream) → x ≡ get_or streams s x →
    s < length (streams_of parts) → streams ≡ streams_of parts → x.signal ≡ is_signal parts s
signal-of parts streams s x read l e = ap (λ (y : Stream). y.signal) read ∙ signal-is parts streams s x l e

-- what is found by the widths of a plant is found by those of its parts
pub asked-by : (found : Option WideChannel) (held parts : FileParts) (signal : Bool) (row : List Interval) → held ≡ parts →
    FindsChannel found (asked_of held.width signal) row → FindsChannel found (asked_of parts.width signal) row
asked-by found held parts signal row e h =
    subst (λ (p : FileParts). FindsChannel found (asked_of p.width signal) row) e h

-- as many widths can be asked for as there are limits
both-counted : (limits : Limits) (widths : Widths) (signal : Bool) →
    length (channel_limits limits signal) ≡ length (asked_of widths signal)
both-counted limits widths true = refl
both-counted limits widths false = refl

limits-are : (parts : FileParts) (s : ℕ) (d : Stream) → s < length (streams_of parts) →
    limits_at parts s ≡ stream_limits parts (get_or (streams_of parts) s d)
limits-are parts s d l = at-map (stream_limits parts) (streams_of parts) s d [] l

pub limits-counted : (parts : FileParts) (widths : Widths) (streams : List Stream) (s : ℕ) (d : Stream) →
    s < length (streams_of parts) → streams ≡ streams_of parts →
    length (limits_at parts s) ≡ length (asked_of widths (get_or streams s d).signal)
limits-counted parts widths streams s d l e = ap length (limits-are parts s d l)
    ∙ (both-counted (source_limits parts (get_or (streams_of parts) s d).source) widths (get_or (streams_of parts) s d).signal
    ∙ ap (λ (list : List Stream). length (asked_of widths (get_or list s d).signal)) (sym e))

-- limits are wide numbers
from-none : (limit : Interval) → IsInside limit (wide_from (pos 0)) → IsInside limit wide
from-none limit h = record { above = omega (arith, ints, h.above); below = h.below }

channels-wide : (limits : Limits) (signal : Bool) (c : ℕ) → AreLimits limits → c < length (channel_limits limits signal) →
    IsInside (slice_index_or (channel_limits limits signal) c (point (pos 0))) wide
channels-wide limits true zero are h = are.signal.1
channels-wide limits true (suc c) are h = absurd (omega arith)
channels-wide limits false zero are h = from-none limits.flow are.flow.1
channels-wide limits false (suc zero) are h = are.conc.1
channels-wide limits false (suc (suc zero)) are h = are.temp.1
channels-wide limits false (suc (suc (suc c))) are h = absurd (omega arith)

stream-wide : (parts : FileParts) (s : ℕ) (d : Stream) → IsPlant parts → s < length (streams_of parts) →
    (c : ℕ) → c < length (limits_at parts s) → IsInside (slice_index_or (limits_at parts s) c (point (pos 0))) wide
stream-wide parts s d plant l c h =
    let stream : Stream = get_or (streams_of parts) s d in
    let is : limits_at parts s ≡ stream_limits parts stream = limits-are parts s d l in
    let are : AreLimits (source_limits parts stream.source) = subst (λ src. AreLimits (source_limits parts src))
    (at-map (λ (x : Stream). x.source) (streams_of parts) s d (source.Feed 0) l) ((plant-sound parts plant).limits s l) in
    let there : c < length (stream_limits parts stream) = subst (λ (bands : List Interval). c < length bands) is h in
    subst (λ (bands : List Interval). IsInside (slice_index_or bands c (point (pos 0))) wide) (sym is)
    (channels-wide (source_limits parts stream.source) stream.signal c are there)

-- and so are bands inside them
inside-at : (bands limits : List Interval) (c : ℕ) (d : Interval) → AllInside bands limits → c < length bands →
    IsInside (get_or bands c d) (get_or limits c d) × (c < length limits)
inside-at [] limits c d h l = absurd (omega arith)
inside-at (A ∷ As) [] c d h l = absurd h
inside-at (A ∷ As) (B ∷ Bs) zero d h l = (h.0, omega arith)
inside-at (A ∷ As) (B ∷ Bs) (suc c) d h l =
    let rest = inside-at As Bs c d h.1 (omega arith) in (rest.0, omega (arith, rest.1))

pub row-wide : (parts : FileParts) (s : ℕ) (d : Stream) (row : List Interval) → IsPlant parts → s < length (streams_of parts) →
    AllInside row (limits_at parts s) → AreWide row
row-wide parts s d row plant l inside c h =
    let at = inside-at row (limits_at parts s) c (point (pos 0)) inside h in
    inside-trans _ _ wide at.0 (stream-wide parts s d plant l c at.1)

-- the row of a stream at a tick of a window, counted from its first
module _ (parts : FileParts) (window : WindowOf) (tubes : List Tube) (tick s : ℕ) (tube : Tube) (row : List Interval)
    (limited : IsInLimits parts window) (there : s < length (streams_of parts)) (ticked : tick < window.ticks)
    (same : tubes ≡ window.tubes) (tube_is : tube ≡ get_or tubes s tube) (row_is : row ≡ at tube tick) where
  row-at : row ≡ at (slice_index_or window.tubes s []) tick
  row-at = row_is ∙ ap (λ (x : Tube). at x tick) (tube_is ∙ (ap (λ (xs : List Tube). get_or xs s tube) same
      ∙ get_or_default window.tubes s tube [] (omega (arith, limited.window_is.streams))))

  pub row-in : row ≡ bands_in window (window.first + tick) s
  row-in = row-at ∙ ap (at (slice_index_or window.tubes s []))
      (let e : tick ≡ (window.first + tick) - window.first = omega arith in e)

  pub row-counted : length row ≡ length (limits_at parts s)
  row-counted = ap length row-at ∙ limited.window_is.channels s tick there ticked

  pub row-inside : AllInside row (limits_at parts s)
  row-inside = subst (λ (bands : List Interval). AllInside bands (limits_at parts s)) (sym row-at)
      (limited.limits tick s ticked there)

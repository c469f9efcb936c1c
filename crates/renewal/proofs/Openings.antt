-- The tubes that streams open with lie in the limits of their channels, and so do the tubes inside them.
use Rattle.std.proofs.Common.{◌≡◌, ◌∙◌, ℕ, zero, suc, ◌<◌, List, [], ◌∷◌, length, map, replicate, get_or, sym}
use Rattle.std.proofs.Common.{subst, ap, arith}
use Rattle.std.specs.Prelude.{flat_map, slice_index, slice_set}
use Rattle.std.specs.List.{AllByRecursion}
use Rattle.std.proofs.lemmas.List.{length-replicate}
use Rattle.quant.specs.Interval.{Interval, AllInside}
use Rattle.flowsheet.proofs.Bands.{inside-itself, inside-wider}
use Rattle.relaxation.specs.Tube.{Tube, IsWithin, at}
use Rattle.relaxation.proofs.Meets.{within-itself}
use Rattle.relaxation.specs.Window.{row_of}
use Rattle.relaxation.proofs.Ticks.{within-at, within-length}
use Rattle.plant_streams.specs.declared.streams.Stream.{Stream}
use Rattle.plant_streams.specs.declared.streams.StreamSource.{StreamSource}
use Rattle.plant_streams.specs.declared.streams.StreamSource.TheVariants as source
use Rattle.plant_streams.specs.Streams.{streams_of}
use Rattle.plant_streams.specs.Limits.{source_at, stream_limits, limits_at}
use Rattle.parts.specs.Parts.{FileParts}
use Rattle.plant.specs.Sound.{IsOutput, IsSource}
use Rattle.plant.proofs.Lookups.{from, from_feed, from_port, origin-is, at-map, item-there}
use Rattle.plant.proofs.PlantLaws.{plant-sound, port-limits}
use Rattle.plant.proofs.Takes.{inside-append}
use Rattle.renewal.specs.Plan.{PlanOf, IsPlan, window_of, fed_by, opening_from}
use Rattle.renewal.specs.Room.{AreOpened}
use Rattle.renewal.proofs.Windows.{replicated}

-- a stream that stands at a place: its source, its limits, and its feed
pub found-source : (parts : FileParts) (s : ℕ) (stream : Stream) (streams : List Stream) (src : StreamSource) →
    s < length (streams_of parts) → stream ≡ get_or streams s stream → streams ≡ streams_of parts →
    stream.source ≡ src →
    source_at parts s ≡ src
found-source parts s stream streams src l e k d =
    at-map (λ (v : Stream). v.source) (streams_of parts) s stream (source.Feed 0) l
    ∙ ap (λ (v : Stream). v.source) (sym (item-there s stream streams (streams_of parts) e k)) ∙ d

pub found-limits : (parts : FileParts) (s : ℕ) (stream : Stream) (streams : List Stream) →
    s < length (streams_of parts) → stream ≡ get_or streams s stream → streams ≡ streams_of parts →
    stream_limits parts stream ≡ limits_at parts s
found-limits parts s stream streams l e k =
    ap (stream_limits parts) (item-there s stream streams (streams_of parts) e k)
    ∙ sym (at-map (stream_limits parts) (streams_of parts) s stream [] l)

pub feed-below : (plan : PlanOf) (s f : ℕ) → IsPlan plan → s < length (streams_of plan.parts) →
    source_at plan.parts s ≡ source.Feed f → f < length plan.parts.feeds
feed-below plan s f h l e = (subst (IsSource plan.parts s) e ((plant-sound plan.parts h.plant).sources s l)).1

-- the tube of a feed's stream, and of a unit's output
pub opening-feed : (plan : PlanOf) (s f : ℕ) → source_at plan.parts s ≡ source.Feed f →
    (window_of plan).opening s ≡ fed_by plan f
opening-feed plan s f e = ap (opening_from plan) (origin-is plan.parts s (source.Feed f) e)

pub opening-port : (plan : PlanOf) (u p s : ℕ) → IsPlan plan → IsOutput plan.parts u p s →
    (window_of plan).opening s ≡ replicate plan.ticks (limits_at plan.parts s)
opening-port plan u p s h out =
    ap (opening_from plan) (origin-is plan.parts s (source.Port u p) out.1)
    ∙ ap (replicate plan.ticks) (port-limits plan.parts u p s h.plant out)

module _ (plan : PlanOf) (h : IsPlan plan) where
  -- it lies in the limits of the stream's channels, and has a row for each tick
  pub opening-limited : (s t : ℕ) → s < length (streams_of plan.parts) → t < plan.ticks →
      AllInside (at ((window_of plan).opening s) t) (limits_at plan.parts s)
  opening-limited s t l m = elim (from plan.parts s (plant-sound plan.parts h.plant) l) [
    | from_feed f e k ↦
        subst (λ (tube : Tube). AllInside (at tube t) (limits_at plan.parts s)) (sym (opening-feed plan s f e))
        (subst (λ (r : ℕ). AllInside (at (fed_by plan f) t) (limits_at plan.parts r)) k.0 (h.fed f t k.1 m).inside)
    | from_port u p e k ↦
        subst (λ (tube : Tube). AllInside (at tube t) (limits_at plan.parts s)) (sym (opening-port plan u p s h (l, e)))
        (subst (λ (row : List Interval). AllInside row (limits_at plan.parts s))
        (sym (replicated (limits_at plan.parts s) plan.ticks t m)) (inside-itself (limits_at plan.parts s)))
  ]

  opening-counted : (s : ℕ) → s < length (streams_of plan.parts) → length ((window_of plan).opening s) ≡ plan.ticks
  opening-counted s l = elim (from plan.parts s (plant-sound plan.parts h.plant) l) [
    | from_feed f e k ↦ ap length (opening-feed plan s f e) ∙ h.ticked f k.1
    | from_port u p e k ↦ ap length (opening-port plan u p s h (l, e))
        ∙ length-replicate plan.ticks (limits_at plan.parts s)
  ]

  -- so it is for tubes inside those that their streams open with
  pub opened-ticked : (t : ℕ) (streams : List ℕ) (tubes : List Tube) → t < plan.ticks → AreOpened plan streams tubes →
      AllByRecursion (λ s. s < length (streams_of plan.parts)) streams → AllByRecursion (λ tube. t < length tube) tubes
  opened-ticked t [] [] m o there = tt
  opened-ticked t [] (tube ∷ tubes) m o there = absurd o
  opened-ticked t (s ∷ streams) [] m o there = absurd o
  opened-ticked t (s ∷ streams) (tube ∷ tubes) m o there = (
    subst (λ (n : ℕ). t < n) (sym (within-length tube _ o.0 ∙ opening-counted s there.0)) m,
    opened-ticked t streams tubes m o.1 there.1,
  )

  pub opened-inside : (t : ℕ) (streams : List ℕ) (tubes : List Tube) → t < plan.ticks → AreOpened plan streams tubes →
      AllByRecursion (λ s. s < length (streams_of plan.parts)) streams →
      AllInside (row_of tubes t) (flat_map (limits_at plan.parts) streams)
  opened-inside t [] [] m o there = tt
  opened-inside t [] (tube ∷ tubes) m o there = absurd o
  opened-inside t (s ∷ streams) [] m o there = absurd o
  opened-inside t (s ∷ streams) (tube ∷ tubes) m o there =
      inside-append (at tube t) (row_of tubes t) (limits_at plan.parts s) (flat_map (limits_at plan.parts) streams)
      (inside-wider (at tube t) (at ((window_of plan).opening s) t) (limits_at plan.parts s) (within-at tube _ t o.0)
      (opening-limited s t there.0 m))
      (opened-inside t streams tubes m o.1 there.1)

-- the tubes that streams open with lie inside themselves, and tubes inside them may take their places
pub opening-opened : (plan : PlanOf) (streams : List ℕ) → AreOpened plan streams (map (window_of plan).opening streams)
opening-opened plan [] = tt
opening-opened plan (s ∷ streams) = (within-itself ((window_of plan).opening s), opening-opened plan streams)

pub set-opened : (plan : PlanOf) (streams : List ℕ) (tubes : List Tube) (p : ℕ) (tube : Tube) →
    AreOpened plan streams tubes →
    p < length streams → IsWithin tube ((window_of plan).opening (slice_index streams p)) →
    AreOpened plan streams (slice_set tubes p tube)
set-opened plan [] tubes p tube o l h = absurd (omega arith)
set-opened plan (s ∷ streams) [] p tube o l h = absurd o
set-opened plan (s ∷ streams) (other ∷ tubes) zero tube o l h = (h, o.1)
set-opened plan (s ∷ streams) (other ∷ tubes) (suc p) tube o l h =
    (o.0, set-opened plan streams tubes p tube o.1 (omega arith) h)

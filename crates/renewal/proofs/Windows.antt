-- The window of a plan can be relaxed.
use Rattle.std.proofs.Common.{◌≡◌, ℕ, zero, suc, ◌<◌, List, [], length, slice_index_or, replicate, refl, sym, subst}
use Rattle.std.proofs.Common.{ap, ◌∙◌, arith}
use Rattle.std.proofs.lemmas.List.{length-replicate}
use Rattle.quant.specs.Interval.{Interval, AllInside}
use Rattle.flowsheet.specs.Plant as sheet
use Rattle.flowsheet.specs.Reading.{on_bands}
use Rattle.flowsheet.specs.Run.{run_streams}
use Rattle.flowsheet.specs.Limited.{AreBands, IsLimited}
use Rattle.flowsheet.proofs.Bands.{inside-itself}
use Rattle.flowsheet.proofs.Stages.{run-fed}
use Rattle.flowsheet.proofs.Limits.{stream-limited}
use Rattle.relaxation.specs.Tube.{Tube, IsWithin, at, tube_of}
use Rattle.relaxation.specs.Window.{IsOpen, run_tube}
use Rattle.relaxation.proofs.Meets.{within-both}
use Rattle.relaxation.proofs.Ticks.{at-tube_of, length-tube_of, within-each}
use Rattle.plant_streams.specs.declared.streams.StreamSource.TheVariants as source
use Rattle.plant_streams.specs.Streams.{streams_of}
use Rattle.plant_units.specs.Units.{units_of}
use Rattle.plant.specs.PlantOf.{plant_of}
use Rattle.plant.proofs.Lookups.{from, from_feed, from_port, origin-is, units-counted, streams-counted}
use Rattle.plant.proofs.PlantLaws.{plant-sound, parts-ranked, parts-limited}
use Rattle.renewal.specs.Plan.{PlanOf, IsPlan, window_of, carried_into, fed_by, opening_from}

-- a tube is what it has at its ticks
pub tube-at : (tube : Tube) (n : ℕ) → length tube ≡ n → tube_of (at tube) n ≡ tube
tube-at tube n e = within-both _ _
    (within-each _ tube (length-tube_of (at tube) n ∙ sym e)
    (λ t l. subst (λ row. AllInside row (at tube t))
    (sym (at-tube_of (at tube) n t (subst (λ k. t < k) (length-tube_of (at tube) n) l)))
    (inside-itself (at tube t))))
    (within-each tube _ (e ∙ sym (length-tube_of (at tube) n))
    (λ t l. subst (AllInside (at tube t)) (sym (at-tube_of (at tube) n t (subst (λ k. t < k) e l)))
    (inside-itself (at tube t))))

-- the same bands at each tick
pub replicated : (bands : List Interval) (n t : ℕ) → t < n → at (replicate n bands) t ≡ bands
replicated bands zero t h = absurd (omega arith)
replicated bands (suc n) zero h = refl
replicated bands (suc n) (suc t) h = replicated bands n t (omega arith)

-- the feed of an origin
abbrev feed-of : sheet.Origin → ℕ → ℕ
feed-of (sheet.feed f) e = f
feed-of (sheet.port u p) e = e

module _ (plan : PlanOf) (h : IsPlan plan) where
  unit-there : (u : ℕ) → u < length (plant_of plan.parts).units → u < length (units_of plan.parts)
  unit-there u l = subst (λ n. u < n) (units-counted plan.parts) l

  stream-there : (s : ℕ) → s < length (plant_of plan.parts).streams → s < length (streams_of plan.parts)
  stream-there s l = subst (λ n. s < n) (streams-counted plan.parts) l

  pub limited : IsLimited (plant_of plan.parts) (carried_into plan)
  limited = record {
    keeps = (parts-limited plan.parts h.plant).keeps;
    starts = λ u l. (h.carried u (unit-there u l)).inside;
  }

  -- a stream that comes from a feed comes from one that is there
  pub feed-there : (s f : ℕ) → s < length (plant_of plan.parts).streams →
      sheet.origin_of (plant_of plan.parts) s ≡ sheet.feed f →
      f < length plan.parts.feeds
  feed-there s f l o = elim (from plan.parts s (plant-sound plan.parts h.plant) (stream-there s l)) [
    | from_feed g e k ↦
        subst (λ n. n < length plan.parts.feeds)
        (ap (λ origin. feed-of origin 0) (sym (origin-is plan.parts s (source.Feed g) e) ∙ o)) k.1
    | from_port u p e k ↦
        (let clash : sheet.port u p ≡ sheet.feed f = sym (origin-is plan.parts s (source.Port u p) e) ∙ o in cc)
  ]

  pub bands : AreBands (plant_of plan.parts) (carried_into plan) (λ t f. at (fed_by plan f) t) plan.ticks
  bands = record {
    states = λ u l. (h.carried u (unit-there u l)).numbers;
    fed = λ t s f m l o. (h.fed f t (feed-there s f l o) m).numbers;
  }

  -- the tube of a feed's stream
  pub fed-tube : (s f : ℕ) → s < length (plant_of plan.parts).streams →
      sheet.origin_of (plant_of plan.parts) s ≡ sheet.feed f →
      opening_from plan (sheet.origin_of (plant_of plan.parts) s) ≡ tube_of (λ t. at (fed_by plan f) t) plan.ticks
  fed-tube s f l o = ap (opening_from plan) o
      ∙ sym (tube-at (fed_by plan f) plan.ticks (h.ticked f (feed-there s f l o)))

  run-at : (s t : ℕ) → t < plan.ticks → at (run_tube (window_of plan) s) t
      ≡ run_streams (on_bands (plant_of plan.parts)) (plant_of plan.parts) (carried_into plan)
      (λ q f. at (fed_by plan f) q) t s
  run-at s t m = at-tube_of _ plan.ticks t m

  holds-from : (s : ℕ) (origin : sheet.Origin) → s < length (plant_of plan.parts).streams →
      sheet.origin_of (plant_of plan.parts) s ≡ origin →
      IsWithin (run_tube (window_of plan) s) (opening_from plan origin)
  holds-from s (sheet.feed f) l o = within-each _ _
      (length-tube_of _ plan.ticks ∙ sym (h.ticked f (feed-there s f l o)))
      (λ t m. (let n : t < plan.ticks = subst (λ k. t < k) (length-tube_of _ plan.ticks) m in
      subst (λ row. AllInside row (at (fed_by plan f) t))
      (sym (run-at s t n ∙ run-fed (on_bands (plant_of plan.parts)) (plant_of plan.parts) (carried_into plan)
      (λ q g. at (fed_by plan g) q) t s f o))
      (inside-itself (at (fed_by plan f) t))))
  holds-from s (sheet.port u p) l o = within-each _ _
      (length-tube_of _ plan.ticks ∙ sym (length-replicate plan.ticks _))
      (λ t m. (let n : t < plan.ticks = subst (λ k. t < k) (length-tube_of _ plan.ticks) m in
      let limits = slice_index_or (sheet.unit_at (plant_of plan.parts) u).output_limits p [] in
      subst (AllInside (at (run_tube (window_of plan) s) t)) (sym (replicated limits plan.ticks t n))
      (subst (λ row. AllInside row limits) (sym (run-at s t n))
      (stream-limited (plant_of plan.parts) (carried_into plan) (λ q g. at (fed_by plan g) q) plan.ticks
      (parts-ranked plan.parts h.plant) bands limited t s u p n l o))))

  pub is-open : IsOpen (window_of plan)
  is-open = record {
    ranked = parts-ranked plan.parts h.plant;
    bands = bands;
    holds = λ s l. holds-from s (sheet.origin_of (plant_of plan.parts) s) l refl;
    fed = λ s f l o. fed-tube s f l o;
  }

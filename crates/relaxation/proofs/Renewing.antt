-- A unit's renewal from rows that are related to other rows.
use Rattle.std.proofs.Common.{◌≡◌, ℕ, zero, suc, ◌<◌, List, true, false, refl, sym, ◌∙◌, arith}
use Rattle.quant.specs.Interval.{Interval, AllBands, AllInside}
use Rattle.flowsheet.specs.Plant.{PlantUnit, unit_at}
use Rattle.flowsheet.specs.Reading.{Reader, on_bands}
use Rattle.flowsheet.specs.Renewal.{renewed_states, renewed}
use Rattle.flowsheet.proofs.Bands.{inside-itself}
use Rattle.flowsheet.proofs.Readings.{IsKept, AreBandsIn, bands-kept, same-kept, shown-kept, stepped-kept}
use Rattle.relaxation.specs.Tube.{Tube, IsWithin}
use Rattle.relaxation.specs.Window.{Window, row_of, renewal}
use Rattle.relaxation.proofs.Ticks.{tube-within}

module _ {read other : Reader Interval} {R : List Interval → List Interval → Type 0} (kept : IsKept read other R)
    (unit : PlantUnit) (held given : List Interval) (rows others : ℕ → List Interval) (h : R held given) where
  -- its states
  pub states-related : (t : ℕ) → ((q : ℕ) → q < t → R (rows q) (others q)) →
      R (renewed_states read unit held rows t) (renewed_states other unit given others t)
  states-related zero g = h
  states-related (suc t) g = stepped-kept kept unit _ _ _ _ (states-related t (λ q k. g q (omega arith))) (g t (omega arith))

  -- and its outputs
  pub shown-related : (p t : ℕ) → ((q : ℕ) → q < t → R (rows q) (others q)) → (unit.instant ≡ true → R (rows t) (others t)) →
      R (renewed read unit p held rows t) (renewed other unit p given others t)
  shown-related p t g k = shown-kept kept unit p _ _ _ _ (states-related t g) k

-- tubes that lie in wider ones renew to ones that lie in theirs
pub narrower-renews : (window : Window) (u p : ℕ) (tubes wider : List Tube) → AllBands (window.carried u) →
    ((t : ℕ) → t < window.ticks → AllBands (row_of tubes t)) →
    ((t : ℕ) → t < window.ticks → AllInside (row_of tubes t) (row_of wider t)) →
    IsWithin (renewal window u p tubes) (renewal window u p wider)
narrower-renews window u p tubes wider carried bands inside = tube-within _ _ window.ticks (λ t m.
    (shown-related (bands-kept window.plant.rounding) (unit_at window.plant u) (window.carried u) (window.carried u)
    (row_of tubes) (row_of wider) (record { bands = carried; inside = inside-itself (window.carried u) }) p t
    (λ q k. record { bands = bands q (omega arith); inside = inside q (omega arith) })
    (λ i. record { bands = bands t m; inside = inside t m })).inside)

-- a unit that holds something back shows what comes of the inputs before
pub earlier-renews : (window : Window) (u p t : ℕ) (rows others : ℕ → List Interval) →
    (unit_at window.plant u).instant ≡ false → ((q : ℕ) → q < t → rows q ≡ others q) →
    renewed (on_bands window.plant) (unit_at window.plant u) p (window.carried u) rows t
    ≡ renewed (on_bands window.plant) (unit_at window.plant u) p (window.carried u) others t
earlier-renews window u p t rows others register same =
    shown-related (same-kept (on_bands window.plant)) (unit_at window.plant u) (window.carried u) (window.carried u) rows others
    refl p t same (λ i. (let clash = sym i ∙ register in cc))

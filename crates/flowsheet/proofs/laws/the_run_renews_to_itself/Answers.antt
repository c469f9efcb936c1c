-- A renewal from the run's inputs is the run, and a feed stays.
use Rattle.std.proofs.Common.{ap, ◌∙◌, refl, sym}
use Rattle.flowsheet.specs.Plant.{origin_of}
use Rattle.flowsheet.specs.Reading.{on_bands}
use Rattle.flowsheet.specs.Run.{run_streams}
use Rattle.flowsheet.specs.Renewal.{renewed_origin}
use Rattle.flowsheet.proofs.Ranks.{source, from_feed, from_port}
use Rattle.flowsheet.proofs.Readings.{same-kept}
use Rattle.flowsheet.proofs.Renewals.{states-renewed, stream-renewed}
use Rattle.flowsheet.proofs.laws.the_run_renews_to_itself.Goals as goal

pub returns-clause-states : goal.returns-clause-states
returns-clause-states c plant carried feeds t u =
    sym (states-renewed plant carried feeds u (carried u) _ (same-kept (on_bands plant)) refl t (λ q k. refl))

pub returns-clause-streams : goal.returns-clause-streams
returns-clause-streams c plant carried feeds t s ranked l =
    elim (source (origin_of plant s)) [
      | from_feed f e ↦ ap (renewed_origin (on_bands plant) plant carried (run_streams (on_bands plant) plant carried feeds) t s) e
      | from_port u p e ↦ ap (renewed_origin (on_bands plant) plant carried (run_streams (on_bands plant) plant carried feeds) t s) e ∙
          sym (stream-renewed plant carried feeds u (carried u) _ (same-kept (on_bands plant)) ranked refl t s p l e (λ q k. refl) (λ i. refl))
    ]

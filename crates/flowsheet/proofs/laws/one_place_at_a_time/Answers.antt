-- A renewal from the run's inputs shows what the run does.
use Rattle.std.proofs.Common.{refl, sym}
use Rattle.flowsheet.specs.Reading.{on_bands}
use Rattle.flowsheet.proofs.Readings.{same-kept}
use Rattle.flowsheet.proofs.Renewals.{stream-renewed}
use Rattle.flowsheet.proofs.laws.one_place_at_a_time.Goals as goal

pub returns : goal.returns
returns c plant carried feeds rows t s u p ranked l e before here =
    sym (stream-renewed plant carried feeds u (carried u) rows (same-kept (on_bands plant)) ranked refl t s p l e
    (λ q k. sym (before q k)) (λ i. sym (here i)))

-- A renewal from wider inputs is wider.
use Rattle.std.proofs.Common.{◌<◌, length, arith}
use Rattle.flowsheet.proofs.Ranks.{unit_there}
use Rattle.flowsheet.proofs.Bands.{inside-itself}
use Rattle.flowsheet.proofs.Readings.{bands-kept}
use Rattle.flowsheet.proofs.Runs.{inputs-bands}
use Rattle.flowsheet.proofs.Renewals.{states-renewed, stream-renewed}
use Rattle.flowsheet.proofs.laws.renewals_hold_the_run.Goals as goal

pub returns-clause-states : goal.returns-clause-states
returns-clause-states c plant carried feeds u n rows ranked bands l inputs t m =
    (states-renewed plant carried feeds u (carried u) rows (bands-kept plant.rounding)
    (record { bands = bands.states u l; inside = inside-itself (carried u) }) t
    (λ q k. record { bands = inputs-bands plant carried feeds n ranked bands q u (omega arith) l; inside = inputs q (omega arith) })).inside

pub returns-clause-streams : goal.returns-clause-streams
returns-clause-streams c plant carried feeds u n rows ranked bands inputs t s p m j e =
    let l : u < length plant.units = unit_there plant s u p ranked j e in
    (stream-renewed plant carried feeds u (carried u) rows (bands-kept plant.rounding) ranked
    (record { bands = bands.states u l; inside = inside-itself (carried u) }) t s p j e
    (λ q k. record { bands = inputs-bands plant carried feeds n ranked bands q u (omega arith) l; inside = inputs q (omega arith) })
    (λ i. record { bands = inputs-bands plant carried feeds n ranked bands t u m l; inside = inputs t m })).inside

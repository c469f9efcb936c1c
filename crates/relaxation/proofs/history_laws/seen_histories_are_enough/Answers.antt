-- The versions that were seen are in the whole histories.
use Rattle.relaxation.proofs.Seen.{seen_made}
use Rattle.relaxation.proofs.history_laws.seen_histories_are_enough.Goals as goal

pub returns : goal.returns
returns c window seen whole u p before made begin h = seen_made seen whole begin window u p before made h

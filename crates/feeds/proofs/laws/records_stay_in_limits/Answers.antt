-- Records that are accepted lie in the limits.
use Rattle.feeds.proofs.Limits.{given-within}
use Rattle.feeds.proofs.laws.records_stay_in_limits.Goals as goal

pub returns : goal.returns
returns c = given-within

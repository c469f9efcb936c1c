-- A first place is found, or there is none.
use Rattle.window_accept.proofs.Found.{found}
use Rattle.window_accept.proofs.laws.wide_places_are_found.Goals as goal

pub returns : goal.returns
returns c = found

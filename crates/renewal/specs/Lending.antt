-- What a room's tubes become by a write behind a reference to one of them.
use Rattle.std.specs.Prelude.{ℕ, List, slice_set}
use Rattle.std.specs.Borrow.{Lends, MutBor, Fml}
use Rattle.relaxation.specs.Tube.{Tube}
use Rattle.tubes.specs.contracts.tube.Tube as one
use Rattle.renewal.specs.contracts.rooms.Inputs as room

-- the tubes end with the last value behind r at a port
abbrev pub LendsTube : MutBor (List Tube) → ℕ → MutBor Tube → Fml
LendsTube s p r = Lends room.the_row one.the_row s r (λ tube. slice_set s.now p tube)

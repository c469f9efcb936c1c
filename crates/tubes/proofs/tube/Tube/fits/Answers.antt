use Rattle.std.proofs.Common.{ap, length}
use Rattle.tubes.proofs.Shapes.{fits_is, fits_not}
use Rattle.tubes.proofs.tube.Tube.fits.Goals as goal

pub returns-then-self-other : goal.returns-then-self-other
returns-then-self-other c =
    fits_is _ _ _ _ _ _ _ _ c.self.view_is c.other.view_is c.self.invariant c.other.invariant _ _
    (ap length c.as_slice.ensures.value) (ap length c.as_slice-then-self-other.ensures.value) c.if-self-other.true

pub returns-else-self-other : goal.returns-else-self-other
returns-else-self-other c =
    fits_not _ _ _ _ _ _ _ _ c.self.view_is c.other.view_is c.self.invariant c.other.invariant
    c.if-self-other.false

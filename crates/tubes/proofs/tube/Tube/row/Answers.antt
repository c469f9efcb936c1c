use Rattle.std.proofs.Common.{◌≡◌, ℕ, ◌+◌, ap, ◌∙◌, take, drop, arith}
use Rattle.tubes.proofs.Places.{row_fits, row_is}
use Rattle.tubes.proofs.tube.Tube.row.Goals as goal

nothing-more : (k : ℕ) → k + 0 ≡ k
nothing-more k = omega arith

pub row-requires : goal.row-requires
row-requires c = rw (c.place.ensures ∙ nothing-more _) (rw c.as_slice.ensures.value
    (row_fits _ _ _ _ c.self.view_is c.self.invariant _ c.requires))

pub returns : goal.returns
returns c =
    c.row.ensures
    ∙ (ap (λ bands. take c.self.inside.channels (drop c.place.result bands)) c.as_slice.ensures.value
    ∙ (ap (λ k. take c.self.inside.channels (drop k c.self.inside.bands.items)) (c.place.ensures ∙ nothing-more _)
    ∙ row_is _ _ _ _ c.self.view_is c.self.invariant _ c.requires))

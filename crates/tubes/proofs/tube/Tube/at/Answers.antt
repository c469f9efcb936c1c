use Rattle.std.proofs.Common.{ap, ◌∙◌}
use Rattle.tubes.specs.Flat.{nth}
use Rattle.tubes.proofs.Places.{place_there, place_is}
use Rattle.tubes.proofs.tube.Tube.at.Goals as goal

pub band-requires : goal.band-requires
band-requires c = rw c.place.ensures (rw c.as_slice.ensures.value
    (place_there _ _ _ _ c.self.view_is c.self.invariant _ c.requires.tick _ c.requires.channel))

pub returns : goal.returns
returns c =
    c.band.ensures
    ∙ (ap (λ bands. nth bands c.place.result) c.as_slice.ensures.value
    ∙ (ap (nth c.self.inside.bands.items) c.place.ensures
    ∙ place_is _ _ _ _ c.self.view_is c.self.invariant _ c.requires.tick _ c.requires.channel))

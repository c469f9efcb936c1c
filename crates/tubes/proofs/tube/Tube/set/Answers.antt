use Rattle.std.proofs.Common.{ap, ◌∙◌}
use Rattle.std.specs.Prelude.{slice_set}
use Rattle.tubes.specs.Cut.{cut}
use Rattle.tubes.proofs.Places.{place_there, set_is}
use Rattle.tubes.proofs.tube.Tube.set.Goals as goal

pub index_mut-requires : goal.index_mut-requires
index_mut-requires c = rw c.place-place.ensures (rw c.self.inside.bands.ok.0
    (place_there _ _ _ _ c.self.view_is c.self.invariant _ c.requires.tick _ c.requires.channel))

pub returns : goal.returns
returns c =
    ap (λ k. cut c.self.inside.ticks c.self.inside.channels (slice_set c.self.inside.bands.items k c.args.band)) c.place-place.ensures
    ∙ set_is _ _ _ _ c.self.view_is c.self.invariant _ c.requires.tick _ c.requires.channel c.args.band

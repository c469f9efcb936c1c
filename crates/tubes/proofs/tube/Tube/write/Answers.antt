use Rattle.std.proofs.Common.{◌≡◌, ℕ, ◌+◌, ◌*◌, ◌≤◌, length, ap, ◌∙◌, arith}
use Rattle.std.specs.Prelude.{slice_set}
use Rattle.tubes.specs.Cut.{cut}
use Rattle.tubes.specs.Flat.{written}
use Rattle.tubes.proofs.Flats.{refilled, written_counted}
use Rattle.tubes.proofs.Cuts.{cut_written}
use Rattle.tubes.proofs.Places.{tick_there, row_fits, row_length}
use Rattle.tubes.proofs.tube.Tube.write.Goals as goal

plain : {k n : ℕ} → k ≡ n + 0 → k ≡ n
plain e = omega arith

pub write-requires : goal.write-requires
write-requires c =
    rw (plain c.place-start.ensures) (rw (c.requires.channels ∙ row_length _ _ _ _ c.self.view_is c.self.invariant _ c.requires.tick)
    (rw c.as_mut_slice.ensures.value (row_fits _ _ _ _ c.self.view_is c.self.invariant _ c.requires.tick)))

after : (c : goal.After-self-1) →
    c.write.new.bands ≡ written c.self.inside.bands.items (c.args.tick * c.self.inside.channels) c.args.bands.now
after c =
    c.write.ensures
    ∙ (ap (λ bands. written bands c.place-start.result c.args.bands.now) c.as_mut_slice.ensures.value
    ∙ ap (λ k. written c.self.inside.bands.items k c.args.bands.now) (plain c.place-start.ensures))

channels : (c : goal.After-self-1) → length c.args.bands.now ≡ c.self.inside.channels
channels c = c.requires.channels ∙ row_length _ _ _ _ c.self.view_is c.self.invariant _ c.requires.tick

fits : (c : goal.After-self-1) → c.args.tick * c.self.inside.channels + length c.args.bands.now ≤ length c.self.inside.bands.items
fits c = rw (channels c) (row_fits _ _ _ _ c.self.view_is c.self.invariant _ c.requires.tick)

pub returns : goal.returns
returns c =
    ap (cut c.self.inside.ticks c.self.inside.channels) (
    refilled c.self.inside.bands.items c.write.new.bands _ c.self.inside.bands.ok.0
    (ap length (after c) ∙ written_counted c.self.inside.bands.items c.args.bands.now _ (fits c)) ∙ after c)
    ∙ (cut_written _ _ _ c.self.inside.bands.items c.args.bands.now (tick_there _ _ _ _ c.self.view_is c.self.invariant _ c.requires.tick) (channels c) c.self.invariant
    ∙ ap (λ tube. slice_set tube c.args.tick c.args.bands.now) c.self.view_is)

use Rattle.std.proofs.Common.{◌≡◌, ℕ, ◌+◌, ◌*◌, ap, sym, ◌∙◌, drop, arith}
use Rattle.tubes.specs.Cut.{bands_from}
use Rattle.tubes.proofs.Cuts.{cut_from}
use Rattle.tubes.proofs.tube.Tube.rows_from.Goals as goal

pub returns : goal.returns
returns c =
    let bands = c.self.inside.bands.items in
    let channels = c.self.inside.channels in
    let start : c.place.result ≡ c.args.tick * channels = omega (arith, c.place.ensures) in
    c.rest.ensures ∙ ap (drop c.place.result) c.as_slice.ensures.value ∙ ap (λ k. drop k bands) start
    ∙ sym (cut_from c.args.tick c.self.inside.ticks channels bands c.self.invariant)
    ∙ ap (bands_from c.args.tick) c.self.view_is

use Rattle.std.proofs.Common.{sym, ap, ◌∙◌, length}
use Rattle.tubes.proofs.Cuts.{cut_counted}
use Rattle.tubes.proofs.tube.Tube.ticks.Goals as goal

pub returns : goal.returns
returns c = sym (cut_counted c.self.inside.ticks c.self.inside.channels c.self.inside.bands.items) ∙ ap length c.self.view_is

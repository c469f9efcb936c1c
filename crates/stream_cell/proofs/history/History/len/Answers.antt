use Rattle.std.proofs.Common.{sym, ap, ◌∙◌, length}
use Rattle.stream_cell.proofs.Flats.{versions_counted}
use Rattle.stream_cell.proofs.history.History.len.Goals as goal

pub returns : goal.returns
returns c = c.len.ensures ∙ (c.self.inside.heads.ok.0 ∙ (sym (versions_counted _ c.self.inside.heads.items c.self.inside.bands.items) ∙ ap length c.self.view_is))

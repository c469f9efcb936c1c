use Rattle.std.proofs.Common.{◌≡◌, ◌+◌, ◌-◌, length, sym, arith}
use Rattle.stream_cell.proofs.Flats.{newest_head}
use Rattle.stream_cell.proofs.history.History.show.Goals as goal

pub returns-clause-head : goal.returns-clause-head
returns-clause-head c =
    let is : c.len.result - 1 + 1 ≡ length c.self.inside.heads.items = omega (arith, c.self.inside.heads.ok.0, c.self.invariant.some) in
    let head = newest_head _ c.self.inside.heads.items c.self.inside.bands.items _ c.self.view_is _ _ is c.index-head.ensures in
    (sym head.0, sym head.1)

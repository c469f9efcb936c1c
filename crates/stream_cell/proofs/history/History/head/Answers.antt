use Rattle.std.proofs.Common.{length, map, ap, arith}
use Rattle.stream_cell.proofs.Flats.{versions_counted}
use Rattle.stream_cell.proofs.Reading.{head_at}
use Rattle.stream_cell.proofs.history.History.head.Goals as goal

pub index-requires : goal.index-requires
index-requires c =
    let here = c.self.inside in
    omega (arith, here.heads.ok.0, versions_counted (map length here.last) here.heads.items here.bands.items, ap length c.self.view_is)

pub returns : goal.returns
returns c =
    let here = c.self.inside in
    let told = head_at (map length here.last) here.heads.items here.bands.items c.args.self.now c.self.view_is c.args.version c.index.result.now c.requires c.index.ensures in
    record { number = told.0; maker = told.1; stamp = told.2; refs = told.3 }

use Rattle.std.proofs.Common.{◌<◌, length, arith}
use Rattle.relax_core.proofs.Replaced.{lines-counted, line-counted}
use Rattle.relax_core.proofs.lines.Lines.count.Goals as goal

pub returns : goal.returns
returns c =
    let replaced = c.self.inside.replaced.items in
    let lines = c.self.inside.lines.items in
    let there : c.args.stream < length lines =
    omega (arith, c.requires, lines-counted replaced lines c.args.self.now c.self.view_is) in
    omega (
      arith,
      c.len.ensures,
      line-counted replaced lines c.args.stream c.index.result.now there c.index.ensures c.args.self.now c.self.view_is,
    )

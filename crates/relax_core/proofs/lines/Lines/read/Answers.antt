use Rattle.std.proofs.Common.{◌∙◌, ◌<◌, ◌≤◌, length, arith}
use Rattle.relax_core.proofs.Replaced.{lines-counted, line-counted, line-shape}
use Rattle.relax_core.proofs.lines.Lines.read.Goals as goal

pub read-requires-clause-number : goal.read-requires-clause-number
read-requires-clause-number c =
    let replaced = c.self.inside.replaced.items in
    let lines = c.self.inside.lines.items in
    let there : c.args.stream < length lines =
    omega (arith, c.requires.stream, lines-counted replaced lines c.args.self.now c.self.view_is) in
    omega (
      arith,
      c.requires.number,
      line-counted replaced lines c.args.stream c.index.result.now there c.index.ensures c.args.self.now c.self.view_is,
    )

pub read-requires-clause-shape : goal.read-requires-clause-shape
read-requires-clause-shape c =
    let replaced = c.self.inside.replaced.items in
    let lines = c.self.inside.lines.items in
    let line = c.index.result.now in
    let there : c.args.stream < length lines =
    omega (arith, c.requires.stream, lines-counted replaced lines c.args.self.now c.self.view_is) in
    let number : c.args.number ≤ length line.changes.items =
    omega (
      arith,
      c.requires.number,
      line-counted replaced lines c.args.stream line there c.index.ensures c.args.self.now c.self.view_is,
    ) in
    c.requires.shape
    ∙ line-shape replaced lines c.args.stream line there c.index.ensures c.args.self.now c.self.view_is c.self.invariant
    c.args.number number

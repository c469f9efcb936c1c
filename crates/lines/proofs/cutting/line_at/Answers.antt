-- The line is found behind the empty lines that were passed.
use Rattle.lines.proofs.Cuts.{line_found}
use Rattle.lines.proofs.cutting.line_at.Goals as goal

pub returns-then-line : goal.returns-then-line
returns-then-line c = line_found c.args.bytes.now c.args.from c.loop-start.start _ c.loop-start.invariant
    c.begun_line-line.ensures c.if-line.true

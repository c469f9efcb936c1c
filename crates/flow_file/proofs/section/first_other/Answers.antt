use Rattle.std.proofs.Common.{rules}
use Rattle.flow_file.proofs.Keys.{any_text}
use Rattle.flow_file.proofs.section.first_other.Goals as goal

pub returns-then-not-is_known : goal.returns-then-not-is_known
returns-then-not-is_known c = let e = any_text c.deref.result.now c.args.known.now in search rules

pub loop-key-preserved : goal.loop-key-preserved
loop-key-preserved c = let e = any_text c.deref.result.now c.args.known.now in search rules

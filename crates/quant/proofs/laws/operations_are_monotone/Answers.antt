-- Each law is a lemma on the operation.
use Rattle.quant.proofs.Operations.{clamp-monotone, sum-monotone, difference-monotone, share-monotone, keep-monotone, gain-monotone, blend-monotone}
use Rattle.quant.proofs.Mixing.{mix-monotone}
use Rattle.quant.proofs.Tables.{lookup-monotone}
use Rattle.quant.proofs.Stages.{tray-monotone}
use Rattle.quant.proofs.laws.operations_are_monotone.Goals as goal

pub returns : goal.returns
returns c = record {
  add = sum-monotone;
  sub = difference-monotone;
  share = share-monotone;
  keep = keep-monotone;
  gain = gain-monotone;
  blend = blend-monotone;
  mix = mix-monotone;
  tray = tray-monotone;
  lookup = lookup-monotone;
  clamp = clamp-monotone;
}

use Rattle.std.proofs.Common.{sym, subst}
use Rattle.stream_cell.specs.declared.head.CellMet.{CellMet}
use Rattle.stream_cell.specs.Histories.{Judges}
use Rattle.stream_cell.specs.Steps.{IsRead, counting}
use Rattle.stream_cell.proofs.Answering.{appended_of, narrowed_is, stays_judged, still_read}
use Rattle.stream_cell.proofs.Growing.{newest_shape}
use Rattle.stream_cell.proofs.passes.StreamCell.narrow.Goals as goal

pub append-requires : goal.append-requires
append-requires c =
    let v = c.requires.read.0 in
    let is = c.requires.read.1 in
    let judged = c.judge-met.ensures v is in
    let narrowed = subst (λ (met : CellMet). Judges met v.seen v.number c.args.renewal.now c.args.uses.now judged.0) c.in-Narrowed.is judged.2 in (
      v,
      judged.0,
      appended_of c.args.self.now c.args.pass.now _ v _ c.args.uses.now _ _ judged.0 is
          (newest_shape _ _ v.seen is.at.ordered c.requires.shape) c.requires.base judged.1 narrowed,
    )

pub returns-in-Narrowed : goal.returns-in-Narrowed
returns-in-Narrowed c = λ v is.
    let judged = c.judge-met.ensures v is in
    let narrowed = subst (λ (met : CellMet). Judges met v.seen v.number c.args.renewal.now c.args.uses.now judged.0) c.in-Narrowed.is judged.2 in
    let counted = c.append.ensures v judged.0 (appended_of c.args.self.now c.args.pass.now _ v _ c.args.uses.now _ _ judged.0 is
    (newest_shape _ _ v.seen is.at.ordered c.requires.shape) c.requires.base judged.1 narrowed) in (
      judged.0,
      subst (λ (met : CellMet). IsRead c.args.self.now c.append.new.pass (counting v met judged.0)) (sym c.in-Narrowed.is)
          (subst (IsRead c.args.self.now c.append.new.pass) (narrowed_is v _ c.args.uses.now _ _ judged.0 narrowed) counted),
      judged.2,
    )

pub returns-in_default : goal.returns-in_default
returns-in_default c = λ v is.
    let judged = c.judge-met.ensures v is in (
      judged.0,
      still_read c.args.self.now c.args.pass.now _ v _ judged.0 is judged.1
          (stays_judged _ v.seen judged.0 v.number c.args.renewal.now c.args.uses.now c.in_default.not-Narrowed judged.2),
      judged.2,
    )

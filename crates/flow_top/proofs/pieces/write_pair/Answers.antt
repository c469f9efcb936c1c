use Rattle.std.proofs.Common.{refl}
use Rattle.flow_top.specs.Steps as pair
use Rattle.flow_top.proofs.Pairs.{pair-broke, pair-ended}
use Rattle.flow_top.proofs.pieces.write_pair.Goals as goal

pub returns-in_err-write_piece-clause-ended : goal.returns-in_err-write_piece-clause-ended
returns-in_err-write_piece-clause-ended g c =
    pair-broke c.args.command _ c.args.rows.now _ c.from_residual.result c.in_err-write_piece.field-0.0
    c.from_residual.ensures.1 (record { text = refl; count = refl }) c.in_err-write_piece.ensures.ended

pub returns-in-Some-clause-ended : goal.returns-in-Some-clause-ended
returns-in-Some-clause-ended g c =
    rw c.in-Some.is (pair-ended c.args.command _ c.args.rows.now c.in-Some.text.now c.write_piece-in-Some.result
    c.in_ok-write_piece.ensures.ended c.write_piece-in-Some.ensures.ended)

pub returns-in-None-clause-ended : goal.returns-in-None-clause-ended
returns-in-None-clause-ended g c =
    rw c.in-None.is (pair.whole c.in_ok-write_piece.ensures.ended (record { text = refl; count = refl }))

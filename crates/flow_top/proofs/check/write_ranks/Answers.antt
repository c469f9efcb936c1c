use Rattle.std.proofs.Common.{None, refl, arith}
use Rattle.tables.specs.Output.{rank_header}
use Rattle.report.specs.Ranks.{rank_rows}
use Rattle.flow_top.specs.declared.words.Command.TheVariants.{Check}
use Rattle.flow_top.specs.declared.fault.End.TheVariants.{NoMemory}
use Rattle.flow_top.proofs.Courses.{check_course, check-work, check-writes, check-header}
use Rattle.flow_top.proofs.Work.{this-end, first-broke, header-stands, second-ended}
use Rattle.flow_top.proofs.check.write_ranks.Goals as goal

pub returns-in_err-write_piece : goal.returns-in_err-write_piece
returns-in_err-write_piece g c extra trace still =
    let parts = c.args.plant.now in
    let ended = rw c.rank_header.ensures at c.in_err-write_piece.ensures.ended in
    let end = c.in_err-write_piece.field-0.0 in
    first-broke Check parts (check_course parts) rank_header (rank_rows parts) extra trace (check-work parts None c.requires) refl still _ end _
    (this-end c.from_residual.result end c.from_residual.ensures.1) refl (check-writes (rank_rows parts)) ended

pub returns-in_err-rows : goal.returns-in_err-rows
returns-in_err-rows g c extra trace still =
    let parts = c.args.plant.now in
    let given = rw c.rank_header.ensures at c.in_ok-write_piece.ensures.ended in
    header-stands Check parts (check_course parts) rank_header (rank_rows parts) extra trace (check-work parts None c.requires) refl still _ _
    (this-end c.from_residual-in_err-rows.result NoMemory c.from_residual-in_err-rows.ensures.1) refl check-header (omega arith) given

pub returns : goal.returns
returns g c extra trace still =
    let parts = c.args.plant.now in
    let given = rw c.rank_header.ensures at c.in_ok-write_piece.ensures.ended in
    let last = rw (c.as_bytes.ensures, c.in_ok-rows.ensures) at c.write_piece-2.ensures.ended in
    second-ended Check parts (check_course parts) rank_header (rank_rows parts) extra trace (check-work parts None c.requires) refl still
    _ _ _ _ _ _ c.write_piece-2.result refl (check-writes (rank_rows parts)) refl given c.in_ok-write_piece.ensures.counted last

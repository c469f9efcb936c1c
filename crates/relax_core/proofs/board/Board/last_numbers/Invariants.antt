-- The last versions of the streams so far.
use Rattle.std.proofs.Common.{◌≡◌, take}
use Rattle.relaxation.specs.Core.{last_numbers}
use Rattle.relax_core.proofs.board.Board.last_numbers.Given as goal

abbrev pub invariant-loop-port : goal.invariant-loop-port
invariant-loop-port l = take l.port l.numbers ≡ last_numbers l.self.versions (take l.port l.streams)

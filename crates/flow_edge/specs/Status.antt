-- The exit status of each answer.
use Rattle.std.specs.Prelude.{ℕ}
use Rattle.flow_edge.specs.declared.status.Status.{Status}
use Rattle.flow_edge.specs.declared.status.Status.TheVariants.{Done, Words, Refused, Wide, ReadFault, WriteFault, NoMemory, No}

abbrev pub code_of : Status → ℕ
code_of Done = 0
code_of Words = 1
code_of Refused = 2
code_of Wide = 3
code_of ReadFault = 4
code_of WriteFault = 5
code_of NoMemory = 6
code_of No = 7

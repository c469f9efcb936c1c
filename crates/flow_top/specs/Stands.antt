-- What stands after the call, for every status.
use Rattle.std.specs.Prelude.{◌≡◌, ◌⊎◌, ℕ, List, Result, Ok, Err, None}
use Rattle.flow_edge.specs.declared.status.Status.{Status}
use Rattle.flow_edge.specs.declared.status.Status.TheVariants as status
use Rattle.flow_top.specs.declared.fault.Stop.{Stop}
use Rattle.flow_top.specs.declared.fault.End.{End}
use Rattle.flow_top.specs.declared.fault.End.TheVariants.{Stopped, NoMemory}
use Rattle.flow_top.specs.Uses.{SinkUse, Uses, IsUnwritten, WasGiven, Broke}
use Rattle.flow_top.specs.Ended.{Ended}
use Rattle.report.specs.Lines.{fault_line, constant_line, memory_line}

-- the line was written, and the status is its own; or writing it failed, and the status is that of a write fault
abbrev pub SaidLine : SinkUse → List ℕ → Status → Status → Type 0
SaidLine err line own result = (WasGiven err line × (result ≡ own)) ⊎ (Broke err line × (result ≡ status.WriteFault))

-- the line of want of memory was said
abbrev pub SaidMemory : SinkUse → Status → Type 0
SaidMemory err result = SaidLine err memory_line status.NoMemory result

-- the line of a stop was said; or, where the line takes memory, that of want of memory
abbrev pub SaidStop : Stop → SinkUse → Status → Type 0
SaidStop stop err result =
    SaidLine err (fault_line stop.fault) stop.status result ⊎ ((constant_line stop.fault ≡ None) × SaidMemory err result)

-- what was said of how the work ended: nothing where it is whole
abbrev pub Said : Result (Unit {0}) End → SinkUse → Status → Type 0
Said (Ok done) err result = IsUnwritten err × (result ≡ status.Done)
Said (Err NoMemory) err result = SaidMemory err result
Said (Err (Stopped stop)) err result = SaidStop stop err result

-- How the work ended, what then stands in the sources, the output and the trace, and what was said of it.
pub record Stands (words : List (List ℕ)) (uses : Uses) (result : Status) : Type 0 where
  pub ending : Result (Unit {0}) End
  pub ended : Ended words uses.plant uses.extra uses.sinks ending
  pub said : Said ending uses.err result

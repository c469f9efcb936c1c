-- The course of each command, on a plant and with a text of records where one is given. A command is added here. `check` writes the units
-- of a plant with their ranks, and `demo` the summary of a generated plant, which has no header.
use Rattle.std.specs.Prelude.{ℕ, List, [], Option}
use Rattle.parts.specs.Parts.{FileParts}
use Rattle.plant.specs.Sound.{IsPlant}
use Rattle.flow_top.specs.declared.words.Command.{Command}
use Rattle.flow_top.specs.declared.words.Command.TheVariants.{Run, Direct, Check, Demo}
use Rattle.flow_top.specs.Course.{Course, WritesOnce}
use Rattle.flow_top.specs.WindowsCourse.{IsRunCourse, IsDirectCourse}
use Rattle.tables.specs.Output.{rank_header}
use Rattle.report.specs.Ranks.{rank_rows}
use Rattle.demo.specs.Summary.{summary}

abbrev pub IsCourse : Command → FileParts → Option (List ℕ) → Course → Type 0
IsCourse Run parts records course = IsRunCourse parts records course
IsCourse Direct parts records course = IsDirectCourse parts records course
IsCourse Check parts records course = WritesOnce rank_header (rank_rows parts) course
IsCourse (Demo stages) parts records course = WritesOnce [] (summary stages) course

-- the command writes the rows of the interval run
abbrev pub WritesRun : Command → Type 0
WritesRun Run = Unit {0}
WritesRun Direct = Unit {0}
WritesRun Check = ⊥
WritesRun (Demo stages) = ⊥

-- the command reads a plant text; `demo` has the plant that it generates
abbrev pub ReadsPlant : Command → Type 0
ReadsPlant Run = Unit {0}
ReadsPlant Direct = Unit {0}
ReadsPlant Check = Unit {0}
ReadsPlant (Demo stages) = ⊥

-- the parts are a plant, and this is what the command does on it and these records
pub record IsWork (command : Command) (parts : FileParts) (records : Option (List ℕ)) (course : Course) : Type 0 where
  pub plant : IsPlant parts
  pub follows : IsCourse command parts records course

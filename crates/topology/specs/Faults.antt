-- Why units have no ranks.
use Rattle.topology.specs.Links.{LinkLists, IsFirstLoop}
use Rattle.topology.specs.declared.ranking.RankFault.{RankFault}
use Rattle.topology.specs.declared.ranking.RankFault.TheVariants.{Loop, NoMemory}

-- a loop is told at its first unit; of memory nothing is known
abbrev pub IsRankFault : LinkLists → RankFault → Type 0
IsRankFault links (Loop u) = IsFirstLoop links u
IsRankFault links NoMemory = Unit {0}

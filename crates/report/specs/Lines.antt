-- The error lines.
use Rattle.std.specs.Prelude.{ℕ, ◌++◌, List, codes, decimal, Option, Some, None}
use Rattle.std.specs.Fmt.{signed_decimal}
use Rattle.report.specs.declared.fault.TopFault.{TopFault}
use Rattle.report.specs.declared.fault.TopFault.TheVariants.{Words, TooLong, NotToml, Format, Missing, WrongType, UnknownKey}
use Rattle.report.specs.declared.fault.TopFault.TheVariants.{OutOfRange, BadName, Twice, NoSource, WrongPort, TooMany}
use Rattle.report.specs.declared.fault.TopFault.TheVariants.{BadLimits, StartOutside, FeedPieces, FeedOutside, TableFalls}
use Rattle.report.specs.declared.fault.TopFault.TheVariants.{ColumnTooFast, InstantLoop, TooDeep, BadRecord, UnknownPlace, Order, Outside, FeedTooLong, Wide}
use Rattle.report.specs.declared.fault.TopFault.TheVariants.{ReadPlant, ReadExtra, WriteOut, WriteTrace}

-- what a line says
unfoldable pub fault_words : TopFault → List ℕ
fault_words (Words at) = codes "words refused at " ++ decimal at
fault_words TooLong = codes "P1 too long"
fault_words NotToml = codes "P2 not TOML"
fault_words (Format found) = codes "P3 format " ++ signed_decimal found
fault_words (Missing place) = codes "P4 missing " ++ place
fault_words (WrongType place) = codes "P5 wrong type " ++ place
fault_words (UnknownKey place) = codes "P6 unknown key " ++ place
fault_words (OutOfRange place) = codes "P7 out of range " ++ place
fault_words (BadName place) = codes "P8 bad name " ++ place
fault_words (Twice name) = codes "P9 name twice " ++ name
fault_words (NoSource place) = codes "P10 no source " ++ place
fault_words (WrongPort place) = codes "P11 wrong port " ++ place
fault_words (TooMany place) = codes "P12 too many " ++ place
fault_words (BadLimits place) = codes "P13 bad limits " ++ place
fault_words (StartOutside place) = codes "P14 start outside " ++ place
fault_words (FeedPieces place) = codes "P15 feed pieces " ++ place
fault_words (FeedOutside place) = codes "P16 feed outside " ++ place
fault_words (TableFalls place) = codes "P17 table falls " ++ place
fault_words (ColumnTooFast unit) = codes "P18 column too fast " ++ unit
fault_words (InstantLoop unit) = codes "P19 instant loop " ++ unit
fault_words (TooDeep unit) = codes "P20 too deep " ++ unit
fault_words (BadRecord at) = codes "F1 bad record " ++ decimal at
fault_words (UnknownPlace at) = codes "F2 unknown place at record " ++ decimal at
fault_words (Order at) = codes "F3 order at record " ++ decimal at
fault_words (Outside at) = codes "F4 outside at record " ++ decimal at
fault_words (FeedTooLong at) = codes "F5 too long at record " ++ decimal at
fault_words (Wide stream channel tick width limit) =
    (codes "wide stream " ++ stream) ++ (codes " channel " ++ channel) ++ (codes " tick " ++ decimal tick)
    ++ (codes " width " ++ signed_decimal width) ++ (codes " limit " ++ signed_decimal limit)
fault_words ReadPlant = codes "read fault on plant"
fault_words ReadExtra = codes "read fault on extra"
fault_words WriteOut = codes "write fault on out"
fault_words WriteTrace = codes "write fault on trace"

-- a line begins with the program's name
unfoldable pub line_of : List ℕ → List ℕ
line_of text = codes "flowrelax: " ++ text ++ codes "\n"

-- the line of each fault, and that of want of memory
unfoldable pub fault_line : TopFault → List ℕ
fault_line fault = line_of (fault_words fault)

unfoldable pub memory_line : List ℕ
memory_line = codes "flowrelax: want of memory\n"

-- the lines with no place, name or number are the same each time, and take no memory
abbrev pub constant_line : TopFault → Option (List ℕ)
constant_line TooLong = Some (fault_line TooLong)
constant_line NotToml = Some (fault_line NotToml)
constant_line ReadPlant = Some (fault_line ReadPlant)
constant_line ReadExtra = Some (fault_line ReadExtra)
constant_line WriteOut = Some (fault_line WriteOut)
constant_line WriteTrace = Some (fault_line WriteTrace)
constant_line fault = None

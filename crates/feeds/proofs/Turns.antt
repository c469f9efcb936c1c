-- The records of a text follow each other: each is one of the plant's, and not before the one before it.
use Rattle.std.proofs.Common.{◌≡◌, ℕ, ◌+◌, ◌≤◌, Bool, true, false, cond, List, [], ◌∷◌, Result, Ok, Err, bytes_eq, refl, arith}
use Rattle.std.specs.List.{AllByRecursion}
use Rattle.parts.specs.Parts.{FileParts}
use Rattle.plant.specs.Sound.{IsPlant}
use Rattle.feeds.specs.declared.record.Record.{Record}
use Rattle.feeds.specs.declared.reader.FeedFault.{FeedFault}
use Rattle.feeds.specs.declared.reader.FeedFault.TheVariants.{BadRecord}
use Rattle.feeds.specs.Records.{ReadRecords, Entry, whole, cut_off, refused_by, judged, read_on, read_from, read_text, record_header}
use Rattle.feeds.specs.Standing.{IsRecordFor}
use Rattle.feeds.proofs.Accepted.{IsNext, judged-fits}

abbrev pub AreInTurn : FileParts → ℕ → List Record → Type 0
AreInTurn parts before [] = Unit {0}
AreInTurn parts before (one ∷ rest) = IsNext parts before one × AreInTurn parts one.tick rest

on-turn : (parts : FileParts) (before : ℕ) (answer : Result Record FeedFault) (after : Record → ReadRecords) →
    ((one : Record) → answer ≡ Ok one → IsNext parts before one) → ((one : Record) → AreInTurn parts one.tick (after one).records) →
    AreInTurn parts before (read_on answer after).records
on-turn parts before (Ok one) after next rest = (next one refl, rest one)
on-turn parts before (Err fault) after next rest = tt

pub from-turn : (parts : FileParts) (at before : ℕ) (entries : List Entry) → IsPlant parts →
    AreInTurn parts before (read_from parts at before entries).records
from-turn parts at before [] plant = tt
from-turn parts at before (cut_off ∷ rest) plant = tt
from-turn parts at before (whole line ∷ rest) plant =
    on-turn parts before (judged parts at before line) (λ one. read_from parts (at + 1) one.tick rest)
    (λ one e. judged-fits parts at before line one plant e) (λ one. from-turn parts (at + 1) one.tick rest plant)

header-turn : (file : FileParts) (is : Bool) (rest : List Entry) → IsPlant file →
    AreInTurn file 0 (cond is (read_from file 2 0 rest) (refused_by (BadRecord 1))).records
header-turn file true rest plant = from-turn file 2 0 rest plant
header-turn file false rest plant = tt

pub text-turn : (parts : FileParts) (entries : List Entry) → IsPlant parts → AreInTurn parts 0 (read_text parts entries).records
text-turn parts [] plant = tt
text-turn parts (cut_off ∷ rest) plant = tt
text-turn parts (whole line ∷ rest) plant = header-turn parts (bytes_eq line record_header) rest plant

-- each of them is one of the plant's
pub all-fit : (parts : FileParts) (before : ℕ) (records : List Record) → AreInTurn parts before records →
    AllByRecursion (IsRecordFor parts) records
all-fit parts before [] turn = tt
all-fit parts before (one ∷ rest) turn = (turn.0.fits, all-fit parts one.tick rest turn.1)

-- and not before any tick that is not after the first of them
pub all-later : (parts : FileParts) (end before : ℕ) (records : List Record) → end ≤ before → AreInTurn parts before records →
    AllByRecursion (λ one. end ≤ one.tick) records
all-later parts end before [] l turn = tt
all-later parts end before (one ∷ rest) l turn =
    let rises = turn.0.rises in
    (omega arith, all-later parts end one.tick rest (omega arith) turn.1)

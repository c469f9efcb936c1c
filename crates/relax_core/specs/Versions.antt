-- Words of the proofs: a reader of the contracts needs none of them.
-- How the versions of a stream are kept: the newest as a tube, and of each older one the bands that the next replaced.
use Rattle.std.specs.Prelude.{ℕ, ◌+◌, ◌≤◌, zero, suc, List, [], ◌∷◌, length, take, drop}
use Rattle.std.specs.List.{AllByRecursion}
use Rattle.quant.specs.Interval.{Interval}
use Rattle.relaxation.specs.Tube.{Tube}
pub use Rattle.tubes.specs.Cut.{bands_from}
use Rattle.relax_core.specs.declared.line.Change.{Change}
use Rattle.relax_core.specs.declared.line.Line.{Line}

-- the tube with other bands from a tick on
abbrev pub restored : ℕ → Tube → List Interval → Tube
restored t [] bands = []
restored zero (row ∷ rows) bands = take (length row) bands ∷ restored zero rows (drop (length row) bands)
restored (suc t) (row ∷ rows) bands = row ∷ restored t rows bands

-- the version before this one
abbrev pub before : List Interval → Change → Tube → Tube
before replaced change tube = restored change.tick tube (drop change.start replaced)

-- the oldest of the versions that lead to the newest by these changes
abbrev pub oldest : List Interval → Tube → List Change → Tube
oldest replaced newest [] = newest
oldest replaced newest (change ∷ changes) = before replaced change (oldest replaced newest changes)

-- all of them, oldest first
abbrev pub all_versions : List Interval → Tube → List Change → List Tube
all_versions replaced newest [] = newest ∷ []
all_versions replaced newest (change ∷ changes) =
    before replaced change (oldest replaced newest changes) ∷ all_versions replaced newest changes

abbrev pub versions_in : List Interval → Line → List Tube
versions_in replaced line = all_versions replaced line.newest line.changes.items

-- the bands that a change replaced are there
abbrev pub IsReplaced : List Interval → Tube → Change → Type 0
IsReplaced replaced newest change = change.start + length (bands_from change.tick newest) ≤ length replaced

abbrev pub IsLine : List Interval → Line → Type 0
IsLine replaced line = AllByRecursion (IsReplaced replaced line.newest) line.changes.items

-- The kinds of step that passes make on a cell, and what each tells its pass.
use Rattle.std.specs.Prelude.{◌≡◌, ◌≢◌, ◌+◌, ◌<◌, ◌∷◌, ◌++◌, ℕ, [], List}
use Rattle.atomic_table.specs.Table.{Step, Me}
use Rattle.relaxation.specs.History.{History, Begins, numbered}
use Rattle.stream_cell.specs.declared.view.PassView.{PassView}
use Rattle.stream_cell.specs.declared.view.Turn.TheVariants.{Free, Held, Read}
use Rattle.stream_cell.specs.Histories.{newest, IsHistoryOf}
use Rattle.stream_cell.specs.Passes.{IsOf, missed}

-- a pass that has taken the turn and the history
abbrev pub holding : PassView → History → PassView
holding v history =
    record { number = v.number; passes = v.passes; seen = v.seen; made = v.made; turn = Held history; looks = v.looks; misses = v.misses }

-- once it has read how many versions there are: it has seen all of them, and counted a look
abbrev pub reading : PassView → History → PassView
reading v history =
    record { number = v.number; passes = v.passes; seen = history; made = v.made; turn = Read; looks = v.looks + 1; misses = v.misses }

-- once it has appended a version, which it has seen and counts among those that it made
abbrev pub appending : PassView → History → PassView
appending v history = record {
  number = v.number;
  passes = v.passes;
  seen = history;
  made = v.made ++ (newest history).number ∷ [];
  turn = Read;
  looks = v.looks;
  misses = v.misses;
}

-- once it has given the turn back
abbrev pub free : PassView → PassView
free v = record { number = v.number; passes = v.passes; seen = v.seen; made = v.made; turn = Free; looks = v.looks; misses = v.misses }

-- what a seat stands for, and which values it has out of which slots
abbrev pub MyMe : Type 0
MyMe = Me History (List PassView)

-- the seat of one pass, which has this history out of the one slot
abbrev pub with_history : PassView → History → MyMe
with_history v history = (v ∷ [], (0, history) ∷ [])

-- It sets the number of turns taken to 1 and learns what that was: 0, and it has the turn and takes the history; or not 0, so that
-- another pass has the turn, and it counts a miss.
abbrev pub seized : Step History → MyMe → ℕ → MyMe → Type 0
seized st me n after = (v : PassView) → me ≡ (v ∷ [], []) →
    (n ≡ 0 → (history : History) × (after ≡ with_history (holding v history) history))
    × (n ≢ 0 → (1 < v.passes) × (after ≡ (missed v ∷ [], [])))

-- It reads how many versions there are, and so has seen all that it took: a history that begins with what it had seen, and in which
-- it is the maker of what it made and of no more.
abbrev pub read : Step History → MyMe → ℕ → MyMe → Type 0
read st me n after = (v : PassView) (history : History) → me ≡ with_history v history → v.turn ≡ Held history →
    Begins v.seen history × IsHistoryOf (numbered v.seen 0).tube history × IsOf history (reading v history)
    × (after ≡ with_history (reading v history) history)

-- It raises the number of versions by the one that it put behind those that it read: what it made is now that one too.
abbrev pub appended : Step History → MyMe → ℕ → MyMe → Type 0
appended st me n after = (v : PassView) (history : History) → me ≡ with_history v history →
    IsOf history (appending v history) × (after ≡ with_history (appending v history) history)

-- It sets the number of turns taken to 0, and gives the history back.
abbrev pub released : Step History → MyMe → ℕ → MyMe → Type 0
released st me n after = (v : PassView) (history : History) → me ≡ with_history v history → after ≡ (free v ∷ [], [])

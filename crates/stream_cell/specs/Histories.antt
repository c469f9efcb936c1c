-- The versions of a stream, and what meeting the last of them with a renewal makes of them.
use Rattle.std.specs.Prelude.{◌≡◌, ℕ, ◌+◌, ◌-◌, ◌<◌, ◌≤◌, ◌^◌, max, true, false, [], ◌∷◌, ◌++◌, length}
use Rattle.relaxation.specs.Tube.{Tube, IsWithin, HasNumbers, is_within, meet}
use Rattle.relaxation.specs.History.{Version, History, Begins, IsHistory, numbered}
use Rattle.tubes.specs.Meeting.{IsFirstEmpty}
use Rattle.stream_cell.specs.declared.head.CellMet.{CellMet}
use Rattle.stream_cell.specs.declared.head.CellMet.TheVariants as answer
use Rattle.stream_cell.specs.declared.head.Uses.{Uses}

-- the last version
abbrev pub newest : History → Version
newest history = numbered history (length history - 1)

-- the opening tube as the first version
abbrev pub opened : Tube → History
opened tube = record { number = 0; maker = 0; stamp = 0; refs = []; tube = tube } ∷ []

-- A history that begins with this tube as version 0, which nobody made: at most 33 versions, all of them inside it, with stamps that
-- leave room for more.
pub record IsHistoryOf (opening : Tube) (history : History) : Type 0 where
  pub ordered : IsHistory history
  pub opens : Begins (opened opening) history
  pub few : length history ≤ 33
  pub inside : (k : ℕ) → k < length history → IsWithin (numbered history k).tube opening
  pub stamps : (newest history).stamp < 2 ^ 62 + length history

-- the version that a maker appends: the meet of the last version with the renewal, later than all that it was made from
abbrev pub next_version : History → ℕ → Tube → Uses → Version
next_version history maker renewal uses = record {
  number = length history;
  maker = maker;
  stamp = 1 + max uses.base (newest history).stamp;
  refs = uses.refs;
  tube = meet (newest history).tube renewal;
}

-- By the last version: a place has no number that both have, and this is the first; or the renewal narrows nothing; or it does, and
-- 33 versions are held; or it does, and the meet is appended. All but the last leave the history as it is.
abbrev pub Judges : CellMet → History → ℕ → Tube → Uses → History → Type 0
Judges answer.Busy old maker renewal uses new = ⊥
Judges (answer.Empty tick channel) old maker renewal uses new = IsFirstEmpty (newest old).tube renewal tick channel × (new ≡ old)
Judges (answer.Same number) old maker renewal uses new =
    HasNumbers (meet (newest old).tube renewal) × (is_within (newest old).tube renewal ≡ true)
    × (number ≡ (newest old).number) × (new ≡ old)
Judges (answer.Full number) old maker renewal uses new =
    HasNumbers (meet (newest old).tube renewal) × (is_within (newest old).tube renewal ≡ false)
    × (length old ≡ 33) × (number ≡ (newest old).number) × (new ≡ old)
Judges (answer.Narrowed number stamp) old maker renewal uses new =
    HasNumbers (meet (newest old).tube renewal) × (is_within (newest old).tube renewal ≡ false)
    × (length old < 33) × (number ≡ length old) × (stamp ≡ 1 + max uses.base (newest old).stamp)
    × (new ≡ old ++ next_version old maker renewal uses ∷ [])

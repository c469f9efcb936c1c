-- Passes of a cell: what they have seen of its history, and what they made in it.
use Rattle.std.specs.Prelude.{◌≡◌, ◌⊎◌, ◌&&◌, ◌<◌, ◌+◌, ◌∷◌, ◌++◌, ℕ, [], List, filter, length, map, nat_eq, nat_lt}
use Rattle.relaxation.specs.Tube.{Tube}
use Rattle.relaxation.specs.History.{Version, History, Begins}
use Rattle.stream_cell.specs.declared.head.CellMet.{CellMet}
use Rattle.stream_cell.specs.declared.head.CellMet.TheVariants as met
use Rattle.stream_cell.specs.declared.head.Look.{Look}
use Rattle.stream_cell.specs.declared.head.Look.TheVariants as shown
use Rattle.stream_cell.specs.declared.head.Uses.{Uses}
use Rattle.stream_cell.specs.declared.view.PassView.{PassView}
use Rattle.stream_cell.specs.declared.view.Turn.TheVariants.{Free}
use Rattle.stream_cell.specs.Histories.{newest, opened, IsHistoryOf, Judges}

-- the numbers of the versions above 0 that this pass made
abbrev pub made_by : ℕ → History → List ℕ
made_by pass history =
    map (λ (v : Version). v.number) (filter (λ (v : Version). nat_lt 0 v.number && nat_eq v.maker pass) history)

-- A pass of a history: it has seen how that begins, and what it made is what the history has of it, all of which it has seen.
pub record IsOf (history : History) (pass : PassView) : Type 0 where
  pub begins : Begins pass.seen history
  pub some : 0 < length pass.seen
  pub made : made_by pass.number history ≡ pass.made
  pub knows : made_by pass.number pass.seen ≡ pass.made

-- a pass of so many that has seen version 0 alone
abbrev pub new_pass : Tube → ℕ → ℕ → PassView
new_pass opening passes number =
    record { number = number; passes = passes; seen = opened opening; made = []; turn = Free; looks = 0; misses = 0 }

-- the same pass, once it found the turn taken
abbrev pub missed : PassView → PassView
missed v =
    record { number = v.number; passes = v.passes; seen = v.seen; made = v.made; turn = Free; looks = v.looks; misses = v.misses + 1 }

-- the same pass, once it read a history, which it has seen with what it made of it, and the turn is free again
abbrev pub looked : PassView → History → List ℕ → PassView
looked v history made = record {
  number = v.number;
  passes = v.passes;
  seen = history;
  made = v.made ++ made;
  turn = Free;
  looks = v.looks + 1;
  misses = v.misses;
}

-- What a look answers: busy, where it found the turn taken; or the last version of the history as it is, which begins with all that
-- the pass has seen.
abbrev pub Looks : Tube → Look → Tube → PassView → Tube → PassView → Type 0
Looks opening shown.Busy into old shows new = (shows ≡ into) × (new ≡ missed old)
Looks opening (shown.Seen number stamp) into old shows new =
    Begins old.seen new.seen × IsHistoryOf opening new.seen × IsOf new.seen new × (new ≡ looked old new.seen [])
    × (shows ≡ (newest new.seen).tube) × (number ≡ (newest new.seen).number) × (stamp ≡ (newest new.seen).stamp)

-- the number of the version that was made
abbrev pub made_of : CellMet → List ℕ
made_of met.Busy = []
made_of (met.Empty tick channel) = []
made_of (met.Same number) = []
made_of (met.Full number) = []
made_of (met.Narrowed number stamp) = number ∷ []

-- What meeting the last version with a renewal judges of the history as it is, which begins with all that the pass has seen.
abbrev pub JudgesNow : Tube → CellMet → PassView → Tube → Uses → PassView → Type 0
JudgesNow opening answer old renewal uses new =
    (history : History) × Begins old.seen history × IsHistoryOf opening history
    × Judges answer history old.number renewal uses new.seen
    × IsHistoryOf opening new.seen × IsOf new.seen new × (new ≡ looked old new.seen (made_of answer))

-- What it answers: busy, where it found the turn taken; or what it judges.
abbrev pub Meets : Tube → CellMet → PassView → Tube → Uses → PassView → Type 0
Meets opening answer old renewal uses new =
    ((answer ≡ met.Busy) × (new ≡ missed old)) ⊎ JudgesNow opening answer old renewal uses new

-- its number, and what it has seen and made, stay, and it does not have the turn
abbrev pub Stays : PassView → PassView → Type 0
Stays old new = (new.number ≡ old.number) × (new.seen ≡ old.seen) × (new.made ≡ old.made) × (new.turn ≡ Free)

-- the same answers, where it is not said why one is busy
abbrev pub LooksOrStays : Tube → Look → Tube → PassView → Tube → PassView → Type 0
LooksOrStays opening shown.Busy into old shows new = (shows ≡ into) × Stays old new
LooksOrStays opening (shown.Seen number stamp) into old shows new =
    Looks opening (shown.Seen number stamp) into old shows new

abbrev pub MeetsOrStays : Tube → CellMet → PassView → Tube → Uses → PassView → Type 0
MeetsOrStays opening answer old renewal uses new =
    ((answer ≡ met.Busy) × Stays old new) ⊎ JudgesNow opening answer old renewal uses new

-- Histories: what was made of each stream, by whom, when, and from which versions of its inputs.
use Rattle.std.specs.Prelude.{◌≡◌, ◌++◌, ℕ, ◌+◌, ◌<◌, List, [], ◌∷◌, length, map, slice_index_or}
use Rattle.flowsheet.specs.Plant.{Origin, feed, port, unit_at, origin_of}
use Rattle.relaxation.specs.Tube.{Tube, IsNarrower, meet}
use Rattle.relaxation.specs.Window.{Window, renewal}

pub record Version : Type 0 where
  pub number : ℕ
  pub maker : ℕ
  pub stamp : ℕ
  -- the numbers of the versions that it was made from, in port order
  pub refs : List ℕ
  pub tube : Tube

abbrev pub History : Type 0
History = List Version

abbrev pub no_version : Version
no_version = record { number = 0; maker = 0; stamp = 0; refs = []; tube = [] }

-- the version with a number
abbrev pub numbered : History → ℕ → Version
numbered history k = slice_index_or history k no_version

-- the history of a stream among those of all
abbrev pub history_of : List History → ℕ → History
history_of histories s = slice_index_or histories s []

-- Number i stands at position i. Each version after the opening one is strictly narrower than the one before, and has a greater stamp.
pub record IsHistory (history : History) : Type 0 where
  pub opened : 0 < length history
  pub numbers : (k : ℕ) → k < length history → (numbered history k).number ≡ k
  pub narrower : (k : ℕ) → k + 1 < length history → IsNarrower (numbered history (k + 1)).tube (numbered history k).tube
  pub later : (k : ℕ) → k + 1 < length history → (numbered history k).stamp < (numbered history (k + 1)).stamp

-- the versions with these numbers of these streams
abbrev pub read_versions : List History → List ℕ → List ℕ → List Version
read_versions histories [] refs = []
read_versions histories (s ∷ streams) [] = []
read_versions histories (s ∷ streams) (k ∷ refs) = numbered (history_of histories s) k ∷ read_versions histories streams refs

-- they are there, one for each stream, with stamps below this one
abbrev pub AreEarlier : List History → ℕ → List ℕ → List ℕ → Type 0
AreEarlier histories stamp [] [] = Unit {0}
AreEarlier histories stamp [] (k ∷ refs) = ⊥
AreEarlier histories stamp (s ∷ streams) [] = ⊥
AreEarlier histories stamp (s ∷ streams) (k ∷ refs) =
    (k < length (history_of histories s)) × ((numbered (history_of histories s) k).stamp < stamp) × AreEarlier histories stamp streams refs

-- the version was made of the one before it by the renewal from its refs, which are earlier
pub record IsMadeFrom (window : Window) (histories : List History) (u p : ℕ) (before made : Version) : Type 0 where
  pub refs : AreEarlier histories made.stamp (unit_at window.plant u).reads made.refs
  pub tube : made.tube ≡ meet before.tube (renewal window u p (map (λ (v : Version). v.tube) (read_versions histories (unit_at window.plant u).reads made.refs)))

-- the history of a stream, by what the stream comes from
abbrev pub IsSoundFrom : Window → List History → History → Origin → Type 0
IsSoundFrom window histories history (feed f) = length history ≡ 1
IsSoundFrom window histories history (port u p) =
    (k : ℕ) → k + 1 < length history → IsMadeFrom window histories u p (numbered history k) (numbered history (k + 1))

-- one history a stream, which begins with its opening tube, and each later version made from earlier ones
pub record AreSound (window : Window) (histories : List History) : Type 0 where
  pub counted : length histories ≡ length window.plant.streams
  pub history : (s : ℕ) → s < length histories → IsHistory (history_of histories s)
  pub opening : (s : ℕ) → s < length histories → (numbered (history_of histories s) 0).tube ≡ window.opening s
  pub made : (s : ℕ) → s < length histories → IsSoundFrom window histories (history_of histories s) (origin_of window.plant s)

-- the first begins the second
abbrev pub Begins : History → History → Type 0
Begins seen whole = (rest : History) × (whole ≡ seen ++ rest)

-- each stream's seen history begins its whole one
pub record AllBegin (seen whole : List History) : Type 0 where
  pub counted : length seen ≡ length whole
  pub begins : (s : ℕ) → s < length seen → Begins (history_of seen s) (history_of whole s)

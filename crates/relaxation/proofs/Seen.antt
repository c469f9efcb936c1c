-- Versions in a history that was seen are the same in the whole one.
use Rattle.std.proofs.Common.{◌≡◌, ℕ, ◌<◌, List, [], ◌∷◌, ◌++◌, length, map, refl, sym, ap, ap₂, ◌∙◌, subst, ⊎_elim, arith}
use Rattle.std.proofs.lemmas.Bool.{cases_lt}
use Rattle.std.proofs.lemmas.List.{length-append, get_or_append_left, get_or_past}
use Rattle.relaxation.specs.Tube.{meet}
use Rattle.relaxation.specs.Window.{Window, renewal}
use Rattle.flowsheet.specs.Plant.{unit_at}
use Rattle.relaxation.specs.History.{Version, History, no_version, numbered, history_of, read_versions, AreEarlier, IsMadeFrom, Begins, AllBegin}

-- a stream with a version is there
pub stream_there : (histories : List History) (s k : ℕ) → k < length (history_of histories s) → s < length histories
stream_there histories s k h = ⊎_elim (λ l. l)
    (λ l. let e : length (history_of histories s) ≡ 0 = ap length (get_or_past histories s [] l) in absurd (omega arith))
    (cases_lt s (length histories))

-- a version in what begins a history is there, and is the same
begins_there : (seen whole : History) (k : ℕ) → Begins seen whole → k < length seen → k < length whole
begins_there seen whole k b h = let e : length whole ≡ length (seen ++ b.0) = ap length b.1 in omega (arith, length-append seen b.0)

-- and is the same
begins_same : (seen whole : History) (k : ℕ) → Begins seen whole → k < length seen → numbered whole k ≡ numbered seen k
begins_same seen whole k b h = ap (λ l. numbered l k) b.1 ∙ get_or_append_left seen b.0 no_version k h

module _ (seen whole : List History) (begin : AllBegin seen whole) where
  -- so is each version of each stream
  seen_there : (s k : ℕ) → k < length (history_of seen s) → k < length (history_of whole s)
  seen_there s k h = begins_there _ _ k (begin.begins s (stream_there seen s k h)) h

  -- and is the same
  seen_same : (s k : ℕ) → k < length (history_of seen s) → numbered (history_of whole s) k ≡ numbered (history_of seen s) k
  seen_same s k h = begins_same _ _ k (begin.begins s (stream_there seen s k h)) h

  -- and all that a version refers to
  seen_earlier : (stamp : ℕ) (streams refs : List ℕ) → AreEarlier seen stamp streams refs → AreEarlier whole stamp streams refs
  seen_earlier stamp [] [] h = h
  seen_earlier stamp [] (k ∷ refs) h = h
  seen_earlier stamp (s ∷ streams) [] h = h
  seen_earlier stamp (s ∷ streams) (k ∷ refs) h =
      (seen_there s k h.0, subst (λ (v : Version). v.stamp < stamp) (sym (seen_same s k h.0)) h.1, seen_earlier stamp streams refs h.2)

  -- and the same versions are read
  seen_read : (stamp : ℕ) (streams refs : List ℕ) → AreEarlier seen stamp streams refs → read_versions whole streams refs ≡ read_versions seen streams refs
  seen_read stamp [] refs h = refl
  seen_read stamp (s ∷ streams) [] h = refl
  seen_read stamp (s ∷ streams) (k ∷ refs) h = ap₂ ◌∷◌ (seen_same s k h.0) (seen_read stamp streams refs h.2)

  -- so what is made from versions that were seen is made from the whole histories
  pub seen_made : (window : Window) (u p : ℕ) (before made : Version) → IsMadeFrom window seen u p before made → IsMadeFrom window whole u p before made
  seen_made window u p before made h = record {
    refs = seen_earlier made.stamp (unit_at window.plant u).reads made.refs h.refs;
    tube = subst (λ vs. made.tube ≡ meet before.tube (renewal window u p (map (λ (v : Version). v.tube) vs)))
        (sym (seen_read made.stamp (unit_at window.plant u).reads made.refs h.refs)) h.tube;
  }

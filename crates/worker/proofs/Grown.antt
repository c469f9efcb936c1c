-- What was seen stays, where each history that was seen begins a longer one.
use Rattle.std.proofs.Common.{◌≡◌, ◌∙◌, ℕ, suc, ◌+◌, ◌<◌, ◌≤◌, List, [], ◌∷◌, ◌++◌, length, map, length-append, refl, sym, ap, ap₂, subst, subst₂, arith}
use Rattle.std.specs.Prelude.{slice_index, slice_index_or}
use Rattle.std.proofs.lemmas.List.{get_or_append_left}
use Rattle.flowsheet.specs.Plant.{Origin, feed, port}
use Rattle.relaxation.specs.Tube.{Tube}
use Rattle.relaxation.specs.Window.{Window}
use Rattle.relaxation.specs.History.{Version, History, AllBegin, AreEarlier, Begins, IsMadeFrom, history_of, no_version, numbered, read_versions}
use Rattle.relaxation.proofs.Seen.{stream_there, seen_made}
use Rattle.worker.specs.Knowing.{IsNextMade}
use Rattle.worker.specs.Looking.{IsSeen, AreSeen}

-- a version of what begins a history is there, and is the same
pub begins-there : (seen whole : History) (k : ℕ) → Begins seen whole → k < length seen → k < length whole
begins-there seen whole k b h = let e : length whole ≡ length (seen ++ b.0) = ap length b.1 in omega (arith, length-append seen b.0)

pub begins-same : (seen whole : History) (k : ℕ) → Begins seen whole → k < length seen → numbered whole k ≡ numbered seen k
begins-same seen whole k b h = ap (λ (l : History). numbered l k) b.1 ∙ get_or_append_left seen b.0 no_version k h

-- it was seen with a stamp, and with a greater one
pub seen-below : (history : History) (number most more : ℕ) (tube : Tube) → most ≤ more →
    IsSeen history number most tube → IsSeen history number more tube
seen-below history number most more tube l h =
    let stamp = h.stamp in record { there = h.there; stamp = omega arith; tube_is = h.tube_is }

module _ (seen whole : List History) (begin : AllBegin seen whole) where
  pub seen-grown : (s number most : ℕ) (tube : Tube) → IsSeen (history_of seen s) number most tube →
      IsSeen (history_of whole s) number most tube
  seen-grown s number most tube h =
      let begins : Begins (history_of seen s) (history_of whole s) = begin.begins s (stream_there seen s number h.there) in
      let same : numbered (history_of whole s) number ≡ numbered (history_of seen s) number =
      begins-same (history_of seen s) (history_of whole s) number begins h.there in
      record {
        there = begins-there (history_of seen s) (history_of whole s) number begins h.there;
        stamp = subst (λ (v : Version). v.stamp ≤ most) (sym same) h.stamp;
        tube_is = h.tube_is ∙ ap (λ (v : Version). v.tube) (sym same);
      }

  pub all-seen-grown : (most : ℕ) (streams numbers : List ℕ) (tubes : List Tube) → AreSeen seen most streams numbers tubes →
      AreSeen whole most streams numbers tubes
  all-seen-grown most [] [] [] h = tt
  all-seen-grown most [] [] (tube ∷ tubes) h = absurd h
  all-seen-grown most [] (k ∷ numbers) tubes h = absurd h
  all-seen-grown most (s ∷ streams) [] tubes h = absurd h
  all-seen-grown most (s ∷ streams) (k ∷ numbers) [] h = absurd h
  all-seen-grown most (s ∷ streams) (k ∷ numbers) (tube ∷ tubes) h =
      (seen-grown s k most tube h.0, all-seen-grown most streams numbers tubes h.1)

  -- what was made from it is made from the longer ones
  pub next-grown : (window : Window) (history : History) (origin : Origin) (k : ℕ) → IsNextMade window seen history origin k →
      IsNextMade window whole history origin k
  next-grown window history (feed f) k h = absurd h
  next-grown window history (port u p) k h =
      seen_made seen whole begin window u p (numbered history k) (numbered history (k + 1)) h

-- the same two versions in another history
pub next-same : (window : Window) (histories : List History) (history other : History) (origin : Origin) (k : ℕ) →
    numbered other k ≡ numbered history k → numbered other (k + 1) ≡ numbered history (k + 1) →
    IsNextMade window histories history origin k → IsNextMade window histories other origin k
next-same window histories history other (feed f) k e d h = absurd h
next-same window histories history other (port u p) k e d h =
    subst₂ (IsMadeFrom window histories u p) (sym e) (sym d) h

module _ (histories : List History) where
  -- each is there, port by port
  pub all-seen : (most : ℕ) (streams numbers : List ℕ) (tubes : List Tube) → length numbers ≡ length streams →
      length tubes ≡ length streams →
      ((p : ℕ) → p < length streams →
      IsSeen (history_of histories (slice_index streams p)) (slice_index numbers p) most (slice_index_or tubes p [])) →
      AreSeen histories most streams numbers tubes
  all-seen most [] [] [] e d h = tt
  all-seen most [] [] (tube ∷ tubes) e d h = absurd (omega arith)
  all-seen most [] (k ∷ numbers) tubes e d h = absurd (omega arith)
  all-seen most (s ∷ streams) [] tubes e d h = absurd (omega arith)
  all-seen most (s ∷ streams) (k ∷ numbers) [] e d h = absurd (omega arith)
  all-seen most (s ∷ streams) (k ∷ numbers) (tube ∷ tubes) e d h =
      (h 0 (omega arith), all-seen most streams numbers tubes (omega arith) (omega arith) (λ p l. h (suc p) (omega arith)))

  -- they are earlier than a version with a greater stamp
  pub seen-earlier : (most stamp : ℕ) (streams numbers : List ℕ) (tubes : List Tube) → most < stamp →
      AreSeen histories most streams numbers tubes → AreEarlier histories stamp streams numbers
  seen-earlier most stamp [] [] [] l h = tt
  seen-earlier most stamp [] [] (tube ∷ tubes) l h = absurd h
  seen-earlier most stamp [] (k ∷ numbers) tubes l h = absurd h
  seen-earlier most stamp (s ∷ streams) [] tubes l h = absurd h
  seen-earlier most stamp (s ∷ streams) (k ∷ numbers) [] l h = absurd h
  seen-earlier most stamp (s ∷ streams) (k ∷ numbers) (tube ∷ tubes) l h =
      let below = (h.0).stamp in
      ((h.0).there, omega arith, seen-earlier most stamp streams numbers tubes l h.1)

  -- and these are their tubes
  pub seen-tubes : (most : ℕ) (streams numbers : List ℕ) (tubes : List Tube) → AreSeen histories most streams numbers tubes →
      tubes ≡ map (λ (v : Version). v.tube) (read_versions histories streams numbers)
  seen-tubes most [] [] [] h = refl
  seen-tubes most [] [] (tube ∷ tubes) h = absurd h
  seen-tubes most [] (k ∷ numbers) tubes h = absurd h
  seen-tubes most (s ∷ streams) [] tubes h = absurd h
  seen-tubes most (s ∷ streams) (k ∷ numbers) [] h = absurd h
  seen-tubes most (s ∷ streams) (k ∷ numbers) (tube ∷ tubes) h =
      ap₂ ◌∷◌ (h.0).tube_is (seen-tubes most streams numbers tubes h.1)

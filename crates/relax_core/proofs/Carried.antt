-- The last versions of what a unit reads, by their numbers and in the window that a board leaves.
use Rattle.std.proofs.Common.{◌≡◌, ◌∙◌, ℕ, ◌+◌, ◌<◌, List, [], ◌∷◌, ◌++◌, length, map, slice_index_or}
use Rattle.std.proofs.Common.{refl, sym, ap, arith}
use Rattle.std.specs.List.{range_with_len, AllByRecursion}
use Rattle.std.proofs.lemmas.List.FromFn.{get_or-map-range_with_len, map-range_with_len_more}
use Rattle.quant.specs.Interval.{Interval}
use Rattle.quant.proofs.Calls.{same_cons}
use Rattle.relaxation.specs.Tube.{Tube, at}
use Rattle.relaxation.specs.Core.{Versions, versions_of, last_of, last_numbers, named, AreThere}
use Rattle.relaxation.proofs.LastSteps.{named-last}
use Rattle.plant_streams.specs.Streams.{streams_of}
use Rattle.plant_units.specs.Units.{units_of}
use Rattle.renewal.specs.Room.{RenewalOf, planned, renewal_of}
use Rattle.renewal.specs.Carrying.{read_by}
use Rattle.relax_core.specs.Board.{BoardOf, IsBoard}
use Rattle.relax_core.specs.Settled.{window_on}
use Rattle.relax_core.specs.UnitStates.{carried_by}
use Rattle.relax_core.proofs.Boards.{streams-there, some-version}
use Rattle.relax_core.proofs.Turning.{reads-there}

-- the states after a renewal of a board's unit
abbrev last_states : BoardOf → ℕ → List ℕ → List Interval
last_states board u numbers =
    at (renewal_of board.plan u (named board.versions (planned board.plan u).reads numbers)).states board.plan.ticks

pub states-renewed : (board seen : BoardOf) → board ≡ seen → (u : ℕ) (numbers : List ℕ) (outputs : RenewalOf)
    (states : Tube) (n : ℕ) (row : List Interval) →
    outputs ≡ renewal_of board.plan u (named board.versions (planned board.plan u).reads numbers) →
    states ≡ outputs.states → n ≡ board.plan.ticks → row ≡ at states n → row ≡ last_states seen u numbers
states-renewed board seen e u numbers outputs states n row renewed is ticks found =
    found ∙ ap (at states) ticks ∙ ap (λ (tube : Tube). at tube board.plan.ticks) is
    ∙ ap (λ (made : RenewalOf). at made.states board.plan.ticks) renewed
    ∙ ap (λ (b : BoardOf). last_states b u numbers) e

-- the last versions of these streams
lasts-read : (versions : Versions) (tubes : List Tube) (n : ℕ) (streams : List ℕ) →
    AllByRecursion (λ s. s < n) streams → ((s : ℕ) → s < n → slice_index_or tubes s [] ≡ last_of versions s) →
    map (last_of versions) streams ≡ map (λ s. slice_index_or tubes s []) streams
lasts-read versions tubes n [] h are = refl
lasts-read versions tubes n (s ∷ streams) h are =
    same_cons _ _ _ _ (sym (are s h.0)) (lasts-read versions tubes n streams h.1 are)

lasts-there : (versions : Versions) (n : ℕ) (streams : List ℕ) → AllByRecursion (λ s. s < n) streams →
    ((s : ℕ) → s < n → 0 < length (versions_of versions s)) → AreThere versions streams (last_numbers versions streams)
lasts-there versions n [] h some = tt
lasts-there versions n (s ∷ streams) h some = (omega (arith, some s h.0), lasts-there versions n streams h.1 some)

module _ (board : BoardOf) (is : IsBoard board) (u : ℕ) (l : u < length (units_of board.plan.parts)) where
  -- the last versions of what a unit reads are there
  pub last-there : AreThere board.versions (planned board.plan u).reads
      (last_numbers board.versions (planned board.plan u).reads)
  last-there = lasts-there board.versions (length (streams_of board.plan.parts)) (planned board.plan u).reads
      (reads-there board.plan u is.plan l) (some-version board is)

  -- and stand in the window that the board leaves
  pub last-read : named board.versions (planned board.plan u).reads
      (last_numbers board.versions (planned board.plan u).reads) ≡ read_by board.plan u (window_on board).tubes
  last-read = named-last board.versions (planned board.plan u).reads
      ∙ lasts-read board.versions (window_on board).tubes (length (streams_of board.plan.parts))
      (planned board.plan u).reads (reads-there board.plan u is.plan l)
      (λ s m. get_or-map-range_with_len (last_of board.versions) 0 (length board.versions) s s []
      (omega (arith, m, streams-there board is)) (omega arith))

-- the states of one unit more
pub units-more : (old board : BoardOf) → board ≡ old → (n : ℕ) (units more : List (List Interval))
    (states : List Interval) → units ≡ map (carried_by old) (range_with_len 0 n) → states ≡ carried_by board n →
    more ≡ units ++ states ∷ [] → more ≡ map (carried_by old) (range_with_len 0 (n + 1))
units-more old board e n units more states front last is =
    is
    ∙ ap (λ (list : List (List Interval)). list ++ states ∷ []) front
    ∙ ap (λ (row : List Interval). map (carried_by old) (range_with_len 0 n) ++ row ∷ [])
    (last ∙ ap (λ (b : BoardOf). carried_by b n) e)
    ∙ sym (map-range_with_len_more (carried_by old) 0 n n (omega arith))

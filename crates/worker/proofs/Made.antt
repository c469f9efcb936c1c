-- What a look shows is a version that was seen, and the meet with a renewal from such versions is made from them.
use Rattle.std.proofs.Common.{◌≡◌, ◌∙◌, ℕ, ◌+◌, ◌-◌, ◌<◌, ◌≤◌, List, [], ◌∷◌, ◌++◌, length, max, sym, ap, subst, subst₂, arith}
use Rattle.std.proofs.lemmas.List.{get_or_append_left, get_or_push}
use Rattle.flowsheet.specs.Plant.{Origin, origin_of}
use Rattle.relaxation.specs.Tube.{Tube, IsWithin, meet}
use Rattle.relaxation.specs.Window.{renewal}
use Rattle.relaxation.specs.History.{Version, History, IsMadeFrom, no_version, numbered}
use Rattle.plant.specs.PlantOf.{plant_of}
use Rattle.renewal.specs.Plan.{PlanOf, window_of}
use Rattle.renewal.specs.Room.{planned}
use Rattle.stream_cell.specs.declared.head.Look.{Look}
use Rattle.stream_cell.specs.declared.head.Look.TheVariants as shown
use Rattle.stream_cell.specs.declared.head.Uses.{Uses}
use Rattle.stream_cell.specs.declared.view.PassView.{PassView}
use Rattle.stream_cell.specs.Histories.{IsHistoryOf, newest, next_version}
use Rattle.stream_cell.specs.Passes.{LooksOrStays}
use Rattle.worker.specs.Knowing.{IsNextMade}
use Rattle.worker.specs.Looking.{IsMadeOf, IsSeen, Shows}
use Rattle.worker.proofs.Grown.{seen-earlier, seen-tubes}

-- the last version is there
last-seen : (opening : Tube) (history : History) (number stamp : ℕ) (tube : Tube) → IsHistoryOf opening history →
    number ≡ (newest history).number → stamp ≡ (newest history).stamp → tube ≡ (newest history).tube → IsSeen history number stamp tube
last-seen opening history number stamp tube is n s t =
    let some : 0 < length history = is.ordered.opened in
    let last : length history - 1 < length history = omega arith in
    let at : number ≡ length history - 1 = n ∙ is.ordered.numbers (length history - 1) last in
    record {
      there = omega arith;
      stamp = subst (λ i. (numbered history i).stamp ≤ stamp) (sym at) (omega arith);
      tube_is = t ∙ ap (λ i. (numbered history i).tube) (sym at);
    }

-- what a look shows
pub look-shows : (opening : Tube) (answer : Look) (into shows : Tube) (old new : PassView) → LooksOrStays opening answer into old shows new →
    Shows answer new.seen into shows
look-shows opening shown.Busy into shows old new h = h.0
look-shows opening (shown.Seen number stamp) into shows old new h =
    last-seen opening new.seen number stamp shows h.1 h.5 h.6 h.4

-- it lies in the opening tube
pub seen-within : (opening : Tube) (history : History) (number most : ℕ) (tube : Tube) → IsHistoryOf opening history →
    IsSeen history number most tube → IsWithin tube opening
seen-within opening history number most tube is h = subst (λ (t : Tube). IsWithin t opening) (sym h.tube_is) (is.inside number h.there)

pub shown-within : (opening : Tube) (answer : Look) (history : History) (into shows : Tube) → IsHistoryOf opening history →
    IsWithin into opening → Shows answer history into shows → IsWithin shows opening
shown-within opening shown.Busy history into shows is within h = subst (λ (t : Tube). IsWithin t opening) (sym h) within
shown-within opening (shown.Seen number stamp) history into shows is within h = seen-within opening history number stamp shows is h

-- the meet of a version with a renewal is made from what the renewal was made from
version-made : (plan : PlanOf) (histories : List History) (s : ℕ) (uses : Uses) (made : Tube) (m : IsMadeOf plan histories s uses made) →
    (history : History) (maker : ℕ) →
    IsMadeFrom (window_of plan) histories m.unit m.output (newest history) (next_version history maker made uses)
version-made plan histories s uses made m history maker = record {
  refs = seen-earlier histories uses.base (1 + max uses.base (newest history).stamp) (planned plan m.unit).reads uses.refs m.tubes
      (omega arith) m.seen;
  tube = ap (meet (newest history).tube) m.renewed
      ∙ ap (λ (tubes : List Tube). meet (newest history).tube (renewal (window_of plan) m.unit m.output tubes))
      (seen-tubes histories uses.base (planned plan m.unit).reads uses.refs m.tubes m.seen);
}

pub next-made : (plan : PlanOf) (histories : List History) (s : ℕ) (uses : Uses) (made : Tube) → IsMadeOf plan histories s uses made →
    (maker : ℕ) (history : History) → 0 < length history →
    IsNextMade (window_of plan) histories (history ++ next_version history maker made uses ∷ []) (origin_of (plant_of plan.parts) s)
    (length history - 1)
next-made plan histories s uses made m maker history some =
    let next : Version = next_version history maker made uses in
    let all : History = history ++ next ∷ [] in
    let before : numbered all (length history - 1) ≡ newest history =
    get_or_append_left history (next ∷ []) no_version (length history - 1) (omega arith) in
    let after : numbered all (length history - 1 + 1) ≡ next =
    get_or_push history next no_version (length history - 1 + 1) (omega arith) in
    subst (λ (origin : Origin). IsNextMade (window_of plan) histories all origin (length history - 1)) (sym m.origin)
    (subst₂ (IsMadeFrom (window_of plan) histories m.unit m.output) (sym before) (sym after)
    (version-made plan histories s uses made m history maker))

-- What a unit's renewal gives.
use Rattle.std.proofs.Common.{◌≡◌, ℕ, ◌<◌, List, [], length, ap, ◌∙◌, arith}
use Rattle.std.specs.Prelude.{slice_index_or}
use Rattle.std.proofs.lemmas.List.FromFn.{get_or-map-range_with_len, length-map-range_with_len}
use Rattle.relaxation.specs.Tube.{Tube}
use Rattle.relaxation.specs.Window.{renewal}
use Rattle.renewal.specs.Plan.{PlanOf, window_of}
use Rattle.renewal.specs.Room.{RenewalOf, renewal_of, planned}

-- the tube of an output
abbrev port-tube : PlanOf → ℕ → List Tube → ℕ → Tube
port-tube plan u tubes p = renewal (window_of plan) u p tubes

pub ports-counted : (plan : PlanOf) (u : ℕ) (tubes : List Tube) (made : RenewalOf) → made ≡ renewal_of plan u tubes →
    length made.ports ≡ length (planned plan u).view
ports-counted plan u tubes made e = ap (λ (m : RenewalOf). length m.ports) e
    ∙ length-map-range_with_len (port-tube plan u tubes) 0 (length (planned plan u).view)

pub port-is : (plan : PlanOf) (u : ℕ) (tubes : List Tube) (made : RenewalOf) (p : ℕ) (tube : Tube) → made ≡ renewal_of plan u tubes →
    tube ≡ slice_index_or made.ports p [] → p < length (planned plan u).view → tube ≡ renewal (window_of plan) u p tubes
port-is plan u tubes made p tube e k l = k ∙ ap (λ (m : RenewalOf). slice_index_or m.ports p []) e
    ∙ get_or-map-range_with_len (port-tube plan u tubes) 0 (length (planned plan u).view) p p [] l (omega arith)

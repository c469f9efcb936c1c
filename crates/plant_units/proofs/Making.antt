-- What a unit of each kind is made with.
use Rattle.std.proofs.Common.{◌≡◌, ℕ, List, length, map, refl}
use Rattle.quant.specs.declared.limits.Limits.{Limits}
use Rattle.parts.specs.declared.units.KindPart.{KindPart}
use Rattle.parts.specs.declared.units.KindPart.TheVariants as part
use Rattle.plant_streams.specs.Streams.{ports_of}
use Rattle.plant_streams.specs.Limits.{channel_limits}
use Rattle.plant_units.specs.declared.units.Unit.{Unit}
use Rattle.plant_units.specs.Units.{made_unit, reads_of, gives_of, view_of, output_limits_of}

-- it reads and gives these streams, and shows itself at each of its ports, under the limits of its channels
pub record IsMade (limits : Limits) (inputs outputs : List ℕ) (kind : KindPart) (x : Unit) : Type 0 where
  pub reads : reads_of x ≡ inputs
  pub gives : gives_of x ≡ outputs
  pub limited : map (λ port. channel_limits limits port.signal) (ports_of kind) ≡ output_limits_of x
  pub viewed : length (ports_of kind) ≡ length (view_of x)

pub is_made : (name : List ℕ) (limits : Limits) (inputs outputs : List ℕ) (kind : KindPart) →
    IsMade limits inputs outputs kind (made_unit name limits inputs outputs kind)
unfolding made_unit ports_of
is_made name limits inputs outputs (part.Tank _ _ _ _ _ _ _) =
    record { reads = refl; gives = refl; limited = refl; viewed = refl }
is_made name limits inputs outputs (part.Reactor _ _ _ _ _ _ _ _ _ _ _) =
    record { reads = refl; gives = refl; limited = refl; viewed = refl }
is_made name limits inputs outputs (part.Column _ _ _ _ _ _ _ _ _ _) =
    record { reads = refl; gives = refl; limited = refl; viewed = refl }
is_made name limits inputs outputs (part.Controller _ _ _ _ _ _ _ _) =
    record { reads = refl; gives = refl; limited = refl; viewed = refl }
is_made name limits inputs outputs (part.Mixer _) =
    record { reads = refl; gives = refl; limited = refl; viewed = refl }
is_made name limits inputs outputs (part.Splitter _ _) =
    record { reads = refl; gives = refl; limited = refl; viewed = refl }

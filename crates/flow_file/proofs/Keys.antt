-- Keys among those that are known.
use Rattle.std.proofs.Common.{◌≡◌, Bor, List, [], ◌∷◌, ◌||◌, bytes_eq, refl, ap}
use Rattle.std.specs.List.{list_any}
use Rattle.flow_file.specs.Value.{Bytes}
use Rattle.flow_file.specs.Spots.{texts}

-- a key is among texts
pub any_text : (key : Bytes) (known : List (Bor Bytes))
    → list_any (bytes_eq key) (texts known) ≡ list_any (λ name. bytes_eq key name.now) known
any_text key [] = refl
any_text key (name ∷ known) = ap (λ b. bytes_eq key name.now || b) (any_text key known)

-- Splitting a text at its first dot.
use Rattle.std.proofs.Common.{◌≡◌, ◌<◌, ℕ, List, length, Option, MatchOption, arith}
use Rattle.std.specs.List.{position_or_len, before_first, after_first}
use Rattle.std.specs.Borrow.{Bor}
use Rattle.std.proofs.lemmas.Str.Pattern.{IsSplitOnceResult, split_once_first}
use Rattle.plant_names.specs.Name.{is_dot}

pub split_at_dot : (bytes : List ℕ) (r : Option (Bor (List ℕ) × Bor (List ℕ))) → IsSplitOnceResult 46 bytes r →
    MatchOption r (position_or_len is_dot bytes ≡ length bytes)
    (λ x. (position_or_len is_dot bytes < length bytes) × (x.0.now ≡ before_first is_dot bytes) × (x.1.now ≡ after_first is_dot bytes))
split_at_dot bytes r h = split_once_first 46 bytes r h (omega arith)

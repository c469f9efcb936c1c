-- The ranks of units, by how far back their inputs come from.
use Rattle.std.specs.Prelude.{ℕ, zero, suc, max, List, length, fold, map, if◌then◌else◌}
use Rattle.std.specs.List.{range_with_len}
use Rattle.topology.specs.Links.{LinkLists, is_instant, reads_of}

-- the rank of a unit, where so many steps back are looked at
abbrev pub rank_within : LinkLists → ℕ → ℕ → ℕ
rank_within links zero u = 0
rank_within links (suc n) u =
    if is_instant links u then suc (fold max 0 (map (rank_within links n) (reads_of links u))) else 0

-- the ranks of all units: no way back through instant units that do not reach themselves is longer than their number
unfoldable pub ranks_in : LinkLists → List ℕ
ranks_in links = map (rank_within links (length links.instant)) (range_with_len 0 (length links.instant))

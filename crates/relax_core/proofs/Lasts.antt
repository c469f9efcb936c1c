-- The last version of each stream, line by line.
use Rattle.std.proofs.Common.{◌≡◌, ◌∙◌, ◌-◌, ◌<◌, List, [], length, map, slice_index_or, sym, subst, arith}
use Rattle.std.specs.List.{range_with_len}
use Rattle.std.proofs.lemmas.List.{ext_get_or, get_or-map, length-map}
use Rattle.std.proofs.lemmas.List.FromFn.{get_or-map-range_with_len, length-map-range_with_len}
use Rattle.relaxation.specs.Tube.{Tube}
use Rattle.relaxation.specs.Core.{Versions, last_of}

-- the last version of a line
abbrev pub last_in : List Tube → Tube
last_in line = slice_index_or line (length line - 1) []

-- the last versions, stream by stream
pub lasts-are : (lines : Versions) → map last_in lines ≡ map (last_of lines) (range_with_len 0 (length lines))
lasts-are lines = ext_get_or [] (map last_in lines) (map (last_of lines) (range_with_len 0 (length lines)))
    (length-map lines last_in ∙ sym (length-map-range_with_len (last_of lines) 0 (length lines)))
    (λ s l.
    let there : s < length lines = subst (λ n. s < n) (length-map lines last_in) l in
    get_or-map last_in lines s [] [] there
    ∙ sym (get_or-map-range_with_len (last_of lines) 0 (length lines) s s [] there (omega arith)))

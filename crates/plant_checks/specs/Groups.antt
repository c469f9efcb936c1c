-- Words of the proofs: a reader of the contracts needs none of them.
-- All checks of a plant's parts, in groups.
use Rattle.parts.specs.Parts.{FileParts}
use Rattle.plant_streams.specs.Streams.{streams_of}
use Rattle.plant_checks.specs.Checks.{Checked, ◌>>◌, each, names_of, name_check, source_check, port_check, limits_check}
use Rattle.plant_checks.specs.Checks.{own_limits_check, opening_check, feed_pieces_check, feed_inside_check, rate_check}
use Rattle.plant_checks.specs.Checks.{column_check}

abbrev pub names_checked : FileParts → Checked
names_checked parts = each (name_check (names_of parts)) 0 (names_of parts)

abbrev pub references_checked : FileParts → Checked
references_checked parts =
    each (source_check (streams_of parts)) 0 parts.units >> each (port_check (streams_of parts)) 0 parts.units

abbrev pub bands_checked : FileParts → Checked
bands_checked parts =
    limits_check parts.limits
    >> (each own_limits_check 0 parts.units >> each (opening_check parts.limits) 0 parts.units)

abbrev pub feeds_checked : FileParts → Checked
feeds_checked parts =
    each (λ f feed. feed_pieces_check f feed.kind) 0 parts.feeds
    >> each (feed_inside_check parts.limits) 0 parts.feeds

abbrev pub units_checked : FileParts → Checked
units_checked parts = each rate_check 0 parts.units >> each (column_check parts) 0 parts.units

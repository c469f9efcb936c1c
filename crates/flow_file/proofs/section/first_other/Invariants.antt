use Rattle.std.proofs.Common.{◌≡◌}
use Rattle.toml.specs.View.{members_view, table_view}
use Rattle.flow_file.specs.Value.{first_other}
use Rattle.flow_file.specs.Spots.{texts}
use Rattle.flow_file.proofs.section.first_other.Given as goal

abbrev pub invariant-loop-key : goal.invariant-loop-key
invariant-loop-key l =
    first_other (texts l.known) (members_view l.key-iterator) ≡ first_other (texts l.known) (table_view l.table)

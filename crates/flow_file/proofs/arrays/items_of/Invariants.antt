use Rattle.std.proofs.Common.{◌≡◌, length, drop}
use Rattle.std.specs.List.{AllByRecursion}
use Rattle.toml.specs.View.{items_view}
use Rattle.flow_file.specs.Value.{read_from}
use Rattle.flow_file.proofs.Loop.{with_front}
use Rattle.flow_file.proofs.arrays.items_of.Given as goal

abbrev pub invariant-loop-index : goal.invariant-loop-index
invariant-loop-index g l =
    let reads = g.R.Reader.reads l.reader in
    let whole = items_view l.array.items in
    let rest = items_view (drop l.index l.array.items) in
    record {
      exact : with_front l.items.items (read_from reads l.place l.index rest) ≡ read_from reads l.place 0 whole;
      length : length l.items.items ≡ l.index;
      inside : AllByRecursion (g.R.Reader.may_be l.reader) l.items.items;
    }

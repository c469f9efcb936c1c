-- The feeds' bands are inside their limits, so the row stays one.
use Rattle.std.proofs.Common.{◌≡◌, List, length, sym, subst, ◌∙◌}
use Rattle.std.proofs.lemmas.List.{with_items_is}
use Rattle.quant.specs.Interval.{Interval}
use Rattle.plant.specs.Rows.{RowBands, IsRow}
use Rattle.plant.specs.Steps.{HaveGiven}
use Rattle.plant.proofs.Givens.{row-given}
use Rattle.plant.proofs.plant.Plant.set_given.Goals as goal

pub returns-clause-row : goal.returns-clause-row
returns-clause-row c =
    let parts = c.args.self.now in
    let before : RowBands = record { states = c.row.inside.states.items; streams = c.row.inside.streams.items } in
    let is : before ≡ c.args.row.now = c.row.view_is in
    let same = with_items_is c.row.inside.streams c.give_feeds.new.streams
    (c.give_feeds.auto.streams ∙ c.deref_mut.ensures.len) in
    let given =
    subst (λ (ss : List (List Interval)). HaveGiven parts c.args.tick (length parts.feeds) ss
    c.give_feeds.new.streams) c.deref_mut.ensures.value c.give_feeds.ensures in
    let row = subst (IsRow parts) (sym is) c.requires in
    subst (λ (ss : List (List Interval)). IsRow parts (record { states = c.row.inside.states.items; streams = ss }))
    (sym same)
    (row-given parts c.args.tick before c.give_feeds.new.streams c.fed.ensures row given)

use Rattle.std.proofs.Common.{ap, sym, ◌∙◌, length, add-one, arith}
use Rattle.topology.specs.Rising.{greatest}
use Rattle.topology.proofs.Paths.{reads_there}
use Rattle.topology.proofs.Ascents.{register_right, endless, greatest_few, raised_rise}
use Rattle.topology.proofs.rise.raise.Goals as goal

pub returns-then-not-is_instant-clause-right : goal.returns-then-not-is_instant-clause-right
returns-then-not-is_instant-clause-right c =
    λ _. register_right c.args.links.now c.args.ranks.now c.args.unit c.requires.rising
    (sym c.is_instant.ensures ∙ c.if-not-is_instant.true)

pub greatest_rank-greatest-requires : goal.greatest_rank-greatest-requires
greatest_rank-greatest-requires c =
    reads_there c.args.links.now c.args.unit
    (length c.args.ranks.now) c.reads.result.now c.requires.links c.requires.there c.reads.ensures
    c.requires.rising.counted

pub returns-then-greatest-units-clause-endless : goal.returns-then-greatest-units-clause-endless
returns-then-greatest-units-clause-endless c =
    λ _. endless c.args.links.now c.args.ranks.now c.args.unit c.greatest_rank-greatest.result c.units.result
    c.requires.rising
    (sym c.is_instant.ensures ∙ c.if-not-is_instant.false)
    (c.greatest_rank-greatest.ensures ∙ ap (greatest c.args.ranks.now) c.reads.ensures) c.if-greatest-units.true
    c.units.ensures

pub overflow_add-greatest : goal.overflow_add-greatest
overflow_add-greatest c = omega
    (arith, greatest_few c.args.links.now c.args.ranks.now c.reads.result.now c.requires.rising, c.requires.links.few)

pub overflow_add-ranks : goal.overflow_add-ranks
overflow_add-ranks c = omega
    (arith, greatest_few c.args.links.now c.args.ranks.now c.reads.result.now c.requires.rising, c.requires.links.few)

pub returns-clause-rising : goal.returns-clause-rising
returns-clause-rising c =
    rw add-one (raised_rise c.args.links.now c.args.ranks.now c.args.unit c.greatest_rank-greatest.result
    c.requires.rising c.requires.there
    (sym c.is_instant.ensures ∙ c.if-not-is_instant.false)
    (c.greatest_rank-greatest.ensures ∙ ap (greatest c.args.ranks.now) c.reads.ensures)
    (λ e. c.if-greatest-units.false (e ∙ sym c.units.ensures)))

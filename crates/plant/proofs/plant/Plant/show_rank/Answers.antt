-- One unit more of the rank has shown itself, or it is of another rank.
use Rattle.std.proofs.Common.{◌≡◌, ◌≢◌, ◌<◌, ◌+◌, List, length, sym, ap, subst, ◌∙◌, arith}
use Rattle.std.specs.Prelude.{slice_index}
use Rattle.quant.specs.Interval.{Interval}
use Rattle.plant.specs.Steps.{rank_at, HaveShown, AreKept}
use Rattle.plant_units.specs.Units.{units_of}
use Rattle.plant.proofs.Rounds.{ready, kept-after, kept-more, have_shown-skip, have_shown-more, have_shown-rank}
use Rattle.plant.proofs.plant.Plant.show_rank.Goals as goal
use Rattle.plant.proofs.plant.Plant.show_rank.Goals.{then-ranks-number, else-ranks-number}

pub show_unit-requires-clause-inputs : goal.show_unit-requires-clause-inputs
show_unit-requires-clause-inputs c =
    let parts = c.args.self.now in
    let n = c.loop-number.number in
    let e : rank_at parts n ≡ c.args.rank =
    sym (ap (λ rs. slice_index rs n) c.ranks.ensures.ranks) ∙ c.if-ranks-number.true in
    ready parts c.args.rank n c.args.states.now c.loop-number.streams c.sound.ensures c.ranked.ensures.ranked
    c.loop-number.invariant.0
    (omega (arith, c.loop-number-test.true, c.requires.row.counted)) e

pub loop-number-preserved : goal.loop-number-preserved
loop-number-preserved c =
    let parts = c.args.self.now in
    let n = c.loop-number.number in
    let rank = c.args.rank in
    let states = c.args.states.now in
    let now = c.loop-number.streams in
    let within : n < length (units_of parts) = omega (arith, c.loop-number-test.true, c.requires.row.counted) in
    elim c.if-ranks-number.branch [
      | then-ranks-number w ↦
          let e : rank_at parts n ≡ rank =
          sym (ap (λ rs. slice_index rs n) c.ranks.ensures.ranks) ∙ w.if-ranks-number.true in
          let after = w.show_unit.new.streams in
          let more = have_shown-more parts rank n states now after c.sound.ensures c.ranked.ensures.ranked within e
          c.loop-number.invariant.0
          w.show_unit.ensures.row w.show_unit.ensures.shown in
          let kept = kept-more parts c.args.streams.now now after c.loop-number.invariant.1
          (kept-after parts n states now after c.sound.ensures w.show_unit.ensures.shown) in
          subst (λ (ss : List (List Interval)). HaveShown parts rank (n + 1) states ss
          × AreKept parts c.args.streams.now ss) (sym w.streams-is) (more, kept)
      | else-ranks-number w ↦
          let ne : rank_at parts n ≢ rank =
          λ e. w.if-ranks-number.false (ap (λ rs. slice_index rs n) c.ranks.ensures.ranks ∙ e) in
          subst (λ (ss : List (List Interval)). HaveShown parts rank (n + 1) states ss
          × AreKept parts c.args.streams.now ss) (sym w.streams-is)
          (have_shown-skip parts rank n states now ne c.loop-number.invariant.0, c.loop-number.invariant.1)
    ]

pub returns-clause-shown : goal.returns-clause-shown
returns-clause-shown c =
    let parts = c.args.self.now in
    have_shown-rank parts c.args.rank c.args.states.now c.loop-number.streams c.sound.ensures
    (subst (λ n. HaveShown parts c.args.rank n c.args.states.now c.loop-number.streams)
    (omega (arith, c.loop-number-test.false, c.loop-number.auto.number-end, c.requires.row.counted))
    c.loop-number.invariant.0)

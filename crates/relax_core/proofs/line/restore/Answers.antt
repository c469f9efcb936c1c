-- A tick is restored, and those after it are left.
use Rattle.std.proofs.Common.{◌≡◌, ◌∙◌, ◌+◌, ◌<◌, ◌≤◌, List, length, take, drop, sym, ap, arith, length-set}
use Rattle.std.specs.Prelude.{slice_set}
use Rattle.std.proofs.lemmas.List.{length-drop}
use Rattle.quant.specs.Interval.{Interval}
use Rattle.relaxation.specs.Tube.{Tube, at}
use Rattle.relax_core.specs.Versions.{bands_from, restored}
use Rattle.relax_core.proofs.Changes.{bands-split, bands-over, restored-next, restored-end}
use Rattle.relax_core.proofs.line.restore.Goals as goal

pub split_at-requires : goal.split_at-requires
split_at-requires c =
    let tube = c.loop-tick.tube in
    let tick = c.loop-tick.tick in
    let there : tick < length tube = omega (arith, c.loop-tick-test.true, c.ticks-tick-end.ensures, c.loop-tick.invariant.2) in
    omega (arith, bands-split tick tube there, c.loop-tick.invariant.1, ap length c.row.ensures)

pub loop-tick-preserved : goal.loop-tick-preserved
loop-tick-preserved c =
    let tube = c.loop-tick.tube in
    let tick = c.loop-tick.tick in
    let rest = c.loop-tick.rest.now in
    let front = c.split_at.result.0.now in
    let back = c.split_at.result.1.now in
    let there : tick < length tube = omega (arith, c.loop-tick-test.true, c.ticks-tick-end.ensures, c.loop-tick.invariant.2) in
    let first : front ≡ take (length (at tube tick)) rest =
    c.split_at.ensures.front ∙ ap (λ (row : List Interval). take (length row) rest) c.row.ensures in
    let after : back ≡ drop (length (at tube tick)) rest =
    c.split_at.ensures.back ∙ ap (λ (row : List Interval). drop (length row) rest) c.row.ensures in (
      ap (λ (now : Tube). restored (tick + 1) now back) (c.write.ensures ∙ ap (slice_set tube tick) first)
          ∙ ap (restored (tick + 1) (slice_set tube tick (take (length (at tube tick)) rest))) after
          ∙ sym (restored-next tick tube rest there) ∙ c.loop-tick.invariant.0,
      omega (
        arith,
        ap length (ap (bands_from (tick + 1)) c.write.ensures ∙ bands-over tick tube front),
        bands-split tick tube there,
        c.loop-tick.invariant.1,
        ap length after,
        length-drop (length (at tube tick)) rest,
      ),
      ap length c.write.ensures ∙ length-set tube tick front ∙ c.loop-tick.invariant.2,
    )

pub returns : goal.returns
returns c =
    let all : length c.loop-tick.tube ≤ c.loop-tick.tick =
    omega (arith, c.loop-tick-test.false, c.ticks-tick-end.ensures, c.loop-tick.invariant.2) in
    sym (restored-end c.loop-tick.tick c.loop-tick.tube c.loop-tick.rest.now all) ∙ c.loop-tick.invariant.0

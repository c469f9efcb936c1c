-- The stream that is opened next has its tube.
use Rattle.std.proofs.Common.{◌∙◌, ◌∷◌, ◌++◌, [], List, map, ap, sym, zero-add}
use Rattle.std.specs.List.{range_with_len}
use Rattle.std.proofs.lemmas.List.FromFn.{map-range_with_len_more}
use Rattle.relaxation.specs.Tube.{Tube}
use Rattle.renewal.specs.Plan.{window_of}
use Rattle.window_tests.proofs.tests.carrying.opening_tubes.Goals as goal

pub loop-stream-preserved : goal.loop-stream-preserved
loop-stream-preserved c =
    let opening = (window_of c.args.plan.now).opening in
    c.in_ok-push.ensures.items
    ∙ ap (λ (tubes : List Tube). tubes ++ c.in_ok-opening_tube.field-0 ∷ []) c.loop-stream.invariant
    ∙ ap (λ (tube : Tube). map opening (range_with_len 0 c.loop-stream.stream) ++ tube ∷ [])
    c.in_ok-opening_tube.ensures
    ∙ sym (map-range_with_len_more opening 0 c.loop-stream.stream c.loop-stream.stream (zero-add c.loop-stream.stream))

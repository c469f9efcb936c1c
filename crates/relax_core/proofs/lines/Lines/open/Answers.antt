-- Each stream has its opening tube.
use Rattle.std.proofs.Common.{◌≡◌, ◌∙◌, ℕ, [], ◌∷◌, List, length, map, sym, ap, arith}
use Rattle.std.specs.List.{range_with_len}
use Rattle.quant.specs.Interval.{Interval}
use Rattle.plant_streams.specs.Streams.{streams_of}
use Rattle.plant.proofs.Lookups.{streams-counted}
use Rattle.renewal.specs.Plan.{window_of}
use Rattle.relax_core.specs.Versions.{versions_in}
use Rattle.relax_core.proofs.Replaced.{opening-more}
use Rattle.relax_core.proofs.lines.Lines.open.Goals as goal

pub loop-stream-preserved : goal.loop-stream-preserved
loop-stream-preserved c = opening-more (window_of c.args.plan.now).opening c.loop-stream.stream c.loop-stream.lines.items _
    c.in_ok-open.field-0 c.in_ok-push.ensures.items c.loop-stream.invariant c.in_ok-open.ensures.newest c.in_ok-open.ensures.none

pub returns : goal.returns
returns c =
    let plan = c.args.plan.now in
    let all : c.loop-stream.stream ≡ length (streams_of plan.parts) = omega (arith, c.loop-stream-test.false, c.stream_count-stream-end.ensures) in
    ap (λ (list : List Interval). map (versions_in list) c.loop-stream.lines.items) c.new.ensures.items
    ∙ c.loop-stream.invariant.0
    ∙ ap (λ (n : ℕ). map (λ (s : ℕ). (window_of plan).opening s ∷ []) (range_with_len 0 n)) (all ∙ sym (streams-counted plan.parts))

use Rattle.std.proofs.Common.{◌≡◌, [], length, map, flat_map, ap, ◌∙◌, rules, arith}
use Rattle.std.specs.List.{range_with_len}
use Rattle.std.proofs.lemmas.List.{get_or_read}
use Rattle.std.proofs.lemmas.List.Sorted.{answers_always}
use Rattle.relaxation.specs.Gathered.{made_of}
use Rattle.relax_core.specs.Adopting.{MadeOf}
use Rattle.workers.specs.Gathering.{answer_of}
use Rattle.workers.proofs.Gathers.{streams_more, gathered_is}
use Rattle.workers.proofs.gathering.gather.Goals as goal

pub loop-stream-preserved : goal.loop-stream-preserved
loop-stream-preserved c =
    streams_more c.args.histories.now c.loop-stream.stream c.index-histories-stream.result c.loop-stream.gathered.items c.append_made.new.gathered.items
    (get_or_read c.args.histories.now c.loop-stream.stream c.index-histories-stream.result c.loop-stream-test.true c.index-histories-stream.is [])
    c.loop-stream.invariant c.in_ok-append_made.ensures

pub returns : goal.returns
returns c =
    let all : c.loop-stream.stream ≡ length c.args.histories.now = omega arith in
    gathered_is c.args.histories.now c.loop-stream.gathered.items c.sort_unstable_by_key.new.self.items
    (c.loop-stream.invariant ∙ ap (λ n. map answer_of (flat_map (made_of c.args.histories.now) (range_with_len 0 n))) all)
    c.sort_unstable_by_key.ensures.permutation
    (c.sort_unstable_by_key.ensures.sorted (λ (made : MadeOf). (made.stamp, made.stream)) (answers_always _ _ _ (λ f a r g h. search rules)))

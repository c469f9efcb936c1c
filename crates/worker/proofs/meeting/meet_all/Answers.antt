-- The tube of each output is its renewal from what was seen.
use Rattle.worker.specs.Knowing.{seen_by}
use Rattle.worker.proofs.Taken.{output-port, output-made, renewed-grown}
use Rattle.worker.proofs.meeting.meet_all.Goals as goal

pub port-made-requires : goal.port-made-requires
port-made-requires g c =
    output-port c.args.plan.now c.args.unit c.unit.result.now c.unit.ensures c.args.outputs.now c.requires.room
    c.outputs-stream-items.result.now c.outputs-stream-items.ensures c.loop-port.port c.loop-port-test.true

pub meet_at-requires-clause-made : goal.meet_at-requires-clause-made
meet_at-requires-clause-made g c =
    output-made c.args.plan.now c.args.unit c.unit.result.now c.unit.ensures c.args.outputs.now c.requires.room
    c.outputs-stream-items.result.now c.outputs-stream-items.ensures c.loop-port.port c.loop-port-test.true
    (seen_by c.loop-port.passes.items) c.args.uses.now c.port-made.result.now c.loop-port.invariant.renewed c.port-made.ensures

pub loop-port-preserved : goal.loop-port-preserved
loop-port-preserved g c = record {
  hand = c.meet_at.ensures.hand;
  renewed = renewed-grown c.args.plan.now (seen_by c.loop-port.passes.items) (seen_by c.meet_at.new.passes.items) c.args.unit c.args.uses.now
      c.args.outputs.now c.meet_at.ensures.begins c.loop-port.invariant.renewed;
}

-- Where all that it reads is copied, the inputs are whole, and inside the tubes that its streams open with.
use Rattle.std.proofs.Common.{◌≡◌, ◌∙◌, ◌<◌, ℕ, [], length, map, get_or, ap, sym, subst, arith}
use Rattle.std.specs.Prelude.{slice_index_or}
use Rattle.std.specs.List.{AllByRecursion}
use Rattle.std.proofs.lemmas.List.{take_all, get_or_default}
use Rattle.plant_streams.specs.Streams.{streams_of}
use Rattle.renewal.specs.Room.{AreOpened, planned}
use Rattle.renewal.specs.Carrying.{read_by}
use Rattle.renewal.proofs.Carrying.{read-opened, next-there, copied_more}
use Rattle.renewal.proofs.Givers.{reads-are}
use Rattle.renewal.proofs.rooms.Inputs.of.Goals as goal

pub bounds-tubes-stream : goal.bounds-tubes-stream
bounds-tubes-stream c =
    next-there c.args.plan.now c.args.tubes.now c.requires.tubes c.unit.ensures.sound.reads
    c.inputs-stream-items.ensures
    c.loop-stream-test.true

pub loop-stream-preserved : goal.loop-stream-preserved
loop-stream-preserved c =
    let tubes = c.args.tubes.now in
    let reads = c.inputs-stream-items.result.now in
    let i = c.loop-stream.stream-index in
    c.in_ok-push.ensures.items
    ∙ copied_more tubes reads i c.loop-stream.made.items c.in_ok-copied.field-0 c.loop-stream-test.true
    c.loop-stream.invariant (c.in_ok-copied.ensures ∙ c.index-tubes-stream.is
    ∙ get_or_default tubes (get_or reads i 0) _ [] (next-there c.args.plan.now tubes c.requires.tubes
    c.unit.ensures.sound.reads c.inputs-stream-items.ensures c.loop-stream-test.true))

-- all are copied
whole : (c : goal.After-loop-stream) → c.loop-stream.made.items ≡ read_by c.args.plan.now c.args.unit c.args.tubes.now
whole c =
    c.loop-stream.invariant
    ∙ ap (map (λ (s : ℕ). slice_index_or c.args.tubes.now s []))
    (take_all c.loop-stream.stream-index c.inputs-stream-items.result.now (omega arith)
    ∙ c.inputs-stream-items.ensures
    ∙ sym (reads-are c.args.plan.now c.args.unit c.unit.result.now c.unit.ensures))

pub returns-clause-read : goal.returns-clause-read
returns-clause-read c = whole c

pub returns-clause-opened : goal.returns-clause-opened
returns-clause-opened c =
    let plan = c.args.plan.now in
    let reads : AllByRecursion (λ s. s < length (streams_of plan.parts)) (planned plan c.args.unit).reads =
    subst (AllByRecursion (λ s. s < length (streams_of plan.parts)))
    (sym (reads-are plan c.args.unit c.unit.result.now c.unit.ensures)) c.unit.ensures.sound.reads in
    subst (AreOpened plan (planned plan c.args.unit).reads) (sym (whole c))
    (read-opened plan c.args.tubes.now c.requires.tubes (planned plan c.args.unit).reads reads)

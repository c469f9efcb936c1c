-- A unit reads 24 channels at most, and shows the same whatever they are where it holds something back.
use Rattle.std.proofs.Common.{◌≤◌, ◌∙◌, List, ℕ, length, sym, subst}
use Rattle.plant_units.specs.Steps.{gathered}
use Rattle.plant_units.specs.Units.{reads_of}
use Rattle.plant_units.proofs.AllKinds.{takes-few, views-held}
use Rattle.plant_units.proofs.units.Unit.view.Goals as goal

pub gather-count-requires-clause-room : goal.gather-count-requires-clause-room
gather-count-requires-clause-room c =
    let x = c.args.self.now in
    let streams = c.args.streams.now in
    let i = sym c.is_instant.ensures ∙ c.if-is_instant.true in
    subst (λ (ns : List ℕ). length (gathered ns streams) ≤ 24) (sym c.inputs.ensures)
    (takes-few x (gathered (reads_of x) streams) c.requires.may.sound (c.requires.may.inputs i))

pub returns-else-is_instant : goal.returns-else-is_instant
returns-else-is_instant c = c.view_from-else-is_instant.ensures
    ∙ views-held c.args.self.now c.args.state.now _ _ (sym c.is_instant.ensures ∙ c.if-is_instant.false)

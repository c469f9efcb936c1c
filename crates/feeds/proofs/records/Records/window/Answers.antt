-- The text is read at the first window, and the window is filled by its records.
use Rattle.std.proofs.Common.{◌∙◌}
use Rattle.feeds.proofs.Answering.{taken-up, gives-in}
use Rattle.feeds.proofs.records.Records.window.Goals as goal

pub returns-clause-gives : goal.returns-clause-gives
returns-clause-gives g c =
    let same = rw c.take.ensures.value at c.in_ok-text.ensures.kept in
    gives-in c.args.plant.now c.parts.ensures.plant c.args.span.first c.args.span.ticks c.requires.some c.requires.inside
    c.in_ok-text.text c.args.self.now.taken c.window_tubes-tubes.new.taken
    (taken-up c.args.plant.now c.args.self.now.text c.in_ok-text.text c.args.self.now.taken _ c.requires.records.taken same)
    g.E.Source.left c.args.source.now c.text_of.new.source c.args.self.now.text c.window_tubes-tubes.result same
    (λ none. c.in_ok-text.ensures.read (c.take.ensures.value ∙ none)) c.window_tubes-tubes.ensures.fills

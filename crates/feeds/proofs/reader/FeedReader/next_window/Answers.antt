-- The reader keeps the end of the window and its fault.
use Rattle.std.proofs.Common.{◌≡◌, ◌∙◌, ◌+◌, ◌≤◌, None, Option, sym, ap, subst, arith}
use Rattle.feeds.specs.declared.reader.FeedFault.{FeedFault}
use Rattle.feeds.specs.ReaderOf.{ReaderOf, feeding}
use Rattle.feeds.specs.Reader.{Gives}
use Rattle.feeds.proofs.Readers.{gives-tubes}
use Rattle.feeds.proofs.reader.FeedReader.next_window.Goals as goal

pub returns-clause-gives : goal.returns-clause-gives
returns-clause-gives g c =
    let left = g.E.Source.left in
    let faults = g.E.Source.faults in
    let parts = c.args.plant.now in
    let first = c.args.first in
    let n = c.args.ticks in
    let before = c.args.source.now in
    let after = c.tubes_by-answer.new.source in
    let old = c.self.inside in
    let read = c.tubes_by-answer.new.records in
    let answer = c.tubes_by-answer.result in
    let opened : ReaderOf = record { asked = old.asked; fault = None; records = old.records } in
    let view : opened ≡ c.args.self.now =
    ap (λ (fault : Option FeedFault). record { asked = old.asked; fault = fault; records = old.records }) (sym c.in_default.is)
    ∙ c.self.view_is in
    let later : old.asked ≤ first = omega (arith, c.requires.later, ap (λ (reader : ReaderOf). reader.asked) c.self.view_is) in
    subst (λ (reader : ReaderOf). Gives parts first n (feeding left faults reader before)
    (feeding left faults (record { asked = first + n; fault = c.fault_in-self-inside.result; records = read }) after) answer) view
    (subst (λ (fault : Option FeedFault). Gives parts first n (feeding left faults opened before)
    (feeding left faults (record { asked = first + n; fault = fault; records = read }) after) answer) (sym c.fault_in-self-inside.ensures)
    (gives-tubes left faults parts first n old.asked old.records read before after answer later c.tubes_by-answer.ensures.gives
    c.tubes_by-answer.ensures.plain c.tubes_by-answer.ensures.failed c.tubes_by-answer.ensures.counted))

-- What the stream's source says of its origin, and of its turn.
use Rattle.std.proofs.Common.{◌∙◌, false, ap, sym, subst, Ok, refl}
use Rattle.std.specs.declared.alloc.AllocError.{AllocError}
use Rattle.flowsheet.specs.Plant.{Origin}
use Rattle.plant.specs.PlantOf.{origin_in}
use Rattle.relax_core.specs.Turns.{IsGivenBy, TurnsFrom}
use Rattle.relax_core.proofs.Turning.{turned}
use Rattle.relax_core.proofs.board.Board.turn.Goals as goal

pub step_from_last-requires-clause-given : goal.step_from_last-requires-clause-given
step_from_last-requires-clause-given c =
    subst (λ (origin : Origin). IsGivenBy origin c.in-Port.unit) (sym (c.source.ensures ∙ ap origin_in c.in-Port.is)) refl

pub returns-in-Feed : goal.returns-in-Feed
returns-in-Feed c =
    let board = c.args.self.now in
    subst (λ (origin : Origin). TurnsFrom {E = AllocError} (Ok false) board c.args.stream origin board)
    (sym (c.source.ensures ∙ ap origin_in c.in-Feed.is)) (refl, refl)

pub returns-in-Narrowed : goal.returns-in-Narrowed
returns-in-Narrowed c = turned c.args.self.now c.step_from_last.new.self c.args.stream c.in-Port.unit c.in-Port.port _ _
    (c.source.ensures ∙ ap origin_in c.in-Port.is) c.in-Narrowed.is c.in_ok-step_from_last-in-Port.ensures

pub returns-in-Same : goal.returns-in-Same
returns-in-Same c = turned c.args.self.now c.step_from_last.new.self c.args.stream c.in-Port.unit c.in-Port.port _ _
    (c.source.ensures ∙ ap origin_in c.in-Port.is) c.in-Same.is c.in_ok-step_from_last-in-Port.ensures

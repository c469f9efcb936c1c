-- The tube makes the step of the version, and what it leaves is the board after it.
use Rattle.std.proofs.Common.{◌∙◌, ℕ, List, sym, subst, arith}
use Rattle.std.specs.Prelude.{slice_set, Some}
use Rattle.relax_core.specs.Rooms.{IsKept}
use Rattle.relax_core.proofs.Boards.{board_of, streams-there, some-version}
use Rattle.relax_core.proofs.Steps.{made-numbers}
use Rattle.relax_core.proofs.Kept.{kept-numbers}
use Rattle.relax_core.proofs.Adoptable.{adoptable-makes, adoptable-there, adopted}
use Rattle.relax_core.proofs.board.Board.adopt.Goals as goal

pub append-requires-clause-stream : goal.append-requires-clause-stream
append-requires-clause-stream c =
    adoptable-there _ _ c.self.view_is c.self.invariant.steps _ _ c.made.view_is c.requires _ c.as_slice.ensures.numbers

pub append-requires-clause-some : goal.append-requires-clause-some
append-requires-clause-some c =
    let board = board_of c.self.inside.plan.now c.self.inside.lines c.self.inside.rows.items in
    some-version board c.self.invariant.steps c.made.inside.stream (omega (
      arith,
      streams-there board c.self.invariant.steps,
      adoptable-there _ _ c.self.view_is c.self.invariant.steps _ _ c.made.view_is c.requires _ c.as_slice.ensures.numbers,
    ))

pub append-requires-clause-shape : goal.append-requires-clause-shape
append-requires-clause-shape c =
    (adoptable-makes _ _ c.self.view_is c.self.invariant.steps _ _ c.made.view_is c.requires _ c.as_slice.ensures.numbers).shape

pub append-requires-clause-numbers : goal.append-requires-clause-numbers
append-requires-clause-numbers c =
    let board = board_of c.self.inside.plan.now c.self.inside.lines c.self.inside.rows.items in
    made-numbers board c.self.invariant.steps _ _ _
    (adoptable-makes _ _ c.self.view_is c.self.invariant.steps _ _ c.made.view_is c.requires _ c.as_slice.ensures.numbers)

pub index_mut-requires : goal.index_mut-requires
index_mut-requires c =
    let board = board_of c.self.inside.plan.now c.self.inside.lines c.self.inside.rows.items in
    omega (
      arith,
      c.self.invariant.counted,
      streams-there board c.self.invariant.steps,
      adoptable-there _ _ c.self.view_is c.self.invariant.steps _ _ c.made.view_is c.requires _ c.as_slice.ensures.numbers,
    )

pub invariant_of-self-2 : goal.invariant_of-self-2
invariant_of-self-2 c =
    let board = board_of c.self.inside.plan.now c.self.inside.lines c.self.inside.rows.items in
    subst (λ (numbers : List ℕ). IsKept (board_of c.self.inside.plan.now c.append.new.lines c.append.new.rows.items)
    c.self.inside.rooms.items (slice_set c.self.inside.met.items c.made.inside.stream (Some numbers))
    c.self.inside.order.items) (c.as_slice.ensures.numbers ∙ sym c.copied.ensures)
    (kept-numbers board c.self.inside.rooms.items c.self.inside.met.items c.self.inside.order.items c.self.invariant
    _ _ _
    (adoptable-makes _ _ c.self.view_is c.self.invariant.steps _ _ c.made.view_is c.requires _ c.as_slice.ensures.numbers)
    c.in_ok-stepped.stepped c.append.new.lines c.append.new.rows.items c.in_ok-stepped.ensures)

pub returns : goal.returns
returns c =
    adopted _ _ c.self.view_is c.self.invariant.steps _ _ c.made.view_is c.requires _ c.as_slice.ensures.numbers
    c.in_ok-stepped.stepped c.append.new.lines c.append.new.rows.items c.in_ok-stepped.ensures

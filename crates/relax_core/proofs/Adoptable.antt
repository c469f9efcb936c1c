-- A version that can be adopted: its tube makes its step, which narrows.
use Rattle.std.proofs.Common.{◌≡◌, ◌∙◌, ◌<◌, ℕ, List, length, sym, ap, subst, arith, true, false, Ok}
use Rattle.std.specs.declared.alloc.AllocError.{AllocError}
use Rattle.relaxation.specs.Core.{Versions}
use Rattle.relax_core.specs.Adopting.{MadeOf, made_step, IsAdoptable, Adopts}
use Rattle.relax_core.specs.Board.{RowOf, BoardOf, IsBoard}
use Rattle.relax_core.specs.Making.{Appends}
use Rattle.relax_core.specs.Stepping.{Steps}
use Rattle.relax_core.specs.declared.board.Stepped.{Stepped}
use Rattle.relax_core.specs.declared.board.Stepped.TheVariants as stepped
use Rattle.relax_core.proofs.Boards.{board_of, board-kept}
use Rattle.relax_core.proofs.Steps.{MakesStep, meet-makes, appended-steps}

-- the step of one does not answer that it narrows nothing
narrows : (board new : BoardOf) (made : MadeOf) → IsAdoptable board made → (did : Stepped) →
    Steps (Ok did) board (made_step made) new → Adopts {E = AllocError} (Ok did) board made new
narrows board new made can (stepped.Narrowed number) h = (ap stepped.Narrowed (h.2 ∙ sym can.next), h.3)
narrows board new made can stepped.Same h = absurd (let clash : true ≡ false = sym h.1 ∙ can.narrows in cc)

-- of a board and a version that are seen
module _ (board seen : BoardOf) (same : board ≡ seen) (is : IsBoard board) (made shown : MadeOf) (one : made ≡ shown)
    (can : IsAdoptable seen shown) (numbers : List ℕ) (named : numbers ≡ made.refs) where
  can-be : IsAdoptable board made
  can-be = subst (λ (b : BoardOf). IsAdoptable b made) (sym same) (subst (IsAdoptable seen) (sym one) can)

  pub adoptable-makes : MakesStep board (record { stream = made.stream; inputs = numbers }) made.tube
  adoptable-makes =
      subst (λ (refs : List ℕ). MakesStep board (record { stream = made.stream; inputs = refs }) made.tube) (sym named)
      (meet-makes board is (made_step made) can-be.legal made.tube can-be.tube can-be.narrows)

  pub adoptable-there : made.stream < length board.versions
  adoptable-there = omega (arith, (board-kept board is).counted, can-be.legal.stream)

  pub adopted : (did : Stepped) (more : Versions) (longer : List RowOf) →
      Appends (Ok did) made.stream made.tube numbers board.versions board.rows more longer →
      Adopts {E = AllocError} (Ok did) seen shown (board_of board.plan more longer)
  adopted did more longer h =
      let new = board_of board.plan more longer in
      let steps = appended-steps board is made.stream numbers made.tube adoptable-makes did more longer h in
      subst (λ (b : BoardOf). Adopts {E = AllocError} (Ok did) b shown new) same
      (subst (λ (m : MadeOf). Adopts {E = AllocError} (Ok did) board m new) one
      (narrows board new made can-be did
      (subst (λ (refs : List ℕ). Steps (Ok did) board (record { stream = made.stream; inputs = refs }) new) named steps)))

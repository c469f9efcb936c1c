-- The cells of a plan, closed from the last to the first.
use Rattle.std.proofs.Common.{◌≡◌, ◌∙◌, ℕ, zero, suc, ◌+◌, ◌<◌, List, [], ◌∷◌, ◌++◌, All, length, map, refl, sym, ap, subst, subst₂, append_assoc, append-nil, add-zero, arith}
use Rattle.std.specs.Prelude.{reverse, slice_index_or}
use Rattle.std.proofs.lemmas.List.{length_push, length-append, length-map, reverse-append, same_lists}
use Rattle.relaxation.specs.History.{History, history_of}
use Rattle.plant.proofs.Lookups.{at-map, item}
use Rattle.stream_cell.specs.declared.passes.StreamCell.{StreamCell}
use Rattle.stream_cell.specs.declared.passes.CellPass.{CellPass}
use Rattle.stream_cell.specs.Seats.{IsClosedBy, IsPassOf, opening_of, pass_view, passes_of}
use Rattle.worker.specs.declared.hand.Hand.{Hand}
use Rattle.worker.specs.Knowing.{view_of}
use Rattle.worker.proofs.Knows.{view-at}
use Rattle.workers.specs.Cells.{AreClosed, AreLeft, HaveOneMore, HoldAll, held_by, views_of}

-- the item between two lists
at-middle : {X : Type 0} (xs : List X) (x : X) (ys : List X) (d : X) → slice_index_or ((xs ++ x ∷ []) ++ ys) (length xs) d ≡ x
at-middle [] x ys d = refl
at-middle (z ∷ zs) x ys d = at-middle zs x ys d

-- all that is there at first
pub all-left : (cells : List StreamCell) (hands : List Hand) → HoldAll cells hands → AreLeft cells hands cells hands
all-left cells hands all = record {
  first = ([], sym (append-nil cells));
  counted = refl;
  held = all.held;
  each = λ w hand l. ([], sym (append-nil (held_by (slice_index_or hands w hand))));
}

module _ (cells : List StreamCell) (hands : List Hand) (all : HoldAll cells hands) (left : List StreamCell) (holding : List Hand)
    (are : AreLeft cells hands left holding) (rest : List StreamCell) (cell : StreamCell) (is : left ≡ rest ++ cell ∷ [])
    (after : List Hand) (passes : List CellPass) (taken : HaveOneMore after passes holding) where
  abbrev whole-cells : cells ≡ (rest ++ cell ∷ []) ++ (are.first).0
  whole-cells = (are.first).1 ∙ ap (λ (list : List StreamCell). list ++ (are.first).0) is

  cell-at : (d : StreamCell) → slice_index_or cells (length rest) d ≡ cell
  cell-at d = ap (λ (list : List StreamCell). slice_index_or list (length rest) d) whole-cells ∙ at-middle rest cell (are.first).0 d

  cell-inside : length rest < length cells
  cell-inside =
      omega (arith, ap length whole-cells, length-append (rest ++ cell ∷ []) (are.first).0, length_push rest cell)

  after-counted : length after ≡ length hands
  after-counted = sym taken.counted ∙ are.counted

  after-there : (w : ℕ) → w < length hands → w < length after
  after-there w l = subst (λ n. w < n) (sym after-counted) l

  -- a pass that was taken
  pass-there : (w : ℕ) → w < length hands → w < length passes
  pass-there w l = subst (λ n. w < n) (sym taken.paired) (after-there w l)

  left-held : (w : ℕ) (hand : Hand) → w < length hands → length (held_by (slice_index_or after w hand)) ≡ length rest
  left-held w hand l =
      let pass = item passes w (pass-there w l) in
      let held = held_by (slice_index_or after w hand) in
      let before = ap length (taken.each w hand pass (after-there w l)) in
      omega (arith, before, length_push held (slice_index_or passes w pass), are.held w hand l, ap length is, length_push rest cell)

  whole-hand : (w : ℕ) (hand : Hand) (pass : CellPass) (l : w < length hands) →
      held_by (slice_index_or hands w hand)
      ≡ (held_by (slice_index_or after w hand) ++ slice_index_or passes w pass ∷ []) ++ (are.each w hand l).0
  whole-hand w hand pass l =
      (are.each w hand l).1 ∙ ap (λ (list : List CellPass). list ++ (are.each w hand l).0) (taken.each w hand pass (after-there w l))

  pass-at : (w : ℕ) (hand : Hand) (pass : CellPass) → w < length hands →
      slice_index_or (held_by (slice_index_or hands w hand)) (length rest) pass ≡ slice_index_or passes w pass
  pass-at w hand pass l =
      let held = held_by (slice_index_or after w hand) in
      let given = slice_index_or passes w pass in
      let more = (are.each w hand l).0 in
      ap (λ (list : List CellPass). slice_index_or list (length rest) pass) (whole-hand w hand pass l)
      ∙ ap (λ n. slice_index_or ((held ++ given ∷ []) ++ more) n pass) (sym (left-held w hand l))
      ∙ at-middle held given more pass

  hand-there : (w : ℕ) → w < length passes → w < length hands
  hand-there w l = subst (λ n. w < n) (taken.paired ∙ after-counted) l

  -- the passes are those of the cell
  pub are-passes : All (IsPassOf cell) passes
  are-passes w pass l =
      let there = hand-there w l in
      let hand = item hands w there in
      subst₂ IsPassOf (cell-at cell) (pass-at w hand pass there) (all.each w (length rest) hand cell pass there cell-inside)

  pub are-all : length passes ≡ passes_of cell
  are-all = taken.paired ∙ after-counted ∙ sym (all.counted (length rest) cell cell-inside) ∙ ap passes_of (cell-at cell)

  -- what is known of them is what the workers know of the stream
  views-are : map pass_view passes ≡ views_of hands (length rest)
  views-are = same_lists (map pass_view passes) (views_of hands (length rest))
      (length-map passes pass_view ∙ taken.paired ∙ after-counted ∙ sym (length-map hands held_by)
      ∙ sym (length-map (map held_by hands) (λ (held : List CellPass). view_of held (length rest))))
      (λ w d l.
      let inside : w < length passes = subst (λ n. w < n) (length-map passes pass_view) l in
      let there = hand-there w inside in
      let hand = item hands w there in
      let pass = item passes w inside in
      let held = held_by (slice_index_or hands w hand) in
      let long : length rest < length held = subst (λ n. length rest < n) (sym (all.held w hand there)) cell-inside in
      at-map pass_view passes w pass d inside
      ∙ ap pass_view (sym (pass-at w hand pass there))
      ∙ sym (view-at held (length rest) pass long)
      ∙ ap (λ (list : List CellPass). view_of list (length rest)) (sym (at-map held_by hands w hand [] there))
      ∙ sym (at-map (λ (list : List CellPass). view_of list (length rest)) (map held_by hands) w [] d
      (subst (λ n. w < n) (sym (length-map hands held_by)) there)))

  -- what is left
  pub left-now : AreLeft cells hands rest after
  left-now = record {
    first = (cell ∷ (are.first).0, whole-cells ∙ append_assoc rest (cell ∷ []) (are.first).0);
    counted = after-counted;
    held = left-held;
    each = λ w hand l.
        let pass = item passes w (pass-there w l) in
        let given = slice_index_or passes w pass in
        let more = (are.each w hand l).0 in
        (given ∷ more, whole-hand w hand pass l ∙ append_assoc (held_by (slice_index_or after w hand)) (given ∷ []) more);
  }

  module _ (history : History) (histories : List History) (is-closed : IsClosedBy (opening_of cell) (map pass_view passes) history)
      (closed : AreClosed cells hands (length left) histories) where
    here : (d : StreamCell) →
        IsClosedBy (opening_of (slice_index_or cells (length rest) d)) (views_of hands (length rest)) history
    here d = subst₂ (λ tube views. IsClosedBy tube views history) (ap opening_of (sym (cell-at d))) views-are is-closed

    each-closed : (s : ℕ) (d : StreamCell) → s < length (history ∷ histories) →
        IsClosedBy (opening_of (slice_index_or cells (length rest + s) d)) (views_of hands (length rest + s))
        (history_of (history ∷ histories) s)
    each-closed zero d l =
        subst (λ n. IsClosedBy (opening_of (slice_index_or cells n d)) (views_of hands n) history) (sym (add-zero (length rest))) (here d)
    each-closed (suc s) d l =
        let n : length left + s ≡ length rest + suc s = omega (arith, ap length is, length_push rest cell) in
        subst (λ n. IsClosedBy (opening_of (slice_index_or cells n d)) (views_of hands n) (history_of histories s)) n
        (closed.each s d (omega arith))

    one-closed : AreClosed cells hands (length rest) (history ∷ histories)
    one-closed = record {
      counted = let counted = closed.counted in omega (arith, ap length is, length_push rest cell);
      each = each-closed;
    }

  -- one more history
  pub closed-now : (history : History) (made now : List History) → IsClosedBy (opening_of cell) (map pass_view passes) history →
      AreClosed cells hands (length left) (reverse made) → now ≡ made ++ history ∷ [] → AreClosed cells hands (length rest) (reverse now)
  closed-now history made now is-closed closed e =
      subst (AreClosed cells hands (length rest)) (sym (ap reverse e ∙ reverse-append made (history ∷ [])))
      (one-closed history (reverse made) is-closed closed)

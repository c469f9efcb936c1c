-- Seats are cut in two and joined: what they stand for together stays.
use Rattle.std.proofs.Common.{◌≡◌, ℕ, suc, ◌+◌, ◌-◌, ◌<◌, Bool, List, [], ◌∷◌, ◌++◌, length, length-append, map, set, take, drop, sum_by, count_by, refl, sym, ap, ◌∙◌, append_assoc, arith}
use Rattle.std.proofs.lemmas.List.{take-append-drop, map-append}
use Rattle.std.specs.List.{AllByRecursion}
use mathlib.Core.Option.{some}
use lib.ListN.{get_elem?}
use Rattle.atomic_table.specs.Seated.{TableId}
use Rattle.atomic_table.specs.Table.{State, Splits, Joins}
use Rattle.atomic_table.proofs.Lists.{set_else}
use Rattle.relaxation.specs.Tube.{Tube}
use Rattle.relaxation.specs.History.{History}
use Rattle.stream_cell.specs.declared.view.Opening.{Opening}
use Rattle.stream_cell.specs.declared.view.PassView.{PassView}
use Rattle.stream_cell.specs.declared.passes.CellPass.{CellPass}
use Rattle.stream_cell.specs.Cell.{IsAmid, IsCell, turns_in, passes_from}
use Rattle.stream_cell.specs.Dealing.{IsDealt}
use Rattle.stream_cell.specs.Passes.{new_pass}
use Rattle.stream_cell.specs.Seats.{pass_view, the_one}
use Rattle.stream_cell.specs.Kinds.{MyMe}
use Rattle.stream_cell.proofs.Views.{sum_set, sum_push, count_append, all_one, all_set, all_append, all_push, all_take, all_drop}

-- a number of a list of passes that is 0 for none, and for two lists together the sum
record IsSum (f : List PassView → ℕ) : Type 0 where
  none : f [] ≡ 0
  both : (v w : List PassView) → f (v ++ w) ≡ f v + f w

counts : (p : PassView → Bool) → IsSum (count_by p)
counts p = record { none = refl; both = count_append p }

lengths : IsSum length
lengths = record { none = refl; both = length-append }

-- a seat is cut in two
split_sum : (f : List PassView → ℕ) → IsSum f → (views : List (List PassView)) (id : ℕ) (v : List PassView) → get_elem? views id ≡ some v →
    sum_by f (set views id (take 1 v) ++ drop 1 v ∷ []) ≡ sum_by f views
split_sum f is views id v at =
    let pushed = sum_push f (set views id (take 1 v)) (drop 1 v) in
    let one = sum_set f views id v (take 1 v) at in
    let parts : f v ≡ f (take 1 v) + f (drop 1 v) = ap f (sym (take-append-drop 1 v)) ∙ is.both (take 1 v) (drop 1 v) in
    omega arith

-- two seats are joined
join_sum : (f : List PassView → ℕ) → IsSum f → (views : List (List PassView)) (id other : ℕ) (v w : List PassView) → get_elem? views id ≡ some v →
    get_elem? (set views id (v ++ w)) other ≡ some w → sum_by f (set (set views id (v ++ w)) other []) ≡ sum_by f views
join_sum f is views id other v w at there =
    let first = sum_set f views id v (v ++ w) at in
    let second = sum_set f (set views id (v ++ w)) other w [] there in
    let parts = is.both v w in
    let none = is.none in
    omega arith

module _ (about : Opening) where
  abbrev CellState : Type 0
  CellState = State History (List PassView)

  -- the rule sees the seats by what they stand for together
  rearranged : (s : CellState) (r : IsCell about s) (views : List (List PassView)) → ((f : List PassView → ℕ) → IsSum f → sum_by f views ≡ sum_by f s.views) →
      AllByRecursion (AllByRecursion (IsAmid about.passes r.history)) views → IsCell about record { words = s.words; homes = s.homes; views = views }
  rearranged s r views same each =
      let turns : turns_in views ≡ turns_in s.views = same _ (counts _) in
      record {
        history = r.history;
        of = r.of;
        words = r.words;
        turns = r.turns ∙ sym turns;
        few = let few = r.few in omega arith;
        home = λ none. r.home (sym turns ∙ none);
        counted = r.counted;
        passes = each;
        all = same _ lengths ∙ r.all;
        once = λ k. same _ (counts _) ∙ r.once k;
        makers = r.makers;
      }

  pub cuts : (id : ℕ) (v : List PassView) → Splits (IsCell about) id v (take 1 v) (drop 1 v)
  cuts id v s r at =
      let mine = all_one _ s.views id v at r.passes in
      rearranged s r (set s.views id (take 1 v) ++ drop 1 v ∷ [])
      (λ f is. split_sum f is s.views id v at)
      (all_push _ (set s.views id (take 1 v)) (drop 1 v)
      (all_set _ s.views id (take 1 v) r.passes (all_take _ 1 v mine))
      (all_drop _ 1 v mine))

  pub joins : (id other : ℕ) (v w : List PassView) → Joins (IsCell about) id v other w (v ++ w) []
  joins id other v w s r at ne there =
      let mine = all_one _ s.views id v at r.passes in
      let theirs = all_one _ s.views other w (sym (set_else s.views id other (v ++ w) ne) ∙ there) r.passes in
      rearranged s r (set (set s.views id (v ++ w)) other [])
      (λ f is. join_sum f is s.views id other v w at there)
      (all_set _ (set s.views id (v ++ w)) other [] (all_set _ s.views id (v ++ w) r.passes (all_append _ v w mine theirs)) tt)

-- the first of those that are left
first_left : (opening : Tube) (passes n count : ℕ) → n < count → passes_from opening passes n (count - n) ≡ new_pass opening passes n ∷ passes_from opening passes (n + 1) (count - (n + 1))
first_left opening passes n count h =
    let more : count - n ≡ suc (count - (n + 1)) = omega arith in
    let next : suc n ≡ n + 1 = omega arith in
    ap (passes_from opening passes n) more ∙ ap (λ k. new_pass opening passes n ∷ passes_from opening passes k (count - (n + 1))) next

-- a pass is cut off the seat that stands for those that are left
module _ (about : Opening) (n count : ℕ) (more : n < count) (me left : MyMe) (pass : CellPass) (is : me ≡ (passes_from about.tube about.passes n (count - n), []))
    (mine : pass.seat.me ≡ (take 1 me.0, me.1)) (others : left ≡ (drop 1 me.0, [])) (number : pass.number ≡ n) where
  split : me ≡ (new_pass about.tube about.passes n ∷ passes_from about.tube about.passes (n + 1) (count - (n + 1)), [])
  split = is ∙ ap (λ (vs : List PassView). (vs, [])) (first_left about.tube about.passes n count more)

  alone : pass.seat.me ≡ (new_pass about.tube about.passes n ∷ [], [])
  alone = mine ∙ ap (λ (one : MyMe). (take 1 one.0, one.1)) split

  its_view : pass_view pass ≡ new_pass about.tube about.passes n
  its_view = ap (λ (one : MyMe). the_one one.0) alone

  pub left_is : left ≡ (passes_from about.tube about.passes (n + 1) (count - (n + 1)), [])
  left_is = others ∙ ap (λ (one : MyMe). (drop 1 one.0, [])) split

  pub dealt_views : (items now : List CellPass) → map pass_view items ++ me.0 ≡ passes_from about.tube about.passes 0 count → now ≡ items ++ pass ∷ [] →
      map pass_view now ++ left.0 ≡ passes_from about.tube about.passes 0 count
  dealt_views items now all pushed =
      let both : me.0 ≡ pass_view pass ∷ left.0 = ap (λ (one : MyMe). one.0) split ∙ ap (λ (v : PassView). v ∷ passes_from about.tube about.passes (n + 1) (count - (n + 1))) (sym its_view) ∙ ap (λ (one : MyMe). pass_view pass ∷ one.0) (sym left_is) in
      ap (λ (all : List CellPass). map pass_view all ++ left.0) pushed
      ∙ ap (λ (vs : List PassView). vs ++ left.0) (map-append pass_view items (pass ∷ []))
      ∙ append_assoc (map pass_view items) (pass_view pass ∷ []) left.0
      ∙ ap (λ (vs : List PassView). map pass_view items ++ vs) (sym both)
      ∙ all

  pub is_dealt : (name : TableId) → pass.seat.table_id ≡ name → IsDealt name about pass
  is_dealt name table = record {
    alone = record { table = table; me = alone ∙ ap (λ (v : PassView). (v ∷ [], [])) (sym its_view) };
    fresh = its_view ∙ ap (new_pass about.tube about.passes) (sym number);
  }

-- a seat stands for the passes of another too
pub joined_all : (me now : MyMe) (other : CellPass) (others rest : List CellPass) (all : List PassView) → other.seat.me ≡ (pass_view other ∷ [], []) →
    now ≡ (me.0 ++ other.seat.me.0, me.1) → others ≡ other ∷ rest → me.0 ++ map pass_view others ≡ all → now.0 ++ map pass_view rest ≡ all
joined_all me now other others rest all alone joined left is =
    ap (λ (one : MyMe). one.0 ++ map pass_view rest) joined
    ∙ ap (λ (one : MyMe). (me.0 ++ one.0) ++ map pass_view rest) alone
    ∙ append_assoc me.0 (pass_view other ∷ []) (map pass_view rest)
    ∙ ap (λ (passes : List CellPass). me.0 ++ map pass_view passes) (sym left)
    ∙ is

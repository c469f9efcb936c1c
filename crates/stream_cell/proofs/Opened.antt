-- A cell as it is opened: one seat that stands for all passes, which have seen the opening tube alone.
use Rattle.std.proofs.Common.{◌≡◌, ◌⊎◌, ℕ, zero, suc, ◌+◌, ◌<◌, ◌≤◌, cond, List, [], ◌∷◌, ◌++◌, length, map, sum_by, count_by, nat_eq, nat_lt, eq-eqb, ne_eqb, lt-ltb, le-ltb, if◌then◌else◌, inl, inr, ⊎_elim, refl, sym, ap, ◌∙◌, subst, arith}
use Rattle.std.specs.List.{AllByRecursion}
use Rattle.std.proofs.lemmas.Bool.{cases_lt}
use Rattle.std.proofs.lemmas.List.Sums.{sum_by-cons}
use mathlib.Core.Option.{some}
use Rattle.atomic_table.specs.Table.{opening}
use Rattle.relaxation.specs.Tube.{Tube}
use Rattle.relaxation.specs.History.{History}
use Rattle.stream_cell.specs.declared.passes.CellPass.{CellPass}
use Rattle.stream_cell.specs.declared.passes.StreamCell.{StreamCell}
use Rattle.stream_cell.specs.declared.view.Opening.{Opening}
use Rattle.stream_cell.specs.declared.view.PassView.{PassView}
use Rattle.stream_cell.specs.Cell.{IsAmid, IsCell, is_taken, opening_passes, passes_from}
use Rattle.stream_cell.specs.Dealing.{IsDealt}
use Rattle.stream_cell.specs.Histories.{IsHistoryOf, opened}
use Rattle.stream_cell.specs.Passes.{IsOf, new_pass}
use Rattle.stream_cell.specs.Seats.{IsPassOf, opening_of, passes_of}
use Rattle.stream_cell.proofs.Growing.{opened_history}

module _ (tube : Tube) (passes : ℕ) where
  length-from : (first n : ℕ) → length (passes_from tube passes first n) ≡ n
  length-from first zero = refl
  length-from first (suc n) = ap suc (length-from (suc first) n)

  free-from : (first n : ℕ) → count_by (λ (v : PassView). is_taken v.turn) (passes_from tube passes first n) ≡ 0
  free-from first zero = refl
  free-from first (suc n) =
      let more = sum_by-cons (λ (v : PassView). cond (is_taken v.turn) 1 0) (new_pass tube passes first) (passes_from tube passes (suc first) n) in
      let rest = free-from (suc first) n in
      omega arith

  times-more : (k first n : ℕ) → count_by (λ (v : PassView). nat_eq v.number k) (passes_from tube passes first (suc n))
      ≡ cond (nat_eq first k) 1 0 + count_by (λ (v : PassView). nat_eq v.number k) (passes_from tube passes (suc first) n)
  times-more k first n = sum_by-cons (λ (v : PassView). cond (nat_eq v.number k) 1 0) (new_pass tube passes first) (passes_from tube passes (suc first) n)

  none-from : (k first n : ℕ) → (k < first) ⊎ (first + n ≤ k) → count_by (λ (v : PassView). nat_eq v.number k) (passes_from tube passes first n) ≡ 0
  none-from k first zero out = refl
  none-from k first (suc n) out =
      let rest = none-from k (suc first) n (⊎_elim (λ (l : k < first). inl (omega arith)) (λ (l : first + suc n ≤ k). inr (omega arith)) out) in
      let other : ◌≡◌ {A = ℕ} (cond (nat_eq first k) 1 0) 0 = ap (λ b. cond b 1 0) (ne_eqb first k (λ e. ⊎_elim (λ (l : k < first). omega arith) (λ (l : first + suc n ≤ k). omega arith) out)) in
      let more = times-more k first n in
      omega arith

  one-from : (k first n : ℕ) → first ≤ k → k < first + n → count_by (λ (v : PassView). nat_eq v.number k) (passes_from tube passes first n) ≡ 1
  one-from k first zero low high = absurd (omega arith)
  one-from k first (suc n) low high = let more = times-more k first n in elim (cases_lt first k) [
    | inl l ↦
        let other : ◌≡◌ {A = ℕ} (cond (nat_eq first k) 1 0) 0 = ap (λ b. cond b 1 0) (ne_eqb first k (λ e. omega arith)) in
        let rest = one-from k (suc first) n (omega arith) (omega arith) in
        omega arith
    | inr l ↦
        let this : ◌≡◌ {A = ℕ} (cond (nat_eq first k) 1 0) 1 = ap (λ b. cond b 1 0) (eq-eqb first k (omega arith)) in
        let rest = none-from k (suc first) n (inl (omega arith)) in
        omega arith
  ]

  -- each number below that of the passes is that of one of them
  once-from : (k n : ℕ) → count_by (λ (v : PassView). nat_eq v.number k) (passes_from tube passes 0 n) ≡ (if nat_lt k n then 1 else 0)
  once-from k n = elim (cases_lt k n) [
    | inl l ↦ one-from k 0 n (omega arith) (omega arith) ∙ ap (λ b. if b then 1 else 0) (sym (lt-ltb k n l))
    | inr l ↦ none-from k 0 n (inr (omega arith)) ∙ ap (λ b. if b then 1 else 0) (sym (le-ltb k n l))
  ]

  new-of : (number : ℕ) → IsOf (opened tube) (new_pass tube passes number)
  new-of number = record { begins = ([], refl); some = omega arith; made = refl; knows = refl }

  new-amid : (number : ℕ) → IsAmid passes (opened tube) (new_pass tube passes number)
  new-amid number = record {
    of = new-of number;
    among = refl;
    holds = λ held e. cc;
    reads = λ e. cc;
  }

  all-amid : (first n : ℕ) → AllByRecursion (IsAmid passes (opened tube)) (passes_from tube passes first n)
  all-amid first zero = tt
  all-amid first (suc n) = (new-amid first, all-amid (suc first) n)

-- a sum over one seat alone
one-seat : (f : List PassView → ℕ) (v : List PassView) → sum_by f (v ∷ []) ≡ f v
one-seat f v = omega arith

pub opens : (about : Opening) (slots : List History) → slots ≡ opened about.tube ∷ [] → IsCell about (opening (0 ∷ 1 ∷ []) slots (opening_passes about))
opens about slots is = record {
  history = opened about.tube;
  of = opened_history about.tube;
  words = refl;
  turns = sym (one-seat (count_by (λ (v : PassView). is_taken v.turn)) (opening_passes about) ∙ free-from about.tube about.passes 0 about.passes);
  few = omega (arith, one-seat (count_by (λ (v : PassView). is_taken v.turn)) (opening_passes about) ∙ free-from about.tube about.passes 0 about.passes);
  home = λ none. ap (map some) is;
  counted = refl;
  passes = (all-amid about.tube about.passes 0 about.passes, tt);
  all = one-seat length (opening_passes about) ∙ length-from about.tube about.passes 0 about.passes;
  once = λ k. one-seat (count_by (λ (v : PassView). nat_eq v.number k)) (opening_passes about) ∙ once-from about.tube about.passes k about.passes;
  makers = λ k some few. absurd (omega arith);
}

-- the slots that it is opened with
pub one_slot : (given tube : Tube) (history : History) (none slots : List History) → tube ≡ given → history ≡ opened given → none ≡ [] → slots ≡ none ++ history ∷ [] →
    slots ≡ opened tube ∷ []
one_slot given tube history none slots t h n s = rw (s, n, h, t) refl

-- what was dealt is a pass of the cell
pub dealt_pass : (cell : StreamCell) (pass : CellPass) → IsDealt cell.table.shared.table_id cell.table.shared.key pass → IsPassOf cell pass
dealt_pass cell pass dealt = record {
  table = dealt.alone.table;
  me = dealt.alone.me;
  number = ap (λ (v : PassView). v.number) (sym dealt.fresh);
  passes = ap (λ (v : PassView). v.passes) dealt.fresh;
  free = ap (λ (v : PassView). v.turn) dealt.fresh;
  ordered = subst (λ (v : PassView). IsHistoryOf (opening_of cell) v.seen) (sym dealt.fresh) (opened_history (opening_of cell));
  of = subst (λ (v : PassView). IsOf v.seen v) (sym dealt.fresh) (new-of (opening_of cell) (passes_of cell) pass.number);
}

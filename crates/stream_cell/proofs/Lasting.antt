-- The history of a cell lasts: it begins the one of a later state, where each pass has seen no less there.
use Rattle.std.proofs.Common.{◌≡◌, ℕ, zero, suc, ◌+◌, ◌-◌, ◌<◌, ◌&&◌, cond, List, [], ◌∷◌, ◌++◌, Contains, length, length-append, map, filter, count_by, nat_eq, nat_lt, ne_eqb, lt-ltb, if◌then◌else◌, append_assoc, append-nil, inl, inr, refl, sym, ap, ◌∙◌, subst, arith}
use Rattle.std.proofs.lemmas.Bool.{cases_eq, cases_lt}
use Rattle.std.proofs.lemmas.List.{map-append}
use Rattle.std.proofs.lemmas.List.Elements.{All-from_recursion, Contains-append_right, filter-append}
use Rattle.std.proofs.lemmas.List.Sums.{sum_by-cons}
use Rattle.std.proofs.Math.Seq.{get_or-append_right}
use Rattle.std.specs.List.{AllByRecursion}
use Rattle.atomic_table.specs.Table.{State}
use Rattle.relaxation.specs.Tube.{Tube}
use Rattle.relaxation.specs.History.{Version, History, Begins, no_version, numbered}
use Rattle.stream_cell.specs.declared.view.Opening.{Opening}
use Rattle.stream_cell.specs.declared.view.PassView.{PassView}
use Rattle.stream_cell.specs.Cell.{IsAmid, IsCell, IsIn, times_in}
use Rattle.stream_cell.specs.Histories.{IsHistoryOf, opened}
use Rattle.stream_cell.specs.Passes.{IsOf, made_by}
use Rattle.stream_cell.proofs.Passing.{made_own}

-- a pass with a number that is there
among-some : (k : ℕ) (vs : List PassView) → 0 < count_by (λ (v : PassView). nat_eq v.number k) vs → (v : PassView) × Contains vs v × (v.number ≡ k)
among-some k [] h = absurd (omega arith)
among-some k (v ∷ vs) h =
    let more = sum_by-cons (λ (v : PassView). cond (nat_eq v.number k) 1 0) v vs in
    elim (cases_eq v.number k) [
      | inl e ↦ (v, (0, omega arith, refl), e)
      | inr ne ↦
          let other : ◌≡◌ {A = ℕ} (cond (nat_eq v.number k) 1 0) 0 = ap (λ b. cond b 1 0) (ne_eqb v.number k ne) in
          let rest = among-some k vs (omega arith) in
          (rest.0, Contains-append_right (v ∷ []) vs rest.0 rest.1, rest.2)
    ]

among-all : (k : ℕ) (views : List (List PassView)) → 0 < times_in k views → (v : PassView) × IsIn views v × (v.number ≡ k)
among-all k [] h = absurd (omega arith)
among-all k (vs ∷ views) h =
    let more = sum_by-cons (count_by (λ (v : PassView). nat_eq v.number k)) vs views in
    elim (cases_lt 0 (count_by (λ (v : PassView). nat_eq v.number k) vs)) [
      | inl l ↦
          let one = among-some k vs l in
          (one.0, (vs, (0, omega arith, refl), one.1), one.2)
      | inr l ↦
          let rest = among-all k views (omega arith) in
          (rest.0, (rest.1.0, Contains-append_right (vs ∷ []) views rest.1.0 rest.1.1, rest.1.2), rest.2)
    ]

-- what is so of each pass is so of one of them
of-each : {A : Type 0} (P : A → Type 0) (l : List A) (x : A) → Contains l x → AllByRecursion P l → P x
of-each P l x there all = subst P there.2 (All-from_recursion P l all there.0 x there.1)

-- what a pass made of two parts of a history
made-both : (pass : ℕ) (first rest : History) → made_by pass (first ++ rest) ≡ made_by pass first ++ made_by pass rest
made-both pass first rest =
    ap (map (λ (v : Version). v.number)) (filter-append (λ (v : Version). nat_lt 0 v.number && nat_eq v.maker pass) first rest)
    ∙ map-append (λ (v : Version). v.number) (filter (λ (v : Version). nat_lt 0 v.number && nat_eq v.maker pass) first)
    (filter (λ (v : Version). nat_lt 0 v.number && nat_eq v.maker pass) rest)

made-some : (pass : ℕ) (history : History) (j : ℕ) → j < length history → 0 < (numbered history j).number → (numbered history j).maker ≡ pass →
    0 < length (made_by pass history)
made-some pass [] j l some own = absurd (omega arith)
made-some pass (version ∷ history) zero l some own = omega (
  arith,
  ap length (made-both pass (version ∷ []) history),
  length-append (made_by pass (version ∷ [])) (made_by pass history),
  ap length (made_own pass version some own),
)
made-some pass (version ∷ history) (suc j) l some own = omega (
  arith,
  ap length (made-both pass (version ∷ []) history),
  length-append (made_by pass (version ∷ [])) (made_by pass history),
  made-some pass history j (omega arith) some own,
)

none-left : (history rest : History) → length rest ≡ 0 → history ++ rest ≡ history
none-left history [] e = append-nil history
none-left history (version ∷ rest) e = absurd (omega arith)

-- the maker of the last version has seen the whole
module _ (opening : Tube) (history : History) (is : IsHistoryOf opening history) (v : PassView) (of : IsOf history v) (two : 1 < length history)
    (own : (numbered history (length history - 1)).maker ≡ v.number) where
  abbrev rest : History
  rest = of.begins.0

  long : length history ≡ length v.seen + length rest
  long = ap length of.begins.1 ∙ length-append v.seen rest

  none-made : length (made_by v.number rest) ≡ 0
  none-made = omega (
    arith,
    ap length (ap (made_by v.number) of.begins.1 ∙ made-both v.number v.seen rest),
    length-append (made_by v.number v.seen) (made_by v.number rest),
    ap length of.made,
    ap length of.knows,
  )

  last-unseen : 0 < length rest → ⊥
  last-unseen more =
      let n = long in
      let k = length history - 1 in
      let at : numbered history k ≡ numbered rest (k - length v.seen) =
      ap (λ (all : History). numbered all k) of.begins.1 ∙ get_or-append_right v.seen rest k no_version (omega arith) in
      let number : (numbered history k).number ≡ k = is.ordered.numbers k (omega arith) in
      let same : (numbered history k).number ≡ (numbered rest (k - length v.seen)).number = ap (λ (version : Version). version.number) at in
      let some = made-some v.number rest (k - length v.seen) (omega arith) (omega arith) (ap (λ (version : Version). version.maker) (sym at) ∙ own) in
      let none = none-made in
      omega arith

  seen-whole : history ≡ v.seen
  seen-whole = of.begins.1 ∙ none-left v.seen rest (elim (cases_lt 0 (length rest)) [
    | inl l ↦ absurd (last-unseen l)
    | inr l ↦ omega arith
  ])

begins-through : (first middle last : History) → Begins first middle → Begins middle last → Begins first last
begins-through first middle last one two =
    (one.0 ++ two.0, two.1 ∙ ap (λ (all : History). all ++ two.0) one.1 ∙ append_assoc first one.0 two.0)

module _ (about : Opening) (before after : State History (List PassView)) (was : IsCell about before) (is : IsCell about after)
    (grows : (v w : PassView) → IsIn before.views v → IsIn after.views w → v.number ≡ w.number → Begins v.seen w.seen) where
  there-once : (s : State History (List PassView)) (r : IsCell about s) (k : ℕ) → k < about.passes → 0 < times_in k s.views
  there-once s r k few =
      let once : ◌≡◌ {A = ℕ} (times_in k s.views) 1 = r.once k ∙ ap (λ b. if b then 1 else 0) (lt-ltb k about.passes few) in
      omega arith

  is-of : (s : State History (List PassView)) (r : IsCell about s) (v : PassView) → IsIn s.views v → IsOf r.history v
  is-of s r v there = (of-each (IsAmid about.passes r.history) there.0 v there.2
      (of-each (AllByRecursion (IsAmid about.passes r.history)) s.views there.0 there.1 r.passes)).of

  made-later : 1 < length was.history → Begins was.history is.history
  made-later two =
      let k = length was.history - 1 in
      let maker = (numbered was.history k).maker in
      let few : maker < about.passes = was.makers k (omega arith) (omega arith) in
      let old = among-all maker before.views (there-once before was maker few) in
      let new = among-all maker after.views (there-once after is maker few) in
      let whole = seen-whole about.tube was.history was.of old.0 (is-of before was old.0 old.1) two (sym old.2) in
      subst (λ (history : History). Begins history is.history) (sym whole)
      (begins-through old.0.seen new.0.seen is.history (grows old.0 new.0 old.1 new.1 (old.2 ∙ sym new.2)) (is-of after is new.0 new.1).begins)

  opened-alone : length was.history ≡ 1 → Begins was.history is.history
  opened-alone one =
      let opens = was.of.opens in
      let alone : was.history ≡ opened about.tube = opens.1
      ∙ none-left (opened about.tube) opens.0 (omega (arith, ap length opens.1, length-append (opened about.tube) opens.0)) in
      subst (λ (history : History). Begins history is.history) (sym alone) is.of.opens

  pub lasts : Begins was.history is.history
  lasts = elim (cases_lt 1 (length was.history)) [
    | inl l ↦ made-later l
    | inr l ↦ opened-alone (let some = was.of.ordered.opened in omega arith)
  ]

-- Each step of a pass keeps the rule of the word.
use Rattle.std.proofs.Common.{◌≡◌, ◌≢◌, ℕ, zero, suc, ◌+◌, ◌-◌, ◌%◌, ◌^◌, ◌<◌, ◌≤◌, true, true≢false, eqb, eq-eqb, ne_eqb, List, [], ◌∷◌, ◌++◌, set, Some, inl, inr, ⊎_elim, refl, sym, ap, ◌∙◌, subst, arith, length-set, get_or-set_same, lt_of_not-le, mod-lt, ◌*◌}
use Rattle.std.specs.Prelude.{slice_index}
use mathlib.Core.Logic.{dite}
use mathlib.Core.Option.{none, some, some-injective, some-ne-none}
use native.Mathlib.Decide.{ℕ_discrete, dec_le}
use lib.ListN.{get_elem?}
use Rattle.atomic_table.specs.Table.{State, Me, step, keeps, stepped, Allows, Splits, opening}
use Rattle.atomic_table.proofs.Lists.{at_set, at_snoc}
use Rattle.turn_desk.specs.declared.view.PassView.{PassView}
use Rattle.turn_desk.specs.Turns.{AllBelow, new_pass, opening_pass, with_number, Draws, behind, left_of, one_if, times, times_drawn, passes_of, EachDrawnOnce}
use Rattle.turn_desk.specs.Steps.{at_end, with_one_less, drew}

-- how often one number stands where another was drawn
hit : (n x : ℕ) → n ≡ x → one_if (eqb n x) ≡ 1
hit n x e = ap one_if (eq-eqb n x e)

miss : (n x : ℕ) → n ≢ x → one_if (eqb n x) ≡ 0
miss n x ne = ap one_if (ne_eqb n x ne)

times-push : (x : ℕ) (l : List ℕ) (n : ℕ) → times x (l ++ n ∷ []) ≡ times x l + one_if (eqb n x)
times-push x [] n = omega arith
times-push x (y ∷ ys) n = let r = times-push x ys n in omega arith

times_drawn-set : (x : ℕ) (l : List PassView) (i : ℕ) (v w : PassView) → get_elem? l i ≡ some v → times_drawn x (set l i w) + times x v.drawn ≡ times_drawn x l + times x w.drawn
times_drawn-set x [] i v w e = absurd (some-ne-none v (sym e))
times_drawn-set x (u ∷ us) zero v w e = let is : times x u.drawn ≡ times x v.drawn = ap (λ (p : PassView). times x p.drawn) (some-injective u v e) in omega arith
times_drawn-set x (u ∷ us) (suc i) v w e = let r = times_drawn-set x us i v w e in omega arith

passes_of-set : (l : List PassView) (i : ℕ) (v w : PassView) → get_elem? l i ≡ some v → passes_of (set l i w) + v.passes ≡ passes_of l + w.passes
passes_of-set [] i v w e = absurd (some-ne-none v (sym e))
passes_of-set (u ∷ us) zero v w e = let is : u.passes ≡ v.passes = ap (λ (p : PassView). p.passes) (some-injective u v e) in omega arith
passes_of-set (u ∷ us) (suc i) v w e = let r = passes_of-set us i v w e in omega arith

times_drawn-push : (x : ℕ) (l : List PassView) (v : PassView) → times_drawn x (l ++ v ∷ []) ≡ times_drawn x l + times x v.drawn
times_drawn-push x [] v = omega arith
times_drawn-push x (u ∷ us) v = let r = times_drawn-push x us v in omega arith

passes_of-push : (l : List PassView) (v : PassView) → passes_of (l ++ v ∷ []) ≡ passes_of l + v.passes
passes_of-push [] v = omega arith
passes_of-push (u ∷ us) v = let r = passes_of-push us v in omega arith

passes_of-one : (l : List PassView) (i : ℕ) (v : PassView) → get_elem? l i ≡ some v → v.passes ≤ passes_of l
passes_of-one [] i v e = absurd (some-ne-none v (sym e))
passes_of-one (u ∷ us) zero v e = let is : u.passes ≡ v.passes = ap (λ (p : PassView). p.passes) (some-injective u v e) in omega arith
passes_of-one (u ∷ us) (suc i) v e = let r = passes_of-one us i v e in omega arith

times_drawn-one : (x : ℕ) (l : List PassView) (i : ℕ) (v : PassView) → get_elem? l i ≡ some v → times x v.drawn ≤ times_drawn x l
times_drawn-one x [] i v e = absurd (some-ne-none v (sym e))
times_drawn-one x (u ∷ us) zero v e = let is : times x u.drawn ≡ times x v.drawn = ap (λ (p : PassView). times x p.drawn) (some-injective u v e) in omega arith
times_drawn-one x (u ∷ us) (suc i) v e = let r = times_drawn-one x us i v e in omega arith

-- a list that has no number from n on
all_below : (n : ℕ) (l : List ℕ) → ((x : ℕ) → n ≤ x → times x l ≡ 0) → AllBelow n l
all_below n [] out = tt
all_below n (y ∷ ys) out = (
  lt_of_not-le (λ le. let z = out y le in let h = hit y y refl in omega arith),
  all_below n ys (λ x le. let z = out x le in omega arith),
)

module _ (limit : ℕ) where
  abbrev S : Type 0
  S = State (Unit {0}) PassView

  abbrev M : Type 0
  M = Me (Unit {0}) PassView

  ended_set : (views : List PassView) (id : ℕ) (w : PassView) (F : Type 0) → ((k : ℕ) (v : PassView) → get_elem? views k ≡ some v → v.ended ≡ true → F) → (w.ended ≡ true → F)
      → (k : ℕ) (v : PassView) → get_elem? (set views id w) k ≡ some v → v.ended ≡ true → F
  ended_set views id w F others own k v at e = ⊎_elim
      (λ (t : (k ≡ id) × (w ≡ v)). own (ap (λ (p : PassView). p.ended) t.1 ∙ e))
      (λ (t : (k ≢ id) × (get_elem? views k ≡ some v)). others k v t.1 e)
      (at_set views id k w v at)

  -- the number joins the list of the pass
  takes : (s : S) (r : EachDrawnOnce limit s) (id : ℕ) (me : M) → get_elem? s.views id ≡ some me.0 → slice_index s.words 0 < limit
      → EachDrawnOnce limit (stepped s 0 (slice_index s.words 0 + 1) id me.1 (with_number me.0 (slice_index s.words 0)) keeps)
  takes s r id me at room =
      let n : ℕ = slice_index s.words 0 in
      let w : PassView = with_number me.0 n in
      let wide = r.one_word in
      let now : slice_index (set s.words 0 (n + 1)) 0 ≡ n + 1 = get_or-set_same s.words 0 (n + 1) 0 (omega arith) in
      record {
        one_word = length-set s.words 0 (n + 1) ∙ wide;
        once = λ x low before. let sums = times_drawn-set x s.views id me.0 w at in let p = times-push x me.0.drawn n in dite (ℕ_discrete n x)
            (λ e. let h = hit n x e in let nowhere = r.no_other x (inr (omega arith)) in omega arith)
            (λ ne. let h = miss n x ne in let one = r.once x low (omega arith) in omega arith);
        no_other = λ x out. let sums = times_drawn-set x s.views id me.0 w at in let p = times-push x me.0.drawn n in
            let ne : n ≢ x = ⊎_elim (λ (l : limit ≤ x). λ (e : n ≡ x). omega arith) (λ (l : slice_index (set s.words 0 (n + 1)) 0 ≤ x). λ (e : n ≡ x). omega arith) out in
            let h = miss n x ne in
            let nowhere = r.no_other x (⊎_elim (λ (l : limit ≤ x). inl l) (λ (l : slice_index (set s.words 0 (n + 1)) 0 ≤ x). inr (omega arith)) out) in omega arith;
        ended = ended_set s.views id w (limit ≤ slice_index (set s.words 0 (n + 1)) 0) (λ k v there e. let low = r.ended k v there e in omega arith) (λ e. let low = r.ended id me.0 at e in omega arith);
        few = let sums = passes_of-set s.views id me.0 w at in let old = r.few in omega arith;
        short = let sums = passes_of-set s.views id me.0 w at in let old = r.few in omega arith;
      }

  -- the pass that found no number left has ended
  ends : (s : S) (r : EachDrawnOnce limit s) (id : ℕ) (me : M) → get_elem? s.views id ≡ some me.0 → 0 < me.0.passes → limit ≤ slice_index s.words 0
      → EachDrawnOnce limit (stepped s 0 (slice_index s.words 0 + 1) id me.1 (at_end me.0) keeps)
  ends s r id me at some_pass full =
      let n : ℕ = slice_index s.words 0 in
      let w : PassView = at_end me.0 in
      let wide = r.one_word in
      let now : slice_index (set s.words 0 (n + 1)) 0 ≡ n + 1 = get_or-set_same s.words 0 (n + 1) 0 (omega arith) in
      record {
        one_word = length-set s.words 0 (n + 1) ∙ wide;
        once = λ x low before. let sums = times_drawn-set x s.views id me.0 w at in let one = r.once x low (omega arith) in omega arith;
        no_other = λ x out. let sums = times_drawn-set x s.views id me.0 w at in
            let nowhere = r.no_other x (⊎_elim (λ (l : limit ≤ x). inl l) (λ (l : slice_index (set s.words 0 (n + 1)) 0 ≤ x). inr (omega arith)) out) in omega arith;
        ended = λ k v there e. omega arith;
        few = let sums = passes_of-set s.views id me.0 w at in let old = r.few in omega arith;
        short = let sums = passes_of-set s.views id me.0 w at in let old = r.short in omega arith;
      }

  -- no step runs the word over
  room : (s : S) (r : EachDrawnOnce limit s) (id : ℕ) (me : M) → get_elem? s.views id ≡ some me.0 → limit ≤ 8192 → slice_index s.words 0 + 1 ≡ (slice_index s.words 0 + 1) % 18446744073709551616
  room s r id me at small = let n : ℕ = slice_index s.words 0 in let short = r.short in omega arith

  pub draws : (slots id : ℕ) (me : M) → me.0.limit ≡ limit → 0 < me.0.passes → limit ≤ 8192 → Allows (EachDrawnOnce limit) slots id me 0 (λ n. (n + 1) % 2 ^ 64) (drew (step slots 0 1 0 none) me)
  draws slots id me is some_pass small s r _ at _ =
      let n : ℕ = slice_index s.words 0 in dite (dec_le limit n)
      (λ full. (
        at_end me.0,
        keeps,
        tt,
        subst (λ (z : ℕ). EachDrawnOnce limit (stepped s 0 z id me.1 (at_end me.0) keeps)) (room s r id me at small) (ends s r id me at some_pass full),
        ((λ low. absurd (omega arith)), λ _. refl),
      ))
      (λ not. let low : n < limit = lt_of_not-le not in (
        with_number me.0 n,
        keeps,
        tt,
        subst (λ (z : ℕ). EachDrawnOnce limit (stepped s 0 z id me.1 (with_number me.0 n) keeps)) (room s r id me at small) (takes s r id me at low),
        (
          (λ _. (all_below n me.0.drawn (λ x le. let nowhere = r.no_other x (inr le) in let one = times_drawn-one x s.views id me.0 at in omega arith), refl)),
          λ full. absurd (omega arith),
        ),
      ))

  pub cuts : (id : ℕ) (v : PassView) → 0 < v.passes → Splits (EachDrawnOnce limit) id v (with_one_less v) (new_pass v.limit)
  cuts id v some_pass s r at =
      let w : PassView = with_one_less v in
      let fresh : PassView = new_pass v.limit in
      record {
        one_word = r.one_word;
        once = λ x low before. let sums = times_drawn-set x s.views id v w at in let p = times_drawn-push x (set s.views id w) fresh in let one = r.once x low before in omega arith;
        no_other = λ x out. let sums = times_drawn-set x s.views id v w at in let p = times_drawn-push x (set s.views id w) fresh in let nowhere = r.no_other x out in omega arith;
        ended = λ k u there e. ⊎_elim
            (λ (was : get_elem? (set s.views id w) k ≡ some u). ended_set s.views id w (limit ≤ slice_index s.words 0) r.ended (λ e'. r.ended id v at e') k u was e)
            (λ (same : fresh ≡ u). absurd (true≢false (sym e ∙ sym (ap (λ (p : PassView). p.ended) same))))
            (at_snoc (set s.views id w) fresh u k there);
        few = let sums = passes_of-set s.views id v w at in let p = passes_of-push (set s.views id w) fresh in let old = r.few in omega arith;
        short = let sums = passes_of-set s.views id v w at in let p = passes_of-push (set s.views id w) fresh in let old = r.short in omega arith;
      }

  pub opens : EachDrawnOnce limit (opening (0 ∷ []) [] (opening_pass limit))
  opens = record {
    one_word = refl;
    once = λ x low before. absurd (omega arith);
    no_other = λ x out. refl;
    ended = one;
    few = omega arith;
    short = omega arith;
  }
    where
      one : (k : ℕ) (v : PassView) → get_elem? (opening_pass limit ∷ []) k ≡ some v → v.ended ≡ true → limit ≤ 0
      one zero v e is = absurd (true≢false (sym is ∙ sym (ap (λ (p : PassView). p.ended) (some-injective _ v e))))
      one (suc k) v e is = absurd (some-ne-none v (sym e))

-- behind the numbers that lie below n
pub behind-below : (n : ℕ) (l : List ℕ) → AllBelow n l → behind l ≤ n
behind-below n [] all = omega arith
behind-below n (x ∷ []) all = let h = all.0 in omega arith
behind-below n (x ∷ y ∷ ys) all = behind-below n (y ∷ ys) all.1

pub behind-push : (l : List ℕ) (n : ℕ) → behind (l ++ n ∷ []) ≡ suc n
behind-push [] n = refl
behind-push (x ∷ []) n = refl
behind-push (x ∷ y ∷ ys) n = behind-push (y ∷ ys) n

-- the same at a seat whose limit is known
pub cuts_at : (limit id : ℕ) (v : PassView) → v.limit ≡ limit → 0 < v.passes → Splits (EachDrawnOnce limit) id v (with_one_less v) (new_pass v.limit)
cuts_at limit id v is some_pass = cuts limit id v some_pass

less : (limit a b n : ℕ) → a ≤ n → n < limit → b ≡ suc n → limit - b < limit - a
less limit a b n le lt e = omega arith

-- a draw's unit is one of the units, and less is left
pub unit_and_less : (units n : ℕ) (old new : PassView) → 0 < units → Draws (32 * units) old (Some n) new → (n % units < units) × (left_of (32 * units) new < left_of (32 * units) old)
unit_and_less units n old new some_unit d = (
  mod-lt n some_unit,
  less (32 * units) (behind old.drawn) (behind new.drawn) n (behind-below n old.drawn d.1) d.0 (ap (λ (v : PassView). behind v.drawn) d.3 ∙ behind-push old.drawn n),
)

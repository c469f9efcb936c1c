-- Each step of a pass keeps the rule of the cell.
use Rattle.std.proofs.Common.{◌≡◌, ◌≢◌, ℕ, ◌+◌, ◌%◌, ◌^◌, ◌<◌, ◌≤◌, Bool, true, false, true≢false, cond, List, [], ◌∷◌, ◌++◌, length, length-append, length-set, set, get_or-set_same, get_or-set_other, count_by, nat_eq, nat_lt, eq-eqb, le-ltb, if◌then◌else◌, lt_of_not-le, inl, inr, refl, sym, ap, ◌∙◌, subst, subst₂, arith}
use Rattle.std.specs.Prelude.{slice_index}
use Rattle.std.specs.List.{AllByRecursion}
use mathlib.Core.Logic.{dite}
use mathlib.Core.Option.{Option, none, some}
use native.Mathlib.Decide.{ℕ_discrete, dec_le}
use lib.ListN.{get_elem?}
use Rattle.std.proofs.lemmas.Bool.{cases_lt}
use Rattle.std.proofs.lemmas.List.{get_or_append_left, get_or_push}
use Rattle.atomic_table.specs.Table.{State, Step, takes, keeps, gives, Allows}
use Rattle.relaxation.specs.History.{Version, History, Begins, no_version, numbered}
use Rattle.stream_cell.specs.declared.view.Opening.{Opening}
use Rattle.stream_cell.specs.declared.view.PassView.{PassView}
use Rattle.stream_cell.specs.declared.view.Turn.{Turn}
use Rattle.stream_cell.specs.declared.view.Turn.TheVariants.{Free, Held, Read}
use Rattle.stream_cell.specs.Cell.{IsAmid, IsCell, is_taken, passes_in, turns_in, times_in}
use Rattle.stream_cell.specs.Histories.{IsHistoryOf}
use Rattle.stream_cell.specs.Passes.{IsOf, missed}
use Rattle.stream_cell.specs.Seats.{the_one}
use Rattle.stream_cell.specs.Kinds.{MyMe, with_history, holding, reading, appending, free, seized, read, appended, released}
use Rattle.stream_cell.proofs.Growing.{first_tube}
use Rattle.stream_cell.proofs.Passing.{first_stays, of_more, of_turning, of_whole, of_own}
use Rattle.stream_cell.proofs.Seating.{first_out}
use Rattle.stream_cell.proofs.Views.{sum_set, sum_below, sum_one, sum_two, all_one, all_set, all_both, all_exchanged, count_most, count_one, count_yes, count_none}

-- what a turn is
abbrev is-held : Turn → Bool
is-held Free = false
is-held (Held history) = true
is-held Read = false

abbrev held-in : Turn → History
held-in Free = []
held-in (Held history) = history
held-in Read = []

-- the same pass, with another turn
abbrev turning : PassView → Turn → ℕ → ℕ → PassView
turning v turn looks misses = record { number = v.number; passes = v.passes; seen = v.seen; made = v.made; turn = turn; looks = looks; misses = misses }

free-amid : (passes : ℕ) (history : History) (v : PassView) (looks misses : ℕ) → v.passes ≡ passes → IsOf history v →
    IsAmid passes history (turning v Free looks misses)
free-amid passes history v looks misses among of = record {
  of = of_turning history v Free looks misses of;
  among = among;
  holds = λ held e. absurd (true≢false (sym (ap is_taken e)));
  reads = λ e. absurd (true≢false (sym (ap is_taken e)));
}

held-amid : (passes : ℕ) (history : History) (v : PassView) (looks misses : ℕ) → v.passes ≡ passes → IsOf history v →
    IsAmid passes history (turning v (Held history) looks misses)
held-amid passes history v looks misses among of = record {
  of = of_turning history v (Held history) looks misses of;
  among = among;
  holds = λ held e. ap held-in (sym e);
  reads = λ e. absurd (true≢false (ap is-held e));
}

read-amid : (passes : ℕ) (history : History) (v : PassView) → v.passes ≡ passes → IsOf history v → v.turn ≡ Read → v.seen ≡ history → IsAmid passes history v
read-amid passes history v among of turn seen = record {
  of = of;
  among = among;
  holds = λ held e. absurd (true≢false (sym (ap is-held (sym turn ∙ e))));
  reads = λ e. seen;
}

-- how many turns a seat of one pass has
turn-of : (v : PassView) (t : Turn) → v.turn ≡ t → count_by (λ (u : PassView). is_taken u.turn) (v ∷ []) ≡ cond (is_taken t) 1 0
turn-of v t e = count_one (λ (u : PassView). is_taken u.turn) v ∙ ap (λ x. cond (is_taken x) 1 0) e

-- no more turns than passes
turns-below : (views : List (List PassView)) → turns_in views ≤ passes_in views
turns-below views = sum_below (count_by (λ (u : PassView). is_taken u.turn)) length (count_most (λ (u : PassView). is_taken u.turn)) views

-- how often its number is this one
number-of : (v : PassView) (i k : ℕ) → v.number ≡ i → count_by (λ (u : PassView). nat_eq u.number k) (v ∷ []) ≡ cond (nat_eq i k) 1 0
number-of v i k e = count_one (λ (u : PassView). nat_eq u.number k) v ∙ ap (λ j. cond (nat_eq j k) 1 0) e

-- a seat tells the pass that it stands for
the-same : (v u : PassView) (a b : List (ℕ × History)) → ◌≡◌ {A = MyMe} (v ∷ [], a) (u ∷ [], b) → v ≡ u
the-same v u a b e = ap (λ (m : MyMe). the_one m.0) e

-- what is so of a pass and the history that it has out, is so of those that are told
carries : (P : PassView → History → Type 0) (v u : PassView) (h k : History) → with_history v h ≡ with_history u k → P v h → P u k
carries P v u h k e is = subst₂ P (the-same v u _ _ e) (ap (λ (m : MyMe). first_out m.1) e) is

abbrev Homes : Type 0
Homes = List (Option History)

one-home : (homes : Homes) (home : Option History) → length homes ≡ 1 → set homes 0 home ≡ home ∷ []
one-home [] home one = absurd (omega arith)
one-home (h ∷ []) home one = refl
one-home (h ∷ g ∷ hs) home one = absurd (omega arith)

-- a number that is there once at most
at-most-one : (b : Bool) (n : ℕ) → n ≡ (if b then 1 else 0) → 1 ≤ n → n ≡ 1
at-most-one true n e h = e
at-most-one false n e h = absurd (omega arith)

once-no : (n passes : ℕ) → passes ≤ n → ◌≡◌ {A = ℕ} (if nat_lt n passes then 1 else 0) 1 → ⊥
once-no n passes le e =
    let out : ◌≡◌ {A = ℕ} (if nat_lt n passes then 1 else 0) 0 = ap (λ b. if b then 1 else 0) (le-ltb n passes le) in
    omega arith

below-passes : (n passes : ℕ) → ◌≡◌ {A = ℕ} (if nat_lt n passes then 1 else 0) 1 → n < passes
below-passes n passes e = dite (dec_le passes n) (λ le. absurd (once-no n passes le e)) lt_of_not-le

module _ (about : Opening) where
  abbrev S : Type 0
  S = State History (List PassView)

  -- a pass at a seat of its own
  module _ (s : S) (r : IsCell about s) (id : ℕ) (v : PassView) (at : get_elem? s.views id ≡ some (v ∷ [])) where
    amid : IsAmid about.passes r.history v
    amid = (all_one (AllByRecursion (IsAmid about.passes r.history)) s.views id (v ∷ []) at r.passes).0

    has-turn : (t : Turn) → v.turn ≡ t → is_taken t ≡ true → 1 ≤ turns_in s.views
    has-turn t e is =
        let own = sum_one (count_by (λ (u : PassView). is_taken u.turn)) s.views id (v ∷ []) at in
        let one = count_yes (λ (u : PassView). is_taken u.turn) v (ap is_taken e ∙ is) in
        omega arith

    -- where one has the turn and this one has not, there are two
    not-alone : v.turn ≡ Free → 1 ≤ turns_in s.views → 1 < v.passes
    not-alone turn taken =
        let turns = sum_set (count_by (λ (u : PassView). is_taken u.turn)) s.views id (v ∷ []) [] at in
        let mine = turn-of v Free turn in
        let most = turns-below (set s.views id []) in
        let sums = sum_set length s.views id (v ∷ []) [] at in
        let all = r.all in
        let among = amid.among in
        omega arith

    -- another view of the same pass
    module _ (w : PassView) (same : w.number ≡ v.number) where
      all-stay : passes_in (set s.views id (w ∷ [])) ≡ about.passes
      all-stay = let sums = sum_set length s.views id (v ∷ []) (w ∷ []) at in let all = r.all in omega arith

      times-stay : (k : ℕ) → times_in k (set s.views id (w ∷ [])) ≡ times_in k s.views
      times-stay k =
          let sums = sum_set (count_by (λ (u : PassView). nat_eq u.number k)) s.views id (v ∷ []) (w ∷ []) at in
          let old = number-of v v.number k refl in
          let new = number-of w v.number k same in
          omega arith

      turns-change : (t u : Turn) → v.turn ≡ t → w.turn ≡ u → turns_in (set s.views id (w ∷ [])) + cond (is_taken t) 1 0 ≡ turns_in s.views + cond (is_taken u) 1 0
      turns-change t u old new =
          let sums = sum_set (count_by (λ (u : PassView). is_taken u.turn)) s.views id (v ∷ []) (w ∷ []) at in
          let before = turn-of v t old in
          let after = turn-of w u new in
          omega arith

      -- of the same history
      kept : (words : List ℕ) (homes : Homes) → IsAmid about.passes r.history w → length words ≡ 2 →
          slice_index words 0 ≡ turns_in (set s.views id (w ∷ [])) → turns_in (set s.views id (w ∷ [])) ≤ 1 →
          (turns_in (set s.views id (w ∷ [])) ≡ 0 → homes ≡ some r.history ∷ []) → slice_index words 1 ≡ length r.history →
          IsCell about (record { words = words; homes = homes; views = set s.views id (w ∷ []) })
      kept words homes is two turns few home counted = record {
        history = r.history;
        of = r.of;
        words = two;
        turns = turns;
        few = few;
        home = home;
        counted = counted;
        passes = all_set (AllByRecursion (IsAmid about.passes r.history)) s.views id (w ∷ []) r.passes (is, tt);
        all = all-stay;
        once = λ k. times-stay k ∙ r.once k;
        makers = r.makers;
      }

  -- the two words, where one is changed
  turn-now : (words : List ℕ) (n : ℕ) → length words ≡ 2 → slice_index (set words 0 n) 0 ≡ n
  turn-now words n two = get_or-set_same words 0 n 0 (omega arith)

  count-stays : (words : List ℕ) (n : ℕ) → slice_index (set words 0 n) 1 ≡ slice_index words 1
  count-stays words n = get_or-set_other words 0 1 n 0 (λ e. omega arith)

  count-now : (words : List ℕ) (n : ℕ) → length words ≡ 2 → slice_index (set words 1 n) 1 ≡ n
  count-now words n two = get_or-set_same words 1 n 0 (omega arith)

  turn-stays : (words : List ℕ) (n : ℕ) → slice_index (set words 1 n) 0 ≡ slice_index words 0
  turn-stays words n = get_or-set_other words 1 0 n 0 (λ e. omega arith)

  -- where the turn is free the pass takes it, and the history
  takes-home : (s : S) (r : IsCell about s) (id : ℕ) (v : PassView) → get_elem? s.views id ≡ some (v ∷ []) → v.turn ≡ Free → slice_index s.words 0 ≡ 0 →
      IsCell about (record { words = set s.words 0 1; homes = set s.homes 0 none; views = set s.views id (holding v r.history ∷ []) })
  takes-home s r id v at turn home =
      let two = r.words in
      let word = r.turns in
      let now = turn-now s.words 1 two in
      let turns = turns-change s r id v at (holding v r.history) refl Free (Held r.history) turn refl in
      kept s r id v at (holding v r.history) refl (set s.words 0 1) (set s.homes 0 none)
      (held-amid about.passes r.history v v.looks v.misses (amid s r id v at).among (amid s r id v at).of)
      (length-set s.words 0 1 ∙ two)
      (omega arith)
      (omega arith)
      (λ e. absurd (omega arith))
      (count-stays s.words 1 ∙ r.counted)

  -- where it is taken all stays
  finds-taken : (s : S) (r : IsCell about s) (id : ℕ) (v : PassView) → get_elem? s.views id ≡ some (v ∷ []) → v.turn ≡ Free → slice_index s.words 0 ≢ 0 →
      IsCell about (record { words = set s.words 0 1; homes = s.homes; views = set s.views id (missed v ∷ []) })
  finds-taken s r id v at turn ne =
      let two = r.words in
      let word = r.turns in
      let few = r.few in
      let now = turn-now s.words 1 two in
      let turns = turns-change s r id v at (missed v) refl Free Free turn refl in
      kept s r id v at (missed v) refl (set s.words 0 1) s.homes
      (free-amid about.passes r.history v v.looks (v.misses + 1) (amid s r id v at).among (amid s r id v at).of)
      (length-set s.words 0 1 ∙ two)
      (omega arith)
      (omega arith)
      (λ e. absurd (ne (omega arith)))
      (count-stays s.words 1 ∙ r.counted)

  pub seizes : (slots id : ℕ) (st : Step History) (v : PassView) → v.turn ≡ Free →
      Allows (IsCell about) slots id (v ∷ [], []) 0 (λ _. 1) (seized st (v ∷ [], []))
  seizes slots id st v turn s r _ at _ = dite (ℕ_discrete (slice_index s.words 0) 0)
      (λ home. (
        holding v r.history ∷ [],
        takes 0 r.history,
        ap (λ (homes : Homes). get_elem? homes 0) (r.home (sym r.turns ∙ home)),
        takes-home s r id v at turn home,
        λ u e. (
          (λ _. (r.history, ap (λ (w : PassView). with_history (holding w r.history) r.history) (the-same v u [] [] e))),
          λ ne. absurd (ne home),
        ),
      ))
      (λ ne. (
        missed v ∷ [],
        keeps,
        tt,
        finds-taken s r id v at turn ne,
        λ u e. (
          (λ home. absurd (ne home)),
          λ _. (
            subst (λ (w : PassView). 1 < w.passes) (the-same v u [] [] e) (not-alone s r id v at turn (let word = r.turns in omega arith)),
            ap (λ (w : PassView). (missed w ∷ [], [])) (the-same v u [] [] e),
          ),
        ),
      ))

  -- who has the history reads how many versions there are
  begins-there : (history : History) (v : PassView) → IsHistoryOf about.tube history → IsOf history v → IsHistoryOf (numbered v.seen 0).tube history
  begins-there history v is of =
      subst (λ tube. IsHistoryOf tube history) (sym (ap (λ (one : Version). one.tube) (first_stays v.seen history of.begins of.some) ∙ first_tube about.tube history is)) is

  reads-all : (s : S) (r : IsCell about s) (id : ℕ) (v : PassView) → get_elem? s.views id ≡ some (v ∷ []) → v.turn ≡ Held r.history →
      IsCell about (record { words = set s.words 1 (slice_index s.words 1); homes = s.homes; views = set s.views id (reading v r.history ∷ []) })
  reads-all s r id v at held =
      let two = r.words in
      let word = r.turns in
      let few = r.few in
      let turn = turn-stays s.words (slice_index s.words 1) in
      let turns = turns-change s r id v at (reading v r.history) refl (Held r.history) Read held refl in
      let has = has-turn s r id v at (Held r.history) held refl in
      kept s r id v at (reading v r.history) refl (set s.words 1 (slice_index s.words 1)) s.homes
      (read-amid about.passes r.history (reading v r.history) (amid s r id v at).among (of_whole r.history v (amid s r id v at).of) refl refl)
      (length-set s.words 1 (slice_index s.words 1) ∙ two)
      (omega arith)
      (omega arith)
      (λ e. absurd (omega arith))
      (count-now s.words (slice_index s.words 1) two ∙ r.counted)

  pub reads : (slots id : ℕ) (st : Step History) (v : PassView) (history : History) → v.turn ≡ Held history →
      Allows (IsCell about) slots id (with_history v history) 1 (λ n. n) (read st (with_history v history))
  reads slots id st v history turn s r _ at _ =
      let before = amid s r id v at in
      let held : history ≡ r.history = before.holds history turn in
      let told = subst (λ (h : History). Begins v.seen h × IsHistoryOf (numbered v.seen 0).tube h × IsOf h (reading v h)) (sym held)
      (before.of.begins, begins-there r.history v r.of before.of, of_whole r.history v before.of) in (
        reading v history ∷ [],
        keeps,
        tt,
        subst (λ (h : History). IsCell about (record { words = set s.words 1 (slice_index s.words 1); homes = s.homes; views = set s.views id (reading v h ∷ []) }))
            (sym held) (reads-all s r id v at (turn ∙ ap Held held)),
        λ u k e _. carries (λ w h. Begins w.seen h × IsHistoryOf (numbered w.seen 0).tube h × IsOf h (reading w h)
            × (◌≡◌ {A = MyMe} (reading v history ∷ [], (0, history) ∷ []) (with_history (reading w h) h))) v u history k e
            (told.0, told.1, told.2, refl),
      )

  -- who has put a version behind all counts it
  module _ (s : S) (r : IsCell about s) (id : ℕ) (v : PassView) (at : get_elem? s.views id ≡ some (v ∷ [])) (turn : v.turn ≡ Read) (version : Version)
      (own : version.maker ≡ v.number) (is : IsHistoryOf about.tube (r.history ++ version ∷ [])) where
    abbrev longer : History
    longer = r.history ++ version ∷ []

    counted-longer : length longer ≡ length r.history + 1
    counted-longer = length-append r.history (version ∷ [])

    -- it is the first and only one of its number
    times-own : times_in v.number s.views ≡ 1
    times-own =
        let own-times = sum_one (count_by (λ (u : PassView). nat_eq u.number v.number)) s.views id (v ∷ []) at in
        let one = count_yes (λ (u : PassView). nat_eq u.number v.number) v (eq-eqb v.number v.number refl) in
        at-most-one (nat_lt v.number about.passes) (times_in v.number s.views) (r.once v.number) (omega arith)

    below : v.number < about.passes
    below = below-passes v.number about.passes (sym (r.once v.number) ∙ times-own)

    -- the passes of another seat
    module _ (j : ℕ) (others : List PassView) (ne : j ≢ id) (there : get_elem? s.views j ≡ some others) where
      no-turn : AllByRecursion (λ (u : PassView). is_taken u.turn ≡ false) others
      no-turn =
          let both = sum_two (count_by (λ (u : PassView). is_taken u.turn)) s.views id j (v ∷ []) others ne at there in
          let one = turn-of v Read turn in
          let few = r.few in
          count_none (λ (u : PassView). is_taken u.turn) others (omega arith)

      no-number : AllByRecursion (λ (u : PassView). nat_eq u.number v.number ≡ false) others
      no-number =
          let both = sum_two (count_by (λ (u : PassView). nat_eq u.number v.number)) s.views id j (v ∷ []) others ne at there in
          let one = count_yes (λ (u : PassView). nat_eq u.number v.number) v (eq-eqb v.number v.number refl) in
          let all = times-own in
          count_none (λ (u : PassView). nat_eq u.number v.number) others (omega arith)

      still : (u : PassView) → IsAmid about.passes r.history u → (is_taken u.turn ≡ false) × (nat_eq u.number v.number ≡ false) → IsAmid about.passes longer u
      still u was out = record {
        of = of_more r.history version u (λ e. true≢false (sym (eq-eqb u.number v.number (sym e ∙ own)) ∙ out.1)) was.of;
        among = was.among;
        holds = λ held e. absurd (true≢false (sym (ap is_taken e) ∙ out.0));
        reads = λ e. absurd (true≢false (sym (ap is_taken e) ∙ out.0));
      }

      all-still : AllByRecursion (IsAmid about.passes longer) others
      all-still = all_both (IsAmid about.passes r.history) (λ (u : PassView). (is_taken u.turn ≡ false) × (nat_eq u.number v.number ≡ false)) (IsAmid about.passes longer) others still
          (all_one (AllByRecursion (IsAmid about.passes r.history)) s.views j others there r.passes)
          (all_both (λ (u : PassView). is_taken u.turn ≡ false) (λ (u : PassView). nat_eq u.number v.number ≡ false)
          (λ (u : PassView). (is_taken u.turn ≡ false) × (nat_eq u.number v.number ≡ false)) others (λ u a b. (a, b)) no-turn no-number)

    number-is : version.number ≡ length r.history
    number-is =
        let long = counted-longer in
        ap (λ (one : Version). one.number) (sym (get_or_push r.history version no_version (length r.history) refl)) ∙ is.ordered.numbers (length r.history) (omega arith)

    of-longer : IsOf longer (appending v longer)
    of-longer = of_own r.history version v (amid s r id v at).of own (let some = r.of.ordered.opened in let number = number-is in omega arith)

    made-below : (k : ℕ) → 0 < k → k < length longer → (numbered longer k).maker < about.passes
    made-below k first h = elim (cases_lt k (length r.history)) [
      | inl m ↦ subst (λ (one : Version). one.maker < about.passes) (sym (get_or_append_left r.history (version ∷ []) no_version k m)) (r.makers k first m)
      | inr m ↦
          let long = counted-longer in
          let e : length r.history ≡ k = omega arith in
          subst (λ (one : Version). one.maker < about.passes) (sym (get_or_push r.history version no_version k e))
          (subst (λ n. n < about.passes) (sym own) below)
    ]

    appends-one : IsCell about (record { words = set s.words 1 ((slice_index s.words 1 + 1) % 2 ^ 64); homes = s.homes; views = set s.views id (appending v longer ∷ []) })
    appends-one =
        let two = r.words in
        let word = r.turns in
        let few = r.few in
        let stays = turn-stays s.words ((slice_index s.words 1 + 1) % 2 ^ 64) in
        let now = count-now s.words ((slice_index s.words 1 + 1) % 2 ^ 64) two in
        let turns = turns-change s r id v at (appending v longer) refl Read Read turn refl in
        let has = has-turn s r id v at Read turn refl in
        let long = counted-longer in
        let small = is.few in
        let count = r.counted in
        record {
          history = longer;
          of = is;
          words = length-set s.words 1 ((slice_index s.words 1 + 1) % 2 ^ 64) ∙ two;
          turns = omega arith;
          few = omega arith;
          home = λ e. absurd (omega arith);
          counted = omega arith;
          passes = all_exchanged (AllByRecursion (IsAmid about.passes longer)) s.views id (appending v longer ∷ []) all-still (read-amid about.passes longer (appending v longer) (amid s r id v at).among of-longer refl refl, tt);
          all = all-stay s r id v at (appending v longer) refl;
          once = λ k. times-stay s r id v at (appending v longer) refl k ∙ r.once k;
          makers = made-below;
        }

  pub appends : (slots id : ℕ) (st : Step History) (v : PassView) (history : History) (version : Version) → v.turn ≡ Read → history ≡ v.seen ++ version ∷ [] →
      version.maker ≡ v.number → IsHistoryOf about.tube history →
      Allows (IsCell about) slots id (with_history v history) 1 (λ n. (n + 1) % 2 ^ 64) (appended st (with_history v history))
  appends slots id st v history version turn made own is s r _ at _ =
      let seen : v.seen ≡ r.history = (amid s r id v at).reads turn in
      let e : history ≡ r.history ++ version ∷ [] = made ∙ ap (λ (h : History). h ++ version ∷ []) seen in
      let now = subst (IsHistoryOf about.tube) e is in (
        appending v history ∷ [],
        keeps,
        tt,
        subst (λ (h : History). IsCell about (record { words = set s.words 1 ((slice_index s.words 1 + 1) % 2 ^ 64); homes = s.homes; views = set s.views id (appending v h ∷ []) }))
            (sym e) (appends-one s r id v at turn version own now),
        λ u k d. carries (λ w h. IsOf h (appending w h) × (◌≡◌ {A = MyMe} (appending v history ∷ [], (0, history) ∷ []) (with_history (appending w h) h))) v u history k d
            (subst (λ (h : History). IsOf h (appending v h)) (sym e) (of-longer s r id v at turn version own now), refl),
      )

  -- who has read all gives the history back
  gives-back : (s : S) (r : IsCell about s) (id : ℕ) (v : PassView) → length s.homes ≡ 1 → get_elem? s.views id ≡ some (v ∷ []) → v.turn ≡ Read →
      IsCell about (record { words = set s.words 0 0; homes = set s.homes 0 (some v.seen); views = set s.views id (free v ∷ []) })
  gives-back s r id v one at turn =
      let two = r.words in
      let word = r.turns in
      let few = r.few in
      let before = amid s r id v at in
      let now = turn-now s.words 0 two in
      let turns = turns-change s r id v at (free v) refl Read Free turn refl in
      kept s r id v at (free v) refl (set s.words 0 0) (set s.homes 0 (some v.seen))
      (free-amid about.passes r.history v v.looks v.misses before.among before.of)
      (length-set s.words 0 0 ∙ two)
      (omega arith)
      (omega arith)
      (λ _. one-home s.homes (some v.seen) one ∙ ap (λ (h : History). some h ∷ []) (before.reads turn))
      (count-stays s.words 0 ∙ r.counted)

  pub releases : (slots id : ℕ) (st : Step History) (v : PassView) → slots ≡ 1 → v.turn ≡ Read →
      Allows (IsCell about) slots id (with_history v v.seen) 0 (λ _. 0) (released st (with_history v v.seen))
  releases slots id st v one turn s r homes at _ = (
    free v ∷ [],
    gives,
    tt,
    gives-back s r id v (homes ∙ one) at turn,
    λ u k e. ap (λ (w : PassView). (free w ∷ [], [])) (the-same v u _ _ e),
  )

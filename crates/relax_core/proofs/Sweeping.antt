-- A board goes on by steps, and by the turn of one stream more in a sweep.
use Rattle.std.proofs.Common.{◌≡◌, ◌∙◌, ℕ, zero, suc, ◌+◌, ◌≤◌, List, [], ◌∷◌, ◌++◌, length, map, Contains}
use Rattle.std.proofs.Common.{refl, sym, ap, subst, arith, inl, inr, true, false, append_assoc}
use Rattle.std.specs.Prelude.{Bool, Ok, count_by, ◌==◌}
use Rattle.std.proofs.lemmas.Bool.{cases_Bool}
use Rattle.std.proofs.lemmas.List.{map-append, append-nil}
use Rattle.std.proofs.lemmas.List.Sums.{sum_by-append, sum_by-cons}
use Rattle.std.proofs.lemmas.List.Elements.{Contains-append_left, Contains-append_cases, Contains-push}
use Rattle.flowsheet.specs.Plant.{Origin, feed, port, unit_at, origin_of}
use Rattle.flowsheet.proofs.Ranks.{source, from_feed, from_port}
use Rattle.relaxation.specs.Window.{Window}
use Rattle.relaxation.specs.Core.{Versions, Step, versions_of, IsLegal, is_idle, after_step, replay, narrowing}
use Rattle.relaxation.specs.Core.{last_numbers, last_step, IsSettled}
use Rattle.relaxation.specs.Sweep.{AreNewest, ReadsNewest}
use Rattle.relaxation.proofs.Sequences.{after-idle, replay-append, legal-append, narrowing-append, narrowing-idle}
use Rattle.relaxation.proofs.Sequences.{narrowing-more, narrowing-replay, narrowing-legal, narrowing-narrowing}
use Rattle.relaxation.proofs.Stays.{replay-stays}
use Rattle.plant.specs.PlantOf.{plant_of}
use Rattle.renewal.specs.Plan.{window_of}
use Rattle.relax_core.specs.Board.{RowOf, BoardOf, rows_from}
use Rattle.relax_core.specs.Settling.{after_steps, GoesOn}
use Rattle.relax_core.specs.Turns.{Turns, TurnsFrom, IsSweeping}
use Rattle.relax_core.proofs.Boards.{board_of}
use Rattle.relax_core.proofs.Rows.{marks}

module _ (window : Window) where
  -- the rows of steps after others
  rows-append : (state : Versions) (steps more : List Step) → rows_from window state (steps ++ more)
      ≡ rows_from window state steps ++ rows_from window (replay window state steps) more
  rows-append state [] more = refl
  rows-append state (step ∷ steps) more =
      let version = length (versions_of state step.stream) in
      ap (λ (rows : List RowOf). record { stream = step.stream; version = version; refs = step.inputs } ∷ rows)
      (rows-append (after_step window state step) steps more)

  -- the narrowing steps of two lists
  narrowing-both : (state : Versions) (steps more : List Step) → narrowing window state (steps ++ more)
      ≡ narrowing window state steps ++ narrowing window (replay window state steps) more
  narrowing-both state [] more = refl
  narrowing-both state (step ∷ steps) more =
      let next = after_step window state step in
      elim (cases_Bool (is_idle window state step)) [
        | inl e ↦ narrowing-idle window state step (steps ++ more) e
            ∙ narrowing-both state steps more
            ∙ ap (λ list. list ++ narrowing window (replay window state steps) more)
            (sym (narrowing-idle window state step steps e))
            ∙ ap (λ x. narrowing window state (step ∷ steps) ++ narrowing window (replay window x steps) more)
            (sym (after-idle window state step e))
        | inr e ↦ narrowing-more window state step (steps ++ more) e
            ∙ ap (λ list. step ∷ list) (narrowing-both next steps more)
            ∙ ap (λ list. list ++ narrowing window (replay window next steps) more)
            (sym (narrowing-more window state step steps e))
      ]

-- the board after steps and more of them
pub after-append : (board : BoardOf) (steps more : List Step) →
    after_steps board (steps ++ more) ≡ after_steps (after_steps board steps) more
after-append board steps more =
    let window = window_of board.plan in
    let left = replay window board.versions steps in
    let rows = rows_from window board.versions steps in
    let further = rows_from window left more in
    ap (λ state. board_of board.plan state (board.rows ++ rows_from window board.versions (steps ++ more)))
    (replay-append window board.versions steps more)
    ∙ ap (λ list. board_of board.plan (replay window left more) (board.rows ++ list))
    (rows-append window board.versions steps more)
    ∙ ap (board_of board.plan (replay window left more)) (sym (append_assoc board.rows rows further))

-- a board goes on by none
pub goes_nowhere : (board : BoardOf) → GoesOn board board
goes_nowhere board = record {
  steps = [];
  legal = tt;
  narrowing = tt;
  leads = ap (board_of board.plan board.versions) (sym (append-nil board.rows));
}

-- and by one list after another
pub goes_further : (start board new : BoardOf) → GoesOn start board → GoesOn board new → GoesOn start new
goes_further start board new h k =
    let window = window_of start.plan in
    let next : GoesOn (after_steps start h.steps) new = subst (λ x. GoesOn x new) h.leads k in
    record {
      steps = h.steps ++ next.steps;
      legal = legal-append window start.versions h.steps next.steps h.legal next.legal;
      narrowing = narrowing-append window start.versions h.steps next.steps h.narrowing next.narrowing;
      leads = next.leads ∙ sym (after-append start h.steps next.steps);
    }

-- the numbers of the last versions after steps are those of the newest before them, or greater
newest-last : (window : Window) (state : Versions) (steps : List Step) (streams : List ℕ) →
    AreNewest state streams (last_numbers (replay window state steps) streams)
newest-last window state steps [] = tt
newest-last window state steps (s ∷ streams) =
    let l : length (versions_of state s) ≤ length (versions_of (replay window state steps) s)
    = (replay-stays window state steps s).longer in
    (omega arith, newest-last window state steps streams)

-- no stream has had its turn
pub sweep-none : (start : BoardOf) → IsSweeping start [] false start
unfolding goes_nowhere
sweep-none start = record {
  steps = [];
  legal = tt;
  newest = λ step c. absurd (omega (arith, c.1));
  few = λ s. omega arith;
  covers = λ s c. absurd (omega (arith, c.1));
  leads = (goes_nowhere start).leads;
  none = λ e. refl;
}

-- a sweep goes on from where it began
pub sweep-goes : (start : BoardOf) (turned : List ℕ) (narrows : Bool) (board : BoardOf) →
    IsSweeping start turned narrows board → GoesOn start board
sweep-goes start turned narrows board h = record {
  steps = narrowing (window_of start.plan) start.versions h.steps;
  legal = narrowing-legal (window_of start.plan) start.versions h.steps h.legal;
  narrowing = narrowing-narrowing (window_of start.plan) start.versions h.steps;
  leads = h.leads;
}

-- its versions are what its steps leave
pub sweep-leaves : (start : BoardOf) (turned : List ℕ) (narrows : Bool) (board : BoardOf)
    (h : IsSweeping start turned narrows board) → board.versions ≡ replay (window_of start.plan) start.versions h.steps
sweep-leaves start turned narrows board h =
    ap (λ (b : BoardOf). b.versions) h.leads ∙ narrowing-replay (window_of start.plan) start.versions h.steps

-- it may be said that it narrowed
sweep-flag : (start : BoardOf) (turned : List ℕ) (narrows said : Bool) (board : BoardOf) →
    IsSweeping start turned narrows board → (said ≡ false → narrows ≡ false) → IsSweeping start turned said board
sweep-flag start turned narrows said board h k = record {
  steps = h.steps;
  legal = h.legal;
  newest = h.newest;
  few = h.few;
  covers = h.covers;
  leads = h.leads;
  none = λ e. h.none (k e);
}

-- a sweep that is cut off by a turn that changed nothing
pub sweep-cut : (start board new : BoardOf) (turned : List ℕ) (narrows : Bool) →
    IsSweeping start turned narrows board → new ≡ board → IsSweeping start turned true new
sweep-cut start board new turned narrows h e = subst (IsSweeping start turned true) (sym e)
    (sweep-flag start turned narrows true board h (λ said. absurd (let clash : ⊥ = cc in clash)))

-- its plan is the one that it began with
pub sweep-plan : (start : BoardOf) (turned : List ℕ) (narrows : Bool) (board : BoardOf) →
    IsSweeping start turned narrows board → board.plan ≡ start.plan
sweep-plan start turned narrows board h = ap (λ (b : BoardOf). b.plan) h.leads

-- the only one
only_there : {X : Type 0} (x y : X) → Contains (x ∷ []) y → x ≡ y
only_there x y (zero, l, e) = e
only_there x y (suc k, l, e) = absurd (omega arith)

-- a stream more
turns-more : (turned : List ℕ) (n s : ℕ) →
    count_by (λ r. r == s) (turned ++ n ∷ []) ≡ count_by (λ r. r == s) turned + marks n s
turns-more turned n s =
    let marked = λ (r : ℕ). marks r s in
    omega (arith, sum_by-append marked turned (n ∷ []), sum_by-cons marked n [])

-- the turn of a feed changes nothing
sweep-fed : (start board : BoardOf) (turned : List ℕ) (n f : ℕ) (narrows : Bool) →
    IsSweeping start turned narrows board → origin_of (plant_of start.plan.parts) n ≡ feed f →
    IsSweeping start (turned ++ n ∷ []) narrows board
sweep-fed start board turned n f narrows h o = record {
  steps = h.steps;
  legal = h.legal;
  newest = h.newest;
  few = λ s. omega (arith, h.few s, turns-more turned n s);
  covers = λ s c. elim (Contains-append_cases turned (n ∷ []) s c) [
    | inl d ↦ h.covers s d
    | inr d ↦
        (let window = window_of start.plan in
        inr (subst (λ i. IsSettled window start.versions i (origin_of window.plant i)) (only_there n s d)
        (subst (IsSettled window start.versions n) (sym o) tt)))
  ];
  leads = h.leads;
  none = h.none;
}

-- that of another adds its step
module _ (start board : BoardOf) (turned : List ℕ) (n u p : ℕ) (o : origin_of (plant_of start.plan.parts) n ≡ port u p)
    (before : Bool) (h : IsSweeping start turned before board) where
  abbrev window : Window
  window = window_of start.plan

  -- what the steps so far leave, those of them that narrowed, and the next
  abbrev left : Versions
  left = replay window start.versions h.steps

  abbrev made : List Step
  made = narrowing window start.versions h.steps

  abbrev from : Versions → Step
  from state = last_step window state u n

  abbrev all : List Step
  all = h.steps ++ from left ∷ []

  abbrev streams : List Step → List ℕ
  streams steps = map (λ (step : Step). step.stream) steps

  abbrev count : List Step → ℕ → ℕ
  count steps s = count_by (λ (step : Step). step.stream == s) steps

  counts-more : (s : ℕ) → count all s ≡ count h.steps s + marks n s
  counts-more s =
      let marked = λ (step : Step). marks step.stream s in
      omega (arith, sum_by-append marked h.steps (from left ∷ []), sum_by-cons marked (from left) [])

  streams-more : streams all ≡ streams h.steps ++ n ∷ []
  streams-more = map-append (λ (step : Step). step.stream) h.steps (from left ∷ [])

  last-newest : ReadsNewest window start.versions (from left).inputs (origin_of (plant_of start.plan.parts) n)
  last-newest = subst (ReadsNewest window start.versions (from left).inputs) (sym o)
      (newest-last window start.versions h.steps (unit_at window.plant u).reads)

  sweep-step : (new : BoardOf) (narrows : Bool) → IsLegal window left (from left) →
      new ≡ after_steps start (narrowing window start.versions all) →
      (narrows ≡ false → narrowing window start.versions all ≡ []) → IsSweeping start (turned ++ n ∷ []) narrows new
  sweep-step new narrows legal leads none = record {
    steps = all;
    legal = legal-append window start.versions h.steps (from left ∷ []) h.legal (legal, tt);
    newest = λ step c. elim (Contains-append_cases h.steps (from left ∷ []) step c) [
      | inl d ↦ h.newest step d
      | inr d ↦ subst (λ x. ReadsNewest window start.versions x.inputs (origin_of window.plant x.stream))
          (only_there (from left) step d) last-newest
    ];
    few = λ s. omega (arith, counts-more s, h.few s, turns-more turned n s);
    covers = λ s c. elim (Contains-append_cases turned (n ∷ []) s c) [
      | inl d ↦ elim (h.covers s d) [
        | inl e ↦ inl (subst (λ list. Contains list s) (sym streams-more)
            (Contains-append_left (streams h.steps) (n ∷ []) s e))
        | inr settled ↦ inr settled
      ]
      | inr d ↦ inl (subst (λ list. Contains list s) (sym streams-more)
          (subst (Contains (streams h.steps ++ n ∷ [])) (only_there n s d) (Contains-push (streams h.steps) n)))
    ];
    leads = leads;
    none = none;
  }

  -- which is among the narrowing ones where it narrows
  narrowing-idles : is_idle window left (from left) ≡ true → narrowing window start.versions all ≡ made
  narrowing-idles e = narrowing-both window start.versions h.steps (from left ∷ [])
      ∙ ap (λ more. made ++ more) (narrowing-idle window left (from left) [] e)
      ∙ append-nil made

  narrowing-narrows : is_idle window left (from left) ≡ false → narrowing window start.versions all ≡ made ++ from left ∷ []
  narrowing-narrows e = narrowing-both window start.versions h.steps (from left ∷ [])
      ∙ ap (λ more. made ++ more) (narrowing-more window left (from left) [] e)

  -- the board has what all steps so far leave
  same : replay window start.versions made ≡ left
  same = narrowing-replay window start.versions h.steps

  turn-given : (E : Type 0) (narrows : Bool) (new : BoardOf) →
      TurnsFrom {E = E} (Ok narrows) (after_steps start made) n (port u p) new →
      (said : Bool) → (said ≡ false → (before ≡ false) × (narrows ≡ false)) →
      IsSweeping start (turned ++ n ∷ []) said new
  turn-given E true new t said k =
      let narrows = subst (λ state. is_idle window state (from state) ≡ false) same t.1 in
      sweep-step new said (subst (λ state. IsLegal window state (from state)) same t.0)
      (t.2 ∙ sym (after-append start made (from (replay window start.versions made) ∷ []))
      ∙ ap (λ state. after_steps start (made ++ from state ∷ [])) same
      ∙ ap (after_steps start) (sym (narrowing-narrows narrows)))
      (λ e. absurd (let f = (k e).1 in let g : ⊥ = cc in g))
  turn-given E false new t said k =
      let idle = narrowing-idles (subst (λ state. is_idle window state (from state) ≡ true) same t.1) in
      sweep-step new said (subst (λ state. IsLegal window state (from state)) same t.0)
      (t.2 ∙ ap (after_steps start) (sym idle))
      (λ e. idle ∙ h.none (k e).0)

-- and the turn of any goes on with the sweep
pub sweep-turn : (E : Type 0) (start board new : BoardOf) (turned : List ℕ) (n : ℕ) (before narrows said : Bool) →
    IsSweeping start turned before board → Turns {E = E} (Ok narrows) board n new →
    (said ≡ false → (before ≡ false) × (narrows ≡ false)) → IsSweeping start (turned ++ n ∷ []) said new
sweep-turn E start board new turned n before narrows said h turn k =
    let here = after_steps start (narrowing (window_of start.plan) start.versions h.steps) in
    let ends = λ (from : Origin). TurnsFrom {E = E} (Ok narrows) here n from new in
    let told : ends (origin_of (plant_of start.plan.parts) n)
    = subst (λ b. Turns {E = E} (Ok narrows) b n new) h.leads turn in
    elim (source (origin_of (plant_of start.plan.parts) n)) [
      | from_feed f o ↦
          (let fed : ends (feed f) = subst ends o told in
          sweep-flag start (turned ++ n ∷ []) before said new
          (subst (IsSweeping start (turned ++ n ∷ []) before) (h.leads ∙ sym fed.1)
          (sweep-fed start board turned n f before h o))
          (λ e. (k e).0))
      | from_port u p o ↦ turn-given start board turned n u p o before h E narrows new (subst ends o told) said k
    ]

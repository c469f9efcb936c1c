-- A step on a board: it is legal, and what is appended makes the board after it.
use Rattle.std.proofs.Common.{◌≡◌, ◌∙◌, ℕ, ◌<◌, ◌^◌, List, [], ◌∷◌, ◌++◌, length, refl}
use Rattle.std.proofs.Common.{sym, ap, subst, arith, inl, inr, true, false, Ok, Err, get_or-set_same, get_or-set_other}
use Rattle.std.specs.Prelude.{Result, slice_set, slice_index_or}
use Rattle.std.proofs.lemmas.Bool.{cases_eq, cases_Bool}
use Rattle.std.proofs.lemmas.List.{length_push}
use Rattle.std.specs.declared.alloc.AllocError.{AllocError}
use Rattle.relaxation.specs.Tube.{Tube, IsWithin, IsNarrower, HasNumbers, is_within, meet}
use Rattle.relaxation.specs.Window.{Window, run_tube}
use Rattle.relaxation.specs.Core.{Versions, Step, versions_of, last_of, named, AreThere}
use Rattle.relaxation.specs.Core.{origin_renewal, step_renewal, IsLegalFrom, IsLegal, is_idle, after_step}
use Rattle.relaxation.proofs.Growth.{AreGrown, grown_itself, step-grown, done-idle}
use Rattle.relaxation.proofs.Meets.{within-yes, within-both}
use Rattle.relaxation.proofs.Sequences.{after-idle, after-narrows}
use Rattle.relaxation.proofs.Stays.{legal-stays}
use Rattle.relaxation.proofs.States.{step-numbers, step-narrower, renewal-holds, last-holds}
use Rattle.tubes.specs.Shape.{HasShapeOf}
use Rattle.renewal.specs.Plan.{PlanOf, window_of}
use Rattle.renewal.specs.Room.{RenewalOf, planned, renewal_of}
use Rattle.relax_core.specs.Board.{RowOf, BoardOf, IsBoard, rows_from, after}
use Rattle.relax_core.specs.Making.{IsPortOf, Appends}
use Rattle.relax_core.specs.Stepping.{Steps}
use Rattle.relax_core.specs.declared.board.Stepped.{Stepped}
use Rattle.relax_core.specs.declared.board.Stepped.TheVariants as stepped
use Rattle.relax_core.proofs.Boards.{board-open, board-kept, stream-below, after-is, board_of}
use Rattle.relax_core.proofs.Meets.{meet-narrower}
use Rattle.relax_core.proofs.Readings.{within-shape}
use Rattle.relax_core.proofs.Renewals.{port-is}

-- a board with these versions and rows
same-board : (plan : PlanOf) (state more : Versions) (rows longer : List RowOf) → more ≡ state → longer ≡ rows →
    board_of plan more longer ≡ board_of plan state rows
same-board plan state more rows longer e k = ap (λ versions. board_of plan versions longer) e ∙ ap (board_of plan state) k

-- A step is legal, and the meet of its stream's last version with a tube is the one that it appends.
pub record MakesStep (board : BoardOf) (step : Step) (tube : Tube) : Type 0 where
  pub legal : IsLegal (window_of board.plan) board.versions step
  pub shape : HasShapeOf (last_of board.versions step.stream) tube
  pub meets : meet (last_of board.versions step.stream) tube
      ≡ meet (last_of board.versions step.stream) (step_renewal (window_of board.plan) board.versions step)
  pub idle : is_within (last_of board.versions step.stream) tube ≡ is_idle (window_of board.plan) board.versions step

module _ (board : BoardOf) (is : IsBoard board) where
  abbrev window : Window
  window = window_of board.plan

  module _ (step : Step) (legal : IsLegal (window_of board.plan) board.versions step) where
    abbrev run : Tube
    run = run_tube window step.stream

    abbrev last : Tube
    last = last_of board.versions step.stream

    abbrev renewed : Tube
    renewed = step_renewal window board.versions step

    last-run : IsWithin run last
    last-run = last-holds window (board-open board is) board.versions (board-kept board is) step.stream legal.stream

    renewed-run : IsWithin run renewed
    renewed-run = renewal-holds window (board-open board is) board.versions (board-kept board is) step legal

    -- its renewal is such a tube
    pub renewal-makes : (tube : Tube) → tube ≡ step_renewal (window_of board.plan) board.versions step → MakesStep board step tube
    renewal-makes tube e = subst (MakesStep board step) (sym e) (record {
      legal = legal;
      shape = sym (within-shape run last last-run) ∙ within-shape run renewed renewed-run;
      meets = refl;
      idle = refl;
    })

    -- and so is the meet itself, where it is narrower
    narrower-not_within : (tube : Tube) → IsNarrower tube last → is_within last tube ≡ false
    narrower-not_within tube n = elim (cases_Bool (is_within last tube)) [
      | inl e ↦ absurd (n.other (within-both tube last n.within (within-yes last tube e)))
      | inr e ↦ e
    ]

    pub meet-makes : (tube : Tube) →
        tube ≡ meet (last_of board.versions step.stream) (step_renewal (window_of board.plan) board.versions step) →
        is_idle (window_of board.plan) board.versions step ≡ false → MakesStep board step tube
    meet-makes tube e narrows =
        let narrower : IsNarrower tube last = subst (λ (t : Tube). IsNarrower t last) (sym e)
        (step-narrower window (board-open board is) board.versions (board-kept board is) step legal narrows) in
        record {
          legal = legal;
          shape = sym (within-shape tube last narrower.within);
          meets = meet-narrower last tube narrower.within ∙ e;
          idle = narrower-not_within tube narrower ∙ sym narrows;
        }

  module _ (s : ℕ) (numbers : List ℕ) (tube : Tube)
      (makes : MakesStep board (record { stream = s; inputs = numbers }) tube) where
    abbrev step : Step
    step = record { stream = s; inputs = numbers }

    -- the meet has numbers
    pub made-numbers : HasNumbers (meet (last_of board.versions s) tube)
    made-numbers = subst HasNumbers (sym makes.meets)
        (step-numbers window (board-open board is) board.versions (board-kept board is) step makes.legal)

    idle-as : {b : _} → is_within (last_of board.versions s) tube ≡ b → is_idle window board.versions step ≡ b
    idle-as e = sym makes.idle ∙ e

    -- what is appended where the step narrows is the board after it
    narrowed : (more : Versions) (longer : List RowOf) → is_within (last_of board.versions s) tube ≡ false →
        more ≡ slice_set board.versions s (versions_of board.versions s ++ meet (last_of board.versions s) tube ∷ []) →
        longer ≡ board.rows ++ rows_from window board.versions (step ∷ []) → board_of board.plan more longer ≡ after board step
    narrowed more longer n e k = same-board board.plan _ more _ longer
        (e ∙ ap (λ (t : Tube). slice_set board.versions s (versions_of board.versions s ++ t ∷ [])) makes.meets
        ∙ sym (after-narrows window board.versions step (idle-as n))) k

    pub appended-is : (result : Result Stepped AllocError) (more : Versions) (longer : List RowOf) →
        Appends result s tube numbers board.versions board.rows more longer → IsBoard (board_of board.plan more longer)
    appended-is (Ok (stepped.Narrowed number)) more longer h =
        subst IsBoard (sym (narrowed more longer h.0 h.3 h.4)) (after-is board is step makes.legal (idle-as h.0))
    appended-is (Ok stepped.Same) more longer h = subst IsBoard (sym (same-board board.plan _ more _ longer h.1 h.2)) is
    appended-is (Err e) more longer h = subst IsBoard (sym (same-board board.plan _ more _ longer h.0 h.1)) is

    pub appended-steps : (made : Stepped) (more : Versions) (longer : List RowOf) →
        Appends (Ok made) s tube numbers board.versions board.rows more longer →
        Steps (Ok made) board step (board_of board.plan more longer)
    appended-steps (stepped.Narrowed number) more longer h =
        (makes.legal, idle-as h.0, h.1, narrowed more longer h.0 h.3 h.4)
    appended-steps stepped.Same more longer h = (makes.legal, idle-as h.0, same-board board.plan _ more _ longer h.1 h.2)

    -- the versions are those after the step, unless memory ran out
    after-versions : (made : Stepped) (more : Versions) (longer : List RowOf) →
        Appends (Ok made) s tube numbers board.versions board.rows more longer →
        more ≡ after_step window board.versions step
    after-versions (stepped.Narrowed number) more longer h =
        ap (λ (b : BoardOf). b.versions) (narrowed more longer h.0 h.3 h.4)
    after-versions stepped.Same more longer h = h.1 ∙ sym (after-idle window board.versions step (idle-as h.0))

    -- those that are there stay
    pub appended-grown : (result : Result Stepped AllocError) (more : Versions) (longer : List RowOf) →
        Appends result s tube numbers board.versions board.rows more longer → AreGrown board.versions more
    appended-grown (Ok made) more longer h = subst (AreGrown board.versions) (sym (after-versions made more longer h))
        (step-grown window (board-open board is) board.versions (board-kept board is) step makes.legal)
    appended-grown (Err e) more longer h = subst (AreGrown board.versions) (sym h.0) (grown_itself board.versions)

    -- and the step is legal once more, and narrows nothing
    pub appended-legal : (made : Stepped) (more : Versions) (longer : List RowOf) →
        Appends (Ok made) s tube numbers board.versions board.rows more longer →
        IsLegal (window_of board.plan) more step
    appended-legal made more longer h =
        legal-stays board.versions more (λ q. (appended-grown (Ok made) more longer h q).first) window step makes.legal

    pub appended-idle : (made : Stepped) (more : Versions) (longer : List RowOf) →
        Appends (Ok made) s tube numbers board.versions board.rows more longer →
        is_idle (window_of board.plan) more step ≡ true
    appended-idle made more longer h =
        subst (λ state. is_idle window state step ≡ true) (sym (after-versions made more longer h))
        (done-idle window (board-open board is) board.versions (step ∷ []) step (board-kept board is) (makes.legal, tt)
        (0, omega arith, refl))

-- the renewal of a stream from versions that are there makes its step from them
pub renewed-makes : (board : BoardOf) → IsBoard board → (s : ℕ) (numbers : List ℕ) (u p : ℕ) → IsPortOf board.plan s u p →
    AreThere board.versions (planned board.plan u).reads numbers → (outputs : RenewalOf) →
    outputs ≡ renewal_of board.plan u (named board.versions (planned board.plan u).reads numbers) →
    (tube : Tube) → tube ≡ slice_index_or outputs.ports p [] →
    MakesStep board (record { stream = s; inputs = numbers }) tube
renewed-makes board is s numbers u p given there outputs renewed tube at =
    let window = window_of board.plan in
    let step : Step = record { stream = s; inputs = numbers } in
    renewal-makes board is step
    (record {
      stream = stream-below board is s given.stream;
      inputs = subst (IsLegalFrom window board.versions numbers) (sym given.origin) there;
    }) tube
    (port-is board.plan u (named board.versions (planned board.plan u).reads numbers) outputs p tube renewed at given.output
    ∙ sym (ap (origin_renewal window board.versions s numbers) given.origin))

-- numbers of versions stay in 32 bits
abbrev pub AreFew : Versions → Type 0
AreFew state = (s : ℕ) → length (versions_of state s) < 2 ^ 32

few-set : (state : Versions) (s : ℕ) (line : List Tube) → s < length state → length line < 2 ^ 32 → AreFew state → AreFew (slice_set state s line)
few-set state s line l m few q = elim (cases_eq q s) [
  | inl e ↦ (let here : slice_index_or (slice_set state s line) q [] ≡ line
      = subst (λ i. slice_index_or (slice_set state s line) i [] ≡ line) (sym e) (get_or-set_same state s line [] l) in
      omega (arith, ap length here))
  | inr n ↦ (let other : slice_index_or (slice_set state s line) q [] ≡ versions_of state q
      = get_or-set_other state s q line [] n in
      omega (arith, ap length other, few q))
]

pub appended-few : (result : Result Stepped AllocError) (s : ℕ) (tube : Tube) (numbers : List ℕ) (state more : Versions) (rows longer : List RowOf) →
    s < length state → AreFew state → Appends result s tube numbers state rows more longer → AreFew more
appended-few (Ok (stepped.Narrowed number)) s tube numbers state more rows longer l few h =
    subst AreFew (sym h.3) (few-set state s _ l
    (omega (arith, length_push (versions_of state s) (meet (last_of state s) tube), h.1, h.2)) few)
appended-few (Ok stepped.Same) s tube numbers state more rows longer l few h = subst AreFew (sym h.1) few
appended-few (Err e) s tube numbers state more rows longer l few h = subst AreFew (sym h.0) few

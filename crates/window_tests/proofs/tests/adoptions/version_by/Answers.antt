-- The version that a step from the opening tubes appends is the meet of the opening tube with the renewal.
use Rattle.std.proofs.Common.{◌≡◌, ◌∙◌, ◌∷◌, [], ◌<◌, ℕ, List, Ok, length, sym, ap, subst, get_or-set_same}
use Rattle.std.proofs.lemmas.List.FromFn.{length-map-range_with_len}
use Rattle.relaxation.specs.Tube.{Tube, meet}
use Rattle.relaxation.specs.Core.{Versions, Step, versions_of, last_of, step_renewal}
use Rattle.relaxation.proofs.Chains.{newest, push-newest}
use Rattle.relaxation.proofs.Sequences.{after-narrows}
use Rattle.renewal.specs.Plan.{PlanOf, window_of}
use Rattle.relax_core.specs.Adopting.{MadeOf, IsAdoptable}
use Rattle.relax_core.specs.Board.{BoardOf, opened, opening_board}
use Rattle.relax_core.specs.Stepping.{Steps}
use Rattle.relax_core.specs.declared.board.Stepped.{Stepped}
use Rattle.relax_core.specs.declared.board.Stepped.TheVariants as stepped
use Rattle.window_tests.proofs.tests.adoptions.version_by.Goals as goal

module _ (plan : PlanOf) (new : BoardOf) (step : Step) (number : ℕ)
    (steps : Steps (Ok (stepped.Narrowed number)) (opening_board plan) step new) where
  there : step.stream < length (opened plan)
  there = subst (λ n. step.stream < n)
      (sym (length-map-range_with_len (λ s. (window_of plan).opening s ∷ []) 0 (length (window_of plan).plant.streams)))
      steps.0.stream

  last-is : last_of new.versions step.stream
      ≡ meet (last_of (opened plan) step.stream) (step_renewal (window_of plan) (opened plan) step)
  last-is = ap (λ (board : BoardOf). last_of board.versions step.stream) steps.3
      ∙ ap (λ (state : Versions). last_of state step.stream) (after-narrows (window_of plan) (opened plan) step steps.1)
      ∙ ap newest (get_or-set_same (opened plan) step.stream _ _ there)
      ∙ push-newest (versions_of (opened plan) step.stream) _

  made-adoptable : (stamp : ℕ) (tube : Tube) → tube ≡ last_of new.versions step.stream →
      IsAdoptable (opening_board plan)
      (record { stream = step.stream; number = number; stamp = stamp; refs = step.inputs; tube = tube })
  made-adoptable stamp tube e = record { next = steps.2; legal = steps.0; tube = e ∙ last-is; narrows = steps.1 }

pub returns : goal.returns
returns c =
    let old : BoardOf = c.args.board.now in
    let new : BoardOf = c.step.new.self in
    let step : Step = record { stream = c.args.stream; inputs = c.args.refs.now } in
    let narrowed : Steps (Ok (stepped.Narrowed c.in-Narrowed.number)) old step new
    = subst (λ (made : Stepped). Steps (Ok made) old step new) c.in-Narrowed.is c.in_ok-number.ensures in
    let steps : Steps (Ok (stepped.Narrowed c.in-Narrowed.number)) (opening_board old.plan) step new
    = subst (λ (board : BoardOf). Steps (Ok (stepped.Narrowed c.in-Narrowed.number)) board step new)
    c.requires.opening narrowed in
    let made : List ℕ → MadeOf = λ refs.
    record { stream = c.args.stream; number = c.in-Narrowed.number; stamp = 1; refs = refs; tube = c.in_ok-tube.tube } in
    let adoptable : IsAdoptable (opening_board old.plan) (made c.args.refs.now)
    = made-adoptable old.plan new step c.in-Narrowed.number steps 1 c.in_ok-tube.tube
    (c.in_ok-tube.ensures ∙ c.last.ensures) in
    let here : IsAdoptable old (made c.args.refs.now)
    = subst (λ (board : BoardOf). IsAdoptable board (made c.args.refs.now)) (sym c.requires.opening) adoptable in
    subst (λ (refs : List ℕ). IsAdoptable old (made refs)) (sym c.of.ensures) here

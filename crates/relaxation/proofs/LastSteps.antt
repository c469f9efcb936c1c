-- Steps from the last versions.
use Rattle.std.proofs.Common.{◌≡◌, ℕ, List, [], ◌∷◌, map, true, refl, sym, ap, ◌∙◌, subst}
use Rattle.flowsheet.specs.Plant.{port, unit_at, origin_of}
use Rattle.relaxation.specs.Tube.{IsWithin}
use Rattle.relaxation.specs.Window.{Window, renewal}
use Rattle.relaxation.specs.Core.{Versions, last_of, named, origin_renewal, step_renewal, is_idle, last_numbers, last_step, IsSettled}
use Rattle.relaxation.proofs.Meets.{within-yes, within-test}

-- the versions with the last numbers are the last
pub named-last : (state : Versions) (streams : List ℕ) →
    named state streams (last_numbers state streams) ≡ map (last_of state) streams
named-last state [] = refl
named-last state (s ∷ streams) = ap (λ tubes. last_of state s ∷ tubes) (named-last state streams)

module _ (window : Window) (state : Versions) (s u p : ℕ) (e : origin_of window.plant s ≡ port u p) where
  -- so the step from them renews from them
  last-renewal : step_renewal window state (last_step window state u s)
      ≡ renewal window u p (map (last_of state) (unit_at window.plant u).reads)
  last-renewal = ap (origin_renewal window state s (last_numbers state (unit_at window.plant u).reads)) e
      ∙ ap (renewal window u p) (named-last state (unit_at window.plant u).reads)

  -- a stream for which it narrows nothing is settled
  pub idle-settled : is_idle window state (last_step window state u s) ≡ true →
      IsSettled window state s (origin_of window.plant s)
  idle-settled h = subst (IsSettled window state s) (sym e)
      (subst (IsWithin (last_of state s)) last-renewal (within-yes _ _ h))

  -- and for one that is settled it narrows nothing
  pub settled-idle : IsSettled window state s (origin_of window.plant s) →
      is_idle window state (last_step window state u s) ≡ true
  settled-idle h = within-test _ _ (subst (IsWithin (last_of state s)) (sym last-renewal)
      (subst (IsSettled window state s) e h))

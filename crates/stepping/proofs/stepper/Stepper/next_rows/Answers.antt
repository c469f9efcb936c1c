-- The end that is kept is answered.
use Rattle.std.proofs.Common.{◌∙◌, refl, sym, ap}
use Rattle.window_accept.specs.Session.{SessionOf, again}
use Rattle.stepping.proofs.stepper.Stepper.next_rows.Goals as goal

pub returns-in-Some : goal.returns-in-Some
returns-in-Some g c =
    again c.in-Some.end (ap (λ (s : SessionOf). s.end) (sym c.self.view_is) ∙ c.in-Some.is) refl refl

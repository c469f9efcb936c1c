-- What the rows of a controller hold.
use Rattle.std.proofs.Common.{◌≡◌, ℕ, ◌<◌, ℤ, pos, List, get_or, arith}
use Rattle.std.specs.Prelude.{slice_index_or}
use Rattle.quant.specs.Interval.{Interval, Holds, IsInside, AllHold, AllInside, wide, point}
use Rattle.quant.proofs.Calls.{place-held, inside-trans, inside-length, read-inside}
use Rattle.quant.proofs.Terms.{place-holds, place-inside}
use Rattle.controllers.specs.declared.controller.Controller.{Controller}
use Rattle.controllers.specs.Controller.{IsSound, state_limits, input_limits}

-- its numbers lie where its limits may
pub integral-held : (controller : Controller) (state : List ℤ) → IsSound controller →
    AllHold (state_limits controller) state → Holds wide (slice_index_or state 0 (pos 0))
integral-held controller state sound h = place-held (state_limits controller) state 0 wide h sound.integral.1

pub input-held : (ins : List ℤ) (n : ℕ) → AllHold input_limits ins →
    Holds (slice_index_or input_limits n (point (pos 0))) (slice_index_or ins n (pos 0))
input-held ins n h = place-holds input_limits ins n h

-- its bands lie there, as they are read
pub integral-inside : (controller : Controller) (states : List Interval) (r : Interval) → IsSound controller →
    AllInside states (state_limits controller) → r ≡ get_or states 0 r → IsInside r wide
integral-inside controller states r sound h e =
    let l = inside-length states (state_limits controller) h in
    read-inside states 0 r wide (omega arith) e
    (inside-trans _ controller.integral_limits _ (place-inside states (state_limits controller) 0 h) sound.integral.1)

pub input-inside : (ins : List Interval) (n : ℕ) (r : Interval) → AllInside ins input_limits → n < 2 →
    r ≡ get_or ins n r →
    IsInside r (slice_index_or input_limits n (point (pos 0)))
input-inside ins n r h b e =
    let l = inside-length ins input_limits h in
    read-inside ins n r _ (omega arith) e (place-inside ins input_limits n h)

-- What lies in the limits lies where operations take it.
use Rattle.std.proofs.Common.{ℤ, pos, to_z, of_z, arith}
use Rattle.std.proofs.lemmas.Int.{ints}
use Rattle.std.specs.Int.{w64}
use Rattle.quant.specs.Interval.{Interval, Holds, IsInside, wide}
use Rattle.quant.specs.Limits.{wide_from}
use Rattle.quant.specs.Operation.{flows, contents}

pub flow-read : (z : ℤ) → Holds (wide_from (pos 0)) z → Holds flows (to_z w64 (of_z w64 z))
flow-read z h = record { above = omega (arith, ints); below = omega (arith, ints) }

pub content-read : (z : ℤ) → Holds wide z → Holds contents (to_z w64 (of_z w64 z))
content-read z h = record { above = omega (arith, ints); below = omega (arith, ints) }

pub flow-inside : (A : Interval) → IsInside A (wide_from (pos 0)) → IsInside A flows
flow-inside A h = record { above = omega (arith, ints); below = omega (arith, ints) }

pub content-inside : (A : Interval) → IsInside A wide → IsInside A contents
content-inside A h = record { above = omega (arith, ints); below = omega (arith, ints) }

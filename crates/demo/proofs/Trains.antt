-- Generated plants: they are small, and have three windows.
use Rattle.std.proofs.Common.{◌≡◌, ℕ, ◌*◌, ◌≤◌, refl, arith}
use Rattle.window_accept.specs.Searching.{AsksForNone}
use Rattle.plant_gen.specs.Generated.{generated_parts}
use Rattle.plant_gen.proofs.Accepted.{is-plant}
use Rattle.plant_gen.proofs.Sources.{streams-counted}
use Rattle.demo.specs.Following.{IsSmallPlant, IsWindowCount}

ticks-are : (n : ℕ) → (generated_parts n).ticks ≡ 48
unfolding generated_parts
ticks-are n = refl

window-is : (n : ℕ) → (generated_parts n).window ≡ 16
unfolding generated_parts
window-is n = refl

no-widths : (n : ℕ) → AsksForNone (generated_parts n).width
unfolding generated_parts
no-widths n = record { flow = refl; conc = refl; temp = refl; signal = refl }

pub train-small : (n : ℕ) → 1 ≤ n → n ≤ 80 → IsSmallPlant (generated_parts n)
train-small n some few = record {
  plant = is-plant n some few;
  ticks = omega (arith, ticks-are n);
  streams = omega (arith, few, streams-counted n);
  widths = no-widths n;
}

pub three-windows : (n count : ℕ) → IsWindowCount (generated_parts n) count → count ≡ 3
three-windows n count all =
    let ticks = ticks-are n in
    let window = window-is n in
    let enough : 48 ≤ count * 16 = rw (ticks, window) at all.enough in
    let least : count ≤ 3 = all.least 3 (rw (ticks, window) (omega arith)) in
    omega (arith, enough, least)

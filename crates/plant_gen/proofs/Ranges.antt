-- The parts of a generated plant are in range.
use Rattle.std.proofs.Common.{ℕ, pos, ◌+◌, ◌*◌, ◌<◌, ◌≤◌, ◌≡◌, true, List, arith, refl}
use Rattle.std.proofs.Common.{codes, flat_map}
use Rattle.std.specs.Fmt.{digits}
use Rattle.std.specs.List.{range_with_len}
use Rattle.std.proofs.lemmas.Int.{ints}
use Rattle.quant.specs.Interval.{point}
use Rattle.quant.specs.declared.limits.Limits.{Limits}
use Rattle.plant_names.specs.Name.{is_name, is_reference}
use Rattle.parts.specs.Parts.{file_parts}
use Rattle.parts.specs.InRange.{IsWide, IsUnitPart, AreInRange, AreOwnLimits, AreWideLimits, AreFeeds, from_to}
use Rattle.parts.specs.declared.units.UnitPart.{UnitPart}
use Rattle.parts.specs.declared.feeds.FeedPart.{FeedPart}
use Rattle.plant_gen.specs.Generated.{mixer_name, tank_name, splitter_name, output_name, taken_in, no_own_limits}
use Rattle.plant_gen.specs.Generated.{mixer_of, tank_of, splitter_of, stage_of, generated_parts, generated_limits}
use Rattle.plant_gen.specs.Generated.{generated_feeds, no_widths}
use Rattle.plant_gen.proofs.Below.{passes-below}
use Rattle.plant_gen.proofs.Stages.{all-stages, units-counted}

-- the names of each stage are names
names-are : (i : ℕ) → i < 80 →
    (is_name (mixer_name i) ≡ true) × (is_name (tank_name i) ≡ true) × (is_name (splitter_name i) ≡ true)
unfolding is_name digits
names-are i h = (
  passes-below (λ j. is_name (mixer_name j)) 80 i refl h,
  passes-below (λ j. is_name (tank_name j)) 80 i refl h,
  passes-below (λ j. is_name (splitter_name j)) 80 i refl h,
)

-- what its units read are references
references-are : (i : ℕ) → i < 80 →
    (is_reference (taken_in i) ≡ true) × (is_reference (output_name (splitter_name i) (codes "second")) ≡ true)
    × (is_reference (output_name (mixer_name i) (codes "out")) ≡ true)
    × (is_reference (output_name (tank_name i) (codes "out")) ≡ true)
unfolding is_name is_reference digits
references-are i h = (
  passes-below (λ j. is_reference (taken_in j)) 80 i refl h,
  passes-below (λ j. is_reference (output_name (splitter_name j) (codes "second"))) 80 i refl h,
  passes-below (λ j. is_reference (output_name (mixer_name j) (codes "out"))) 80 i refl h,
  passes-below (λ j. is_reference (output_name (tank_name j) (codes "out"))) 80 i refl h,
)

-- numbers that are not too great
wide-band : (lo hi : ℕ) → lo ≤ hi → hi ≤ 1000000000000 → IsWide (from_to lo hi)
wide-band lo hi h k =
    (record { ordered = omega (arith, ints) }, record { above = omega (arith, ints); below = omega (arith, ints) })

wide-point : (n : ℕ) → n ≤ 1000000000000 → IsWide (point (pos n))
wide-point n h = wide-band n n (omega arith) h

no-own : AreOwnLimits no_own_limits
no-own = record { flow = tt; conc = tt; temp = tt; volume = tt; signal = tt }

-- the units of each stage
mixer-in : (i : ℕ) → i < 80 → IsUnitPart (mixer_of i)
mixer-in i h = record {
  name = (names-are i h).0;
  kind = (omega arith, omega arith, ((references-are i h).0, ((references-are i h).1, tt)));
  limits = no-own;
}

tank-in : (i : ℕ) → i < 80 → IsUnitPart (tank_of i)
unfolding is_name is_reference
tank-in i h = record {
  name = (names-are i h).1;
  kind = (
    (references-are i h).2,
    refl,
    record { above = omega (arith, ints); below = omega (arith, ints) },
    (
      wide-point (1000 + 10 * i) (omega arith),
      wide-point (100 + i) (omega arith),
      wide-point 0 (omega arith),
      wide-point 310000 (omega arith),
    ),
  );
  limits = no-own;
}

splitter-in : (i : ℕ) → i < 80 → IsUnitPart (splitter_of i)
splitter-in i h = record {
  name = (names-are i h).2;
  kind = ((references-are i h).3, record { above = omega (arith, ints); below = omega (arith, ints) });
  limits = no-own;
}

feeds-in : AreFeeds generated_feeds
unfolding is_name
feeds-in = (
  omega arith,
  (
    record {
      name = refl;
      kind = (
        (
          omega arith,
          omega arith,
          (
            (omega arith, wide-band 90 110 (omega arith) (omega arith)),
            ((omega arith, wide-band 100 120 (omega arith) (omega arith)), tt),
          ),
        ),
        wide-point 1000 (omega arith),
        wide-point 300000 (omega arith),
      );
    },
    (record { name = refl; kind = wide-point 1000000 (omega arith) }, tt),
  ),
)

limits-in : AreWideLimits generated_limits
limits-in = record {
  flow = wide-band 0 100000 (omega arith) (omega arith);
  conc = wide-band 0 100000 (omega arith) (omega arith);
  temp = wide-band 0 1000000 (omega arith) (omega arith);
  volume = wide-band 1 1000000 (omega arith) (omega arith);
  signal = wide-band 0 1000000 (omega arith) (omega arith);
}

pub in_range : (n : ℕ) → 1 ≤ n → n ≤ 80 → AreInRange (generated_parts n)
unfolding generated_parts
in_range n some few = record {
  ticks = (omega arith, omega arith);
  window = (omega arith, omega arith);
  limits = limits-in;
  width = record { flow = tt; conc = tt; temp = tt; signal = tt };
  feeds = feeds-in;
  units = (
    omega (arith, units-counted 0 n),
    omega (arith, units-counted 0 n),
    all-stages IsUnitPart 80 mixer-in tank-in splitter-in 0 n (omega arith),
  );
}

pub made_in_range : (n : ℕ) (limits : Limits) (feeds : List FeedPart) (units : List UnitPart) →
    limits ≡ generated_limits → feeds ≡ generated_feeds → units ≡ flat_map stage_of (range_with_len 0 n) →
    1 ≤ n → n ≤ 80 → AreInRange (file_parts 48 16 limits no_widths feeds units)
unfolding generated_parts
made_in_range n limits feeds units e f g some few = rw (e, f, g) (in_range n some few)

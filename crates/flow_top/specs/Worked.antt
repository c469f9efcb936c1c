-- A worked tank: 1000 mL that take in 10 to 12 mL a tick and lose a hundredth of themselves.
use Rattle.std.specs.Prelude.{ℤ, pos, [], ◌∷◌, codes, None}
use Rattle.quant.specs.Interval.{Interval, point}
use Rattle.parts.specs.Parts.{FileParts}
use Rattle.parts.specs.declared.feeds.FeedPart.{FeedPart}
use Rattle.parts.specs.declared.feeds.FeedBand.TheVariants.{Constant}
use Rattle.parts.specs.declared.feeds.FeedKind.TheVariants.{Material, Signal}
use Rattle.parts.specs.declared.units.UnitPart.{UnitPart}
use Rattle.parts.specs.declared.units.KindPart.TheVariants.{Tank}

-- the band between two numbers
abbrev pub between : ℤ → ℤ → Interval
between lo hi = record { lo = lo; hi = hi }

abbrev pub inflow : FeedPart
inflow = record {
  name = codes "f";
  kind = Material (Constant (between (pos 10) (pos 12))) (Constant (point (pos 100))) (Constant (point (pos 300000)));
}

abbrev pub valve : FeedPart
valve = record { name = codes "v"; kind = Signal (Constant (point (pos 1000000))) }

abbrev pub tank : UnitPart
tank = record {
  name = codes "t1";
  kind = Tank (codes "f") (codes "v") (pos 10000) (point (pos 1000)) (point (pos 10)) (point (pos 0)) (point (pos 300000));
  limits = record { flow = None; conc = None; temp = None; volume = None; signal = None };
}

abbrev pub worked : FileParts
worked = record {
  ticks = 3;
  window = 3;
  limits = record {
    flow = between (pos 0) (pos 1000000);
    conc = between (pos 0) (pos 1000000);
    temp = between (pos 0) (pos 1000000);
    volume = between (pos 1) (pos 1000000);
    signal = between (pos 0) (pos 2000000);
  };
  width = record { flow = None; conc = None; temp = None; signal = None };
  feeds = inflow ∷ valve ∷ [];
  units = tank ∷ [];
}

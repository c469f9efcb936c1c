use Rattle.basic_units.proofs.Mixers.{AreMixed}
use Rattle.basic_units.proofs.mixer.MixerInstant.now_point.Given as goal

-- the streams before this one are mixed
abbrev pub invariant-loop-i : goal.invariant-loop-i
invariant-loop-i l = AreMixed l.ins l.i l.flow l.conc l.temp

-- Words of the proofs: a reader of the contracts needs none of them.
-- What a step on the word tells its pass, and how a pass is cut off another.
use Rattle.std.specs.Prelude.{◌≡◌, ℕ, ◌-◌, ◌<◌, ◌≤◌, true}
use Rattle.atomic_table.specs.Table.{Step, Me}
use Rattle.turn_desk.specs.declared.view.PassView.{PassView}
use Rattle.turn_desk.specs.Turns.{AllBelow, with_number}

-- a pass that found no number left
abbrev pub at_end : PassView → PassView
at_end v = record { limit = v.limit; drawn = v.drawn; ended = true; passes = v.passes - 1 }

abbrev pub with_one_less : PassView → PassView
with_one_less v = record { limit = v.limit; drawn = v.drawn; ended = v.ended; passes = v.passes - 1 }

abbrev pub drew : Step (Unit {0}) → Me (Unit {0}) PassView → ℕ → Me (Unit {0}) PassView → Type 0
drew st me n after = (n < me.0.limit → AllBelow n me.0.drawn × (after.0 ≡ with_number me.0 n)) × (me.0.limit ≤ n → after.0 ≡ at_end me.0)

-- A plant's equations at one tick, read on numbers or on bands.
use Rattle.std.specs.Prelude.{ℕ, ℤ, List, [], map, if◌then◌else◌, slice_index_or, flat_map}
use Rattle.quant.specs.Interval.{Interval}
use Rattle.quant.specs.Term.{Term, value, interval}
use Rattle.flowsheet.specs.Plant.{Plant, PlantUnit}

-- how a term is read from the states and the inputs of a unit
abbrev pub Reader : Type 0 → Type 0
Reader A = List A → List A → Term → A

abbrev pub on_numbers : Plant → Reader ℤ
on_numbers plant = value plant.rounding

abbrev pub on_bands : Plant → Reader Interval
on_bands plant = interval plant.rounding

-- the inputs of a unit: the channels of the streams that it reads, one after another
abbrev pub inputs_of : {A : Type 0} → PlantUnit → (ℕ → List A) → List A
inputs_of unit streams = flat_map streams unit.reads

-- what a unit shows at an output: a register unit by its states alone
abbrev pub shown : {A : Type 0} → Reader A → PlantUnit → ℕ → List A → List A → List A
shown read unit p states inputs = map (read states (if unit.instant then inputs else [])) (slice_index_or unit.view p [])

-- a unit's states at the next tick, from its old states and inputs
abbrev pub stepped : {A : Type 0} → Reader A → PlantUnit → List A → List A → List A
stepped read unit states inputs = map (read states inputs) unit.next

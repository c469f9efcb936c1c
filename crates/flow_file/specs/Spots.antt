-- Words of the proofs: a reader of the contracts needs none of them.
-- Where a value stands, as the code carries it: the place is written only where a refusal names it.
use Rattle.std.specs.Prelude.{◌≡◌, ◌++◌, List, map, string_bytes}
use Rattle.std.specs.Borrow.{Bor}
use Rattle.toml.specs.View.{table_view}
use Rattle.flow_file.specs.declared.fault.TextFault.{TextFault}
use Rattle.flow_file.specs.declared.fault.TextFault.TheVariants as fault
use Rattle.flow_file.specs.declared.fault.Unread.{Unread}
use Rattle.flow_file.specs.declared.fault.Unread.TheVariants as unread
use Rattle.flow_file.specs.declared.spot.Spot.{Spot}
use Rattle.flow_file.specs.declared.spot.Spot.TheVariants as spot
use Rattle.flow_file.specs.declared.spot.Refusal.{Refusal}
use Rattle.flow_file.specs.declared.spot.Refusal.TheVariants as refusal
use Rattle.flow_file.specs.declared.section.Section.{Section as TextSection}
use Rattle.flow_file.specs.Value.{Bytes, item_place, Section}

-- the place of a key, behind what the places of its table's keys begin with; or that of a value in an array
abbrev pub place_of : Spot → Bytes
place_of (spot.Key prefix key) = prefix.now ++ key.now
place_of (spot.Item array index) = item_place array.now index

-- a table of the code, as the definitions see it
abbrev pub seen : TextSection → Section
seen section = record { prefix = string_bytes section.prefix; members = table_view section.table.now }

-- the bytes of each text
abbrev pub texts : List (Bor Bytes) → List Bytes
texts known = map (λ text. text.now) known

-- the refusal of what stands at a place
abbrev pub fault_at : Refusal → Bytes → TextFault
fault_at refusal.Missing place = fault.Missing place
fault_at refusal.WrongType place = fault.WrongType place
fault_at refusal.UnknownKey place = fault.UnknownKey place
fault_at refusal.OutOfRange place = fault.OutOfRange place
fault_at refusal.BadName place = fault.BadName place
fault_at refusal.TooMany place = fault.TooMany place

-- why nothing was read is this refusal, unless memory ran out
abbrev pub IsRefusal : TextFault → Unread → Type 0
IsRefusal refusal (unread.Fault fault) = fault ≡ refusal
IsRefusal refusal unread.NoMemory = Unit {0}

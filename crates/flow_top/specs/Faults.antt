-- What goes wrong, and the status that a command gives it.
use Rattle.std.specs.Prelude.{◌≡◌, Option, Some, None}
use Rattle.flow_edge.specs.declared.status.Status.{Status}
use Rattle.flow_edge.specs.declared.status.Status.TheVariants as status
use Rattle.flow_file.specs.declared.fault.TextFault.{TextFault}
use Rattle.flow_file.specs.declared.fault.TextFault.TheVariants as text
use Rattle.feeds.specs.declared.reader.FeedFault.{FeedFault}
use Rattle.feeds.specs.declared.reader.FeedFault.TheVariants as feed
use Rattle.plant_checks.specs.declared.fault.PlantFault.{PlantFault}
use Rattle.plant_checks.specs.declared.fault.PlantFault.TheVariants as plant
use Rattle.flow_top.specs.declared.words.Command.{Command}
use Rattle.flow_top.specs.declared.words.Command.TheVariants.{Check}
use Rattle.report.specs.declared.fault.TopFault.{TopFault}
use Rattle.report.specs.declared.fault.TopFault.TheVariants as top
use Rattle.flow_top.specs.declared.fault.Stop.{Stop}

-- the refusal of a text, and of the parts that it says, among all faults
unfoldable pub fault_of_text : TextFault → TopFault
fault_of_text text.NotToml = top.NotToml
fault_of_text (text.Format found) = top.Format found
fault_of_text (text.Missing place) = top.Missing place
fault_of_text (text.WrongType place) = top.WrongType place
fault_of_text (text.UnknownKey place) = top.UnknownKey place
fault_of_text (text.OutOfRange place) = top.OutOfRange place
fault_of_text (text.BadName place) = top.BadName place
fault_of_text (text.TooMany place) = top.TooMany place

unfoldable pub fault_of_plant : PlantFault → TopFault
fault_of_plant (plant.Twice name) = top.Twice name
fault_of_plant (plant.NoSource place) = top.NoSource place
fault_of_plant (plant.WrongPort place) = top.WrongPort place
fault_of_plant (plant.BadLimits place) = top.BadLimits place
fault_of_plant (plant.StartOutside place) = top.StartOutside place
fault_of_plant (plant.FeedPieces place) = top.FeedPieces place
fault_of_plant (plant.FeedOutside place) = top.FeedOutside place
fault_of_plant (plant.TableFalls place) = top.TableFalls place
fault_of_plant (plant.ColumnTooFast unit) = top.ColumnTooFast unit
fault_of_plant (plant.InstantLoop unit) = top.InstantLoop unit
fault_of_plant (plant.TooDeep unit) = top.TooDeep unit

-- the fault of a reader of feeds among all faults, of a record that it refuses or of the source of records; none of want of memory
unfoldable pub fault_of_feeds : FeedFault → Option TopFault
fault_of_feeds (feed.BadRecord at) = Some (top.BadRecord at)
fault_of_feeds (feed.UnknownPlace at) = Some (top.UnknownPlace at)
fault_of_feeds (feed.Order at) = Some (top.Order at)
fault_of_feeds (feed.Outside at) = Some (top.Outside at)
fault_of_feeds (feed.TooLong at) = Some (top.FeedTooLong at)
fault_of_feeds feed.ReadFault = Some top.ReadExtra
fault_of_feeds feed.NoMemory = None

-- a fault of a plant's text: it is too long, is not read, or its parts are no plant
pub data IsTextFault (fault : TopFault) : Type 0 where
  too_long : fault ≡ top.TooLong → IsTextFault fault
  unreadable : (found : TextFault) → fault ≡ fault_of_text found → IsTextFault fault
  unbuilt : (found : PlantFault) → fault ≡ fault_of_plant found → IsTextFault fault

-- the status of a fault: a text is refused, a band is too wide, or a device failed
unfoldable pub own_status : TopFault → Status
own_status (top.Words at) = status.Words
own_status top.TooLong = status.Refused
own_status top.NotToml = status.Refused
own_status (top.Format found) = status.Refused
own_status (top.Missing place) = status.Refused
own_status (top.WrongType place) = status.Refused
own_status (top.UnknownKey place) = status.Refused
own_status (top.OutOfRange place) = status.Refused
own_status (top.BadName place) = status.Refused
own_status (top.Twice name) = status.Refused
own_status (top.NoSource place) = status.Refused
own_status (top.WrongPort place) = status.Refused
own_status (top.TooMany place) = status.Refused
own_status (top.BadLimits place) = status.Refused
own_status (top.StartOutside place) = status.Refused
own_status (top.FeedPieces place) = status.Refused
own_status (top.FeedOutside place) = status.Refused
own_status (top.TableFalls place) = status.Refused
own_status (top.ColumnTooFast unit) = status.Refused
own_status (top.InstantLoop unit) = status.Refused
own_status (top.TooDeep unit) = status.Refused
own_status (top.BadRecord at) = status.Refused
own_status (top.UnknownPlace at) = status.Refused
own_status (top.Order at) = status.Refused
own_status (top.Outside at) = status.Refused
own_status (top.FeedTooLong at) = status.Refused
own_status (top.Wide stream channel tick width limit) = status.Wide
own_status top.ReadPlant = status.ReadFault
own_status top.ReadExtra = status.ReadFault
own_status top.WriteOut = status.WriteFault
own_status top.WriteTrace = status.WriteFault

-- the status that a command gives a fault: `check` answers No where units have no ranks, or one above the greatest
unfoldable pub status_of : Command → TopFault → Status
status_of Check (top.InstantLoop unit) = status.No
status_of Check (top.TooDeep unit) = status.No
status_of command fault = own_status fault

-- a fault with that status
abbrev pub stop_by : Command → TopFault → Stop
stop_by command fault = record { fault = fault; status = status_of command fault }

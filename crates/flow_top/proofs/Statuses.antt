-- The status that each command gives a fault, by what is at fault.
use Rattle.std.proofs.Common.{◌≡◌, ◌⊎◌, inl, inr, refl, ap, ◌∙◌, ℕ, List, None}
use Rattle.std.proofs.Common.{Err}
use Rattle.flow_edge.specs.Faults.{Rose}
use Rattle.flow_edge.specs.declared.status.Status.TheVariants as status
use Rattle.plant_checks.specs.declared.fault.PlantFault.{PlantFault}
use Rattle.plant_checks.specs.declared.fault.PlantFault.TheVariants as part
use Rattle.flow_file.specs.declared.fault.TextFault.{TextFault}
use Rattle.flow_file.specs.declared.fault.TextFault.TheVariants as text
use Rattle.flow_top.specs.declared.words.Command.{Command}
use Rattle.flow_top.specs.declared.words.Command.TheVariants.{Run, Direct, Check, Demo}
use Rattle.report.specs.declared.fault.TopFault.{TopFault}
use Rattle.report.specs.declared.fault.TopFault.TheVariants as top
use Rattle.flow_top.specs.Faults.{fault_of_text, fault_of_plant, IsTextFault, own_status, status_of}
use Rattle.flow_top.specs.Faults as faults
use Rattle.flow_top.specs.Judged.{IsJudged, too_long, unreadable, unbuilt, built}
use Rattle.flow_top.specs.Course.{Course}
use Rattle.report.specs.Lines.{constant_line}
use Rattle.flow_top.specs.Uses.{SourceUse, Sinks}
use Rattle.flow_top.specs.Ended.{BrokeOff, BlamedOn}
use Rattle.flow_top.specs.Ended as ended
use Rattle.flow_top.specs.Causes.{IsWriteFault}

-- the refusals of a text are refusals
text-refused : (fault : TextFault) → own_status (fault_of_text fault) ≡ status.Refused
unfolding own_status fault_of_text
text-refused text.NotToml = refl
text-refused (text.Format found) = refl
text-refused (text.Missing place) = refl
text-refused (text.WrongType place) = refl
text-refused (text.UnknownKey place) = refl
text-refused (text.OutOfRange place) = refl
text-refused (text.BadName place) = refl
text-refused (text.TooMany place) = refl

plant-refused : (fault : PlantFault) → own_status (fault_of_plant fault) ≡ status.Refused
unfolding own_status fault_of_plant
plant-refused (part.Twice name) = refl
plant-refused (part.NoSource place) = refl
plant-refused (part.WrongPort place) = refl
plant-refused (part.BadLimits place) = refl
plant-refused (part.StartOutside place) = refl
plant-refused (part.FeedPieces place) = refl
plant-refused (part.FeedOutside place) = refl
plant-refused (part.TableFalls place) = refl
plant-refused (part.ColumnTooFast unit) = refl
plant-refused (part.InstantLoop unit) = refl
plant-refused (part.TooDeep unit) = refl

length-refused : own_status top.TooLong ≡ status.Refused
unfolding own_status
length-refused = refl

pub kind-refused : (fault : TopFault) → IsTextFault fault → own_status fault ≡ status.Refused
kind-refused fault (faults.too_long e) = ap own_status e ∙ length-refused
kind-refused fault (faults.unreadable f e) = ap own_status e ∙ text-refused f
kind-refused fault (faults.unbuilt f e) = ap own_status e ∙ plant-refused f

pub judged-kind : (bytes : List ℕ) (fault : TopFault) → IsJudged bytes (Err fault) → IsTextFault fault
judged-kind bytes fault (too_long long e) = faults.too_long (cc e)
judged-kind bytes fault (unreadable f short read e) = faults.unreadable f (cc e)
judged-kind bytes fault (unbuilt parts f short read verdict e) = faults.unbuilt f (cc e)
judged-kind bytes fault (built parts short read is e) = absurd (cc e)

-- a command answers a refusal by Refused or by No
check_status : (fault : TopFault) → own_status fault ≡ status.Refused →
    (status_of Check fault ≡ status.Refused) ⊎ (status_of Check fault ≡ status.No)
unfolding status_of own_status
check_status (top.InstantLoop unit) e = inr refl
check_status (top.TooDeep unit) e = inr refl
check_status fault e = inl e

pub refusal_status : (command : Command) (fault : TopFault) → own_status fault ≡ status.Refused →
    (status_of command fault ≡ status.Refused) ⊎ (status_of command fault ≡ status.No)
unfolding status_of
refusal_status Run fault e = inl e
refusal_status Direct fault e = inl e
refusal_status Check fault e = check_status fault e
refusal_status (Demo stages) fault e = inl e

-- the status of a failed device
pub read_status : (command : Command) → status_of command top.ReadPlant ≡ status.ReadFault
unfolding status_of own_status
read_status Run = refl
read_status Direct = refl
read_status Check = refl
read_status (Demo stages) = refl

write_status : (command : Command) → status_of command top.WriteOut ≡ status.WriteFault
unfolding status_of own_status
write_status Run = refl
write_status Direct = refl
write_status Check = refl
write_status (Demo stages) = refl

trace_status : (command : Command) → status_of command top.WriteTrace ≡ status.WriteFault
unfolding status_of own_status
trace_status Run = refl
trace_status Direct = refl
trace_status Check = refl
trace_status (Demo stages) = refl

pub broken_status : (command : Command) (course : Course) (sinks : Sinks) (fault : TopFault) → BrokeOff course sinks fault →
    status_of command fault ≡ status.WriteFault
broken_status command c sinks fault (ended.output broke trace) = write_status command
broken_status command c sinks fault (ended.trace traced some front trace rose) = trace_status command

-- the line of a failed sink is constant
pub broken_line : (course : Course) (sinks : Sinks) (fault : TopFault) → BrokeOff course sinks fault →
    constant_line fault ≡ None → ⊥
broken_line c sinks fault (ended.output broke trace) none = cc none
broken_line c sinks fault (ended.trace traced some front trace rose) none = cc none

-- a sink that failed was counted
pub broken_rose : (course : Course) (sinks : Sinks) (fault : TopFault) → BrokeOff course sinks fault →
    ¬ Rose sinks.out.before sinks.out.now → ¬ Rose sinks.trace.before sinks.trace.now → ⊥
broken_rose c sinks fault (ended.output broke trace) o t = o broke.fault
broken_rose c sinks fault (ended.trace traced some front trace rose) o t = t rose

pub broken_count : (course : Course) (sinks : Sinks) (fault : TopFault) → BrokeOff course sinks fault →
    Rose sinks.out.before sinks.out.now ⊎ Rose sinks.trace.before sinks.trace.now
broken_count c sinks fault (ended.output broke trace) = inl broke.fault
broken_count c sinks fault (ended.trace traced some front trace rose) = inr rose

-- the status of a stop, by what it is blamed on
pub data StopKind (command : Command) (fault : TopFault) (extra : SourceUse) (sinks : Sinks) : Type 0 where
  refuses : status_of command fault ≡ status.Refused → StopKind command fault extra sinks
  widens : status_of command fault ≡ status.Wide → StopKind command fault extra sinks
  fails : status_of command fault ≡ status.ReadFault → fault ≡ top.ReadExtra → Rose extra.before extra.now →
      StopKind command fault extra sinks
  breaks : status_of command fault ≡ status.WriteFault → IsWriteFault fault sinks → StopKind command fault extra sinks

kind_by : (command : Command) (fault : TopFault) (extra : SourceUse) (sinks : Sinks) → status_of command fault ≡ own_status fault →
    BlamedOn fault extra sinks → StopKind command fault extra sinks
unfolding own_status
kind_by command (top.BadRecord at) extra sinks own blamed = refuses own
kind_by command (top.UnknownPlace at) extra sinks own blamed = refuses own
kind_by command (top.Order at) extra sinks own blamed = refuses own
kind_by command (top.Outside at) extra sinks own blamed = refuses own
kind_by command (top.FeedTooLong at) extra sinks own blamed = refuses own
kind_by command (top.Wide stream channel tick width limit) extra sinks own blamed = widens own
kind_by command top.ReadExtra extra sinks own blamed = fails own refl blamed
kind_by command top.WriteOut extra sinks own blamed = breaks own (inl (refl, blamed))
kind_by command top.WriteTrace extra sinks own blamed = breaks own (inr (refl, blamed))
kind_by command fault extra sinks own blamed = absurd blamed

check_own : (fault : TopFault) (extra : SourceUse) (sinks : Sinks) → BlamedOn fault extra sinks → status_of Check fault ≡ own_status fault
unfolding own_status status_of
check_own (top.InstantLoop unit) extra sinks blamed = absurd blamed
check_own (top.TooDeep unit) extra sinks blamed = absurd blamed
check_own fault extra sinks blamed = refl

own_is : (command : Command) (fault : TopFault) (extra : SourceUse) (sinks : Sinks) → BlamedOn fault extra sinks →
    status_of command fault ≡ own_status fault
unfolding status_of
own_is Run fault extra sinks blamed = refl
own_is Direct fault extra sinks blamed = refl
own_is Check fault extra sinks blamed = check_own fault extra sinks blamed
own_is (Demo stages) fault extra sinks blamed = refl

pub kind_of : (command : Command) (fault : TopFault) (extra : SourceUse) (sinks : Sinks) → BlamedOn fault extra sinks →
    StopKind command fault extra sinks
kind_of command fault extra sinks blamed = kind_by command fault extra sinks (own_is command fault extra sinks blamed) blamed

pub extra_status : (command : Command) → status_of command top.ReadExtra ≡ status.ReadFault
unfolding status_of own_status
extra_status Run = refl
extra_status Direct = refl
extra_status Check = refl
extra_status (Demo stages) = refl

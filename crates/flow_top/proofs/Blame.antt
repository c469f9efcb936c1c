-- Whom a stop is blamed on, whatever the records say.
use Rattle.std.proofs.Common.{◌≡◌, ◌∙◌, ◌⊎◌, inl, inr, refl, sym, ap, subst, ℕ, ◌≤◌, List, Option, None, Result, Ok, Err, IsErrAnd}
use Rattle.flow_edge.specs.Faults.{Rose}
use Rattle.parts.specs.Parts.{FileParts}
use Rattle.feeds.specs.declared.reader.FeedFault.{FeedFault}
use Rattle.feeds.specs.declared.reader.FeedFault.TheVariants as feed
use Rattle.window_accept.specs.declared.wide.TooWide.{TooWide}
use Rattle.report.specs.declared.fault.TopFault.{TopFault}
use Rattle.report.specs.declared.fault.TopFault.TheVariants as top
use Rattle.flow_top.specs.declared.words.Command.{Command}
use Rattle.flow_top.specs.declared.fault.End.{End}
use Rattle.flow_top.specs.declared.fault.End.TheVariants.{Stopped, NoMemory}
use Rattle.flow_top.specs.Faults.{fault_of_feeds, stop_by}
use Rattle.flow_top.specs.Course.{Course}
use Rattle.flow_top.specs.Courses.{IsWork}
use Rattle.flow_top.specs.WindowsCourse.{wide_fault}
use Rattle.flow_top.specs.Uses.{SourceUse, Sinks}
use Rattle.flow_top.specs.Ended.{WorkEnded, BrokeOff, BlamedOn, IsBlamed, course_end}
use Rattle.flow_top.specs.Ended as ended
use Rattle.flow_top.specs.Steps.{PairEnded, AreCounted, end_by_feeds}
use Rattle.flow_top.specs.Steps as pair
use Rattle.flow_top.proofs.Pairs.{both_sinks, IsNext, rose-next}
use Rattle.flow_top.proofs.Writes.{rose-later}
use Rattle.flow_top.proofs.Work.{this-end}

-- a device that counted a fault in a part of the work did so in all of it
pub blamed-more : (fault : TopFault) (extra more : SourceUse) (sinks both : Sinks) →
    (Rose extra.before extra.now → Rose more.before more.now) → (Rose sinks.out.before sinks.out.now → Rose both.out.before both.out.now) →
    (Rose sinks.trace.before sinks.trace.now → Rose both.trace.before both.trace.now) → BlamedOn fault extra sinks → BlamedOn fault more both
blamed-more (top.BadRecord at) extra more sinks both e o t h = tt
blamed-more (top.UnknownPlace at) extra more sinks both e o t h = tt
blamed-more (top.Order at) extra more sinks both e o t h = tt
blamed-more (top.Outside at) extra more sinks both e o t h = tt
blamed-more (top.FeedTooLong at) extra more sinks both e o t h = tt
blamed-more (top.Wide stream channel tick width limit) extra more sinks both e o t h = tt
blamed-more top.ReadExtra extra more sinks both e o t h = e h
blamed-more top.WriteOut extra more sinks both e o t h = o h
blamed-more top.WriteTrace extra more sinks both e o t h = t h
blamed-more fault extra more sinks both e o t h = absurd h

end-more : (command : Command) (end : End) (extra more : SourceUse) (sinks both : Sinks) →
    (Rose extra.before extra.now → Rose more.before more.now) → (Rose sinks.out.before sinks.out.now → Rose both.out.before both.out.now) →
    (Rose sinks.trace.before sinks.trace.now → Rose both.trace.before both.trace.now) → IsBlamed command (Err end) extra sinks →
    IsBlamed command (Err end) more both
end-more command (Stopped stop) extra more sinks both e o t h = (h.0, blamed-more stop.fault extra more sinks both e o t h.1)
end-more command NoMemory extra more sinks both e o t h = tt

pub result-more : (command : Command) (ending : Result (Unit {0}) End) (extra more : SourceUse) (sinks both : Sinks) →
    (Rose extra.before extra.now → Rose more.before more.now) → (Rose sinks.out.before sinks.out.now → Rose both.out.before both.out.now) →
    (Rose sinks.trace.before sinks.trace.now → Rose both.trace.before both.trace.now) → IsBlamed command ending extra sinks →
    IsBlamed command ending more both
result-more command (Ok done) extra more sinks both e o t h = tt
result-more command (Err end) extra more sinks both e o t h = end-more command end extra more sinks both e o t h

this-blamed : (command : Command) (extra : SourceUse) (sinks : Sinks) (result : Result (Unit {0}) End) (end : End) →
    IsErrAnd result (λ e. e ≡ end) → IsBlamed command (Err end) extra sinks → IsBlamed command result extra sinks
this-blamed command extra sinks result end h blamed =
    subst (λ r. IsBlamed command r extra sinks) (sym (this-end result end h)) blamed

-- a sink that failed
pair-end : (command : Command) (extra : SourceUse) (sinks : Sinks) (rows : List ℕ) (steps : Option (List ℕ)) (result : Result (Unit {0}) End) →
    PairEnded command sinks rows steps result → IsBlamed command result extra sinks
pair-end command extra sinks rows steps result (pair.whole out trace) = tt
pair-end command extra sinks rows steps result (pair.output out trace) = (refl, out.fault)
pair-end command extra sinks rows steps result (pair.trace text is out trace) = (refl, trace.fault)

pub pair-blamed : (command : Command) (extra : SourceUse) (sinks : Sinks) (rows : List ℕ) (steps : Option (List ℕ))
    (result : Result (Unit {0}) End) (end : End) → IsErrAnd result (λ e. e ≡ end) → PairEnded command sinks rows steps (Err end) →
    IsBlamed command result extra sinks
pair-blamed command extra sinks rows steps result end h e =
    this-blamed command extra sinks result end h (pair-end command extra sinks rows steps (Err end) e)

pub next-blamed : (command : Command) (extra : SourceUse) (first second : Sinks) (rows : List ℕ) (steps : Option (List ℕ))
    (result : Result (Unit {0}) End) (end : End) → AreCounted first → IsNext first.out second.out → IsNext first.trace second.trace →
    IsErrAnd result (λ e. e ≡ end) → PairEnded command second rows steps (Err end) →
    IsBlamed command result extra (both_sinks first second)
next-blamed command extra first second rows steps result end counted out_next trace_next h e =
    this-blamed command extra (both_sinks first second) result end h
    (end-more command end extra extra second (both_sinks first second) (λ r. r) (rose-next first.out second.out counted.out out_next)
    (rose-next first.trace second.trace counted.trace trace_next) (pair-end command extra second rows steps (Err end) e))

-- the texts of a window that were not made
pub texts-blamed : (command : Command) (extra : SourceUse) (sinks : Sinks) (mid : ℕ) (result : Result (Unit {0}) End) (end : End) →
    extra.before ≤ mid → IsErrAnd result (λ e. e ≡ end) → (later : SourceUse) → later.before ≡ mid → later.now ≡ extra.now →
    ((sinks : Sinks) → IsBlamed command (Err end) later sinks) → IsBlamed command result extra sinks
texts-blamed command extra sinks mid result end counted h later before now blamed =
    this-blamed command extra sinks result end h
    (end-more command end later extra sinks sinks
    (λ r. rose-later extra.before mid extra.now counted
    (subst (λ b. Rose b extra.now) before (subst (λ n. Rose later.before n) now r)))
    (λ r. r) (λ r. r) (blamed sinks))

-- a band that is too wide
pub wide-blamed : (command : Command) (parts : FileParts) (place : TooWide) (end : End) (extra : SourceUse) →
    (end ≡ Stopped (stop_by command (wide_fault parts place))) ⊎ (end ≡ NoMemory) → (sinks : Sinks) →
    IsBlamed command (Err end) extra sinks
wide-blamed command parts place end extra (inl e) sinks = subst (λ end. IsBlamed command (Err end) extra sinks) (sym e) (refl, tt)
wide-blamed command parts place end extra (inr e) sinks = subst (λ end. IsBlamed command (Err end) extra sinks) (sym e) tt

-- the fault of a reader
pub feeds-blamed : (command : Command) (fault : FeedFault) (extra : SourceUse) → (fault ≡ feed.ReadFault → Rose extra.before extra.now) →
    (sinks : Sinks) → IsBlamed command (Err (end_by_feeds command (fault_of_feeds fault))) extra sinks
unfolding fault_of_feeds
feeds-blamed command (feed.BadRecord at) extra failed sinks = (refl, tt)
feeds-blamed command (feed.UnknownPlace at) extra failed sinks = (refl, tt)
feeds-blamed command (feed.Order at) extra failed sinks = (refl, tt)
feeds-blamed command (feed.Outside at) extra failed sinks = (refl, tt)
feeds-blamed command (feed.TooLong at) extra failed sinks = (refl, tt)
feeds-blamed command feed.ReadFault extra failed sinks = (refl, failed refl)
feeds-blamed command feed.NoMemory extra failed sinks = tt

-- the work of a command whose course nothing stops
broken-blamed : (command : Command) (course : Course) (extra : SourceUse) (sinks : Sinks) (fault : TopFault) → BrokeOff course sinks fault →
    BlamedOn fault extra sinks
broken-blamed command course extra sinks fault (ended.output broke trace) = broke.fault
broken-blamed command course extra sinks fault (ended.trace traced some front trace rose) = rose

pub unstopped-blamed : (command : Command) (parts : FileParts) (records : Option (List ℕ)) (extra : SourceUse) (sinks : Sinks)
    (ending : Result (Unit {0}) End) → ((course : Course) → IsWork command parts records course → course.stop ≡ None) →
    WorkEnded command parts records extra sinks ending → IsBlamed command ending extra sinks
unstopped-blamed command parts records extra sinks ending unstopped (ended.through course work stood read e) =
    subst (λ r. IsBlamed command r extra sinks) (sym (e ∙ ap course_end (unstopped course work))) tt
unstopped-blamed command parts records extra sinks ending unstopped (ended.unread course k work stood less rose e) =
    subst (λ r. IsBlamed command r extra sinks) (sym e) (refl, rose)
unstopped-blamed command parts records extra sinks ending unstopped (ended.broken course fault work some broke e) =
    subst (λ r. IsBlamed command r extra sinks) (sym e) (refl, broken-blamed command course extra sinks fault broke)
unstopped-blamed command parts records extra sinks ending unstopped (ended.early o e) =
    subst (λ r. IsBlamed command r extra sinks) (sym e) tt
unstopped-blamed command parts records extra sinks ending unstopped (ended.within course k work stood less e) =
    subst (λ r. IsBlamed command r extra sinks) (sym e) tt

-- The record that a text of records is refused by, among all faults.
use Rattle.std.proofs.Common.{◌≡◌, ◌∙◌, refl, sym, ap, subst, ℕ, ◌+◌, Bool, true, false, List, [], ◌∷◌, Option, Some, None, Result, Ok, Err, if◌then◌else◌, bytes_eq}
use Rattle.flow_edge.specs.declared.status.Status.TheVariants as status
use Rattle.parts.specs.Parts.{FileParts}
use Rattle.feeds.specs.declared.record.FeedChannel.{FeedChannel}
use Rattle.feeds.specs.declared.record.Record.{Record}
use Rattle.feeds.specs.declared.reader.FeedFault.{FeedFault}
use Rattle.feeds.specs.declared.reader.FeedFault.TheVariants as feed
use Rattle.feeds.specs.Records.{Written, written_in, place_in, judged_at, judged_as, judged, ReadRecords, refused_by, Entry, whole, cut_off, read_on, read_from, read_text, record_header, record_entries}
use Rattle.feeds.specs.Given.{refusal_by}
use Rattle.report.specs.declared.fault.TopFault.{TopFault}
use Rattle.report.specs.declared.fault.TopFault.TheVariants as top
use Rattle.flow_top.specs.declared.words.Command.{Command}
use Rattle.flow_top.specs.declared.words.Command.TheVariants.{Run, Direct, Check, Demo}
use Rattle.flow_top.specs.Faults.{fault_of_feeds, own_status, status_of, stop_by}

-- a fault of a record
abbrev pub IsOfRecord : FeedFault → Type 0
IsOfRecord feed.ReadFault = ⊥
IsOfRecord feed.NoMemory = ⊥
IsOfRecord fault = Unit {0}

this-fault : (found fault : FeedFault) → IsOfRecord found → Some found ≡ Some fault → IsOfRecord fault
this-fault found fault is e = let same : found ≡ fault = cc e in subst IsOfRecord same is

this-error : (found fault : FeedFault) → IsOfRecord found → (answer : Result Record FeedFault) → answer ≡ Err found →
    answer ≡ Err fault → IsOfRecord fault
this-error found fault is answer e d = let same : found ≡ fault = cc (e, d) in subst IsOfRecord same is

either : {A : Type 0} (P : A → Type 0) (b : Bool) (x y : A) → P x → P y → P (if b then x else y)
either P true x y h l = h
either P false x y h l = l

-- what refuses a record is such a fault
abbrev pub AnswersRecords : Result Record FeedFault → Type 0
AnswersRecords answer = (fault : FeedFault) → answer ≡ Err fault → IsOfRecord fault

refuses : (found : FeedFault) → IsOfRecord found → AnswersRecords (Err found)
refuses found is fault e = this-error found fault is (Err found) refl e

takes : (one : Record) → AnswersRecords (Ok one)
takes one fault e = absurd (cc e)

judged_at-answers : (parts : FileParts) (at before : ℕ) (written : Written) (place : Option FeedChannel) →
    AnswersRecords (judged_at parts at before written place)
judged_at-answers parts at before written None = refuses (feed.UnknownPlace at) tt
judged_at-answers parts at before written (Some place) =
    either AnswersRecords _ _ _ (refuses (feed.Order at) tt)
    (either AnswersRecords _ _ _ (takes _) (refuses (feed.Outside at) tt))

judged-answers : (parts : FileParts) (at before : ℕ) (written : Option Written) → AnswersRecords (judged_as parts at before written)
judged-answers parts at before None = refuses (feed.BadRecord at) tt
judged-answers parts at before (Some written) = judged_at-answers parts at before written (place_in parts written.name)

abbrev pub ReadsRecords : ReadRecords → Type 0
ReadsRecords read = (fault : FeedFault) → read.refusal ≡ Some fault → IsOfRecord fault

refused-reads : (found : FeedFault) → IsOfRecord found → ReadsRecords (refused_by found)
refused-reads found is fault e = this-fault found fault is e

on-reads : (answer : Result Record FeedFault) → AnswersRecords answer → (after : Record → ReadRecords) →
    ((first : Record) → ReadsRecords (after first)) → ReadsRecords (read_on answer after)
on-reads (Ok first) h after g fault e = g first fault e
on-reads (Err found) h after g fault e = h fault (ap Err (let same : found ≡ fault = cc e in same))

from-reads : (parts : FileParts) (at before : ℕ) (entries : List Entry) → ReadsRecords (read_from parts at before entries)
from-reads parts at before [] fault e = absurd (cc e)
from-reads parts at before (cut_off ∷ rest) fault e = this-fault (feed.TooLong at) fault tt e
from-reads parts at before (whole line ∷ rest) fault e =
    on-reads (judged parts at before line) (judged-answers parts at before (written_in line))
    (λ first. read_from parts (at + 1) first.tick rest) (λ first. from-reads parts (at + 1) first.tick rest) fault e

text-reads : (parts : FileParts) (entries : List Entry) → ReadsRecords (read_text parts entries)
text-reads parts [] = refused-reads (feed.BadRecord 1) tt
text-reads parts (cut_off ∷ rest) = refused-reads (feed.TooLong 1) tt
text-reads file (whole line ∷ rest) =
    either ReadsRecords (bytes_eq line record_header) (read_from file 2 0 rest) (refused_by (feed.BadRecord 1))
    (from-reads file 2 0 rest) (refused-reads (feed.BadRecord 1) tt)

abbrev pub IsOne : Option FeedFault → Type 0
IsOne refusal = (fault : FeedFault) → refusal ≡ Some fault → IsOfRecord fault

refusal-of : (parts : FileParts) (records : Option (List ℕ)) (end : ℕ) → IsOne (refusal_by parts records end)
refusal-of parts None end fault e = absurd (cc e)
refusal-of parts (Some text) end fault e =
    either IsOne _ _ None (text-reads parts (record_entries text)) (λ f d. absurd (cc d)) fault e

-- such a fault is one of those that a command stops by, with the status of refused ones
pub record RefusedAs (found : FeedFault) : Type 0 where
  pub fault : TopFault
  pub same : fault_of_feeds found ≡ Some fault
  pub status_is : own_status fault ≡ status.Refused

refused-as : (found : FeedFault) → IsOfRecord found → RefusedAs found
unfolding fault_of_feeds own_status
refused-as (feed.BadRecord at) is = record { fault = top.BadRecord at; same = refl; status_is = refl }
refused-as (feed.UnknownPlace at) is = record { fault = top.UnknownPlace at; same = refl; status_is = refl }
refused-as (feed.Order at) is = record { fault = top.Order at; same = refl; status_is = refl }
refused-as (feed.Outside at) is = record { fault = top.Outside at; same = refl; status_is = refl }
refused-as (feed.TooLong at) is = record { fault = top.FeedTooLong at; same = refl; status_is = refl }
refused-as feed.ReadFault is = absurd is
refused-as feed.NoMemory is = absurd is

pub record-refused : (parts : FileParts) (records : Option (List ℕ)) (end : ℕ) (found : FeedFault) →
    refusal_by parts records end ≡ Some found → RefusedAs found
record-refused parts records end found e = refused-as found (refusal-of parts records end found e)

-- the fault of a reader has one status, whatever the command
other-status : (found : FeedFault) (fault : TopFault) → fault_of_feeds found ≡ Some fault → status_of Check fault ≡ own_status fault
unfolding fault_of_feeds own_status status_of
other-status (feed.BadRecord at) fault e = let same : top.BadRecord at ≡ fault = cc e in subst (λ f. status_of Check f ≡ own_status f) same refl
other-status (feed.UnknownPlace at) fault e = let same : top.UnknownPlace at ≡ fault = cc e in subst (λ f. status_of Check f ≡ own_status f) same refl
other-status (feed.Order at) fault e = let same : top.Order at ≡ fault = cc e in subst (λ f. status_of Check f ≡ own_status f) same refl
other-status (feed.Outside at) fault e = let same : top.Outside at ≡ fault = cc e in subst (λ f. status_of Check f ≡ own_status f) same refl
other-status (feed.TooLong at) fault e = let same : top.FeedTooLong at ≡ fault = cc e in subst (λ f. status_of Check f ≡ own_status f) same refl
other-status feed.ReadFault fault e = let same : top.ReadExtra ≡ fault = cc e in subst (λ f. status_of Check f ≡ own_status f) same refl
other-status feed.NoMemory fault e = absurd (cc e)

pub feed-status : (command : Command) (found : FeedFault) (fault : TopFault) → fault_of_feeds found ≡ Some fault →
    status_of command fault ≡ own_status fault
unfolding status_of
feed-status Run found fault e = refl
feed-status Direct found fault e = refl
feed-status Check found fault e = other-status found fault e
feed-status (Demo stages) found fault e = refl

pub feed-stops : (one other : Command) (found : FeedFault) (fault : TopFault) → fault_of_feeds found ≡ Some fault →
    stop_by one fault ≡ stop_by other fault
feed-stops one other found fault e =
    ap (λ s. record { fault = fault; status = s }) (feed-status one found fault e ∙ sym (feed-status other found fault e))

-- How the work of a request on a plant ends, by whether it asks for records.
use Rattle.std.proofs.Common.{◌≡◌, ◌∙◌, inl, inr, refl, sym, ap, subst, ℕ, false, List, Option, Some, None, Result, arith}
use Rattle.flow_edge.specs.Faults.{Rose}
use Rattle.parts.specs.Parts.{FileParts}
use Rattle.feeds.specs.ReaderOf.{ReaderOf}
use Rattle.feeds.specs.Standing.{Stands}
use Rattle.flow_top.specs.declared.words.Command.{Command}
use Rattle.flow_top.specs.declared.words.Request.{Request}
use Rattle.flow_top.specs.declared.fault.End.{End}
use Rattle.flow_top.specs.Words.{reads_records}
use Rattle.flow_top.specs.Course.{Course}
use Rattle.flow_top.specs.Courses.{IsWork}
use Rattle.flow_top.specs.Uses.{SourceUse, Sinks, IsUntouched}
use Rattle.flow_top.specs.Ended.{HasParts, WorkEnded, CommandEnded, AreTold, records_of, records_for, IsBlamed}
use Rattle.plant_gen.specs.Generated.{generated_parts}
use Rattle.flow_top.specs.declared.words.Command.TheVariants.{Demo}
use Rattle.flow_top.specs.Ended as ended
use Rattle.flow_top.specs.Steps.{IsAsked, RequestEnded}
use Rattle.flow_top.proofs.Blame.{result-more, unstopped-blamed}

-- a reader over a source that tells its text stands in this
pub stands-over : (one parts : FileParts) (reader : ReaderOf) (left : Option (List ℕ)) (text : List ℕ) (faults : ℕ) → one ≡ parts →
    left ≡ Some text → Stands one (Some text) (record { reader = reader; left = Some text; faults = faults }) →
    Stands parts (Some text) (record { reader = reader; left = left; faults = faults })
stands-over one parts reader left text faults same told stands =
    subst (λ parts. Stands parts (Some text) (record { reader = reader; left = left; faults = faults })) same
    (subst (λ left. Stands one (Some text) (record { reader = reader; left = left; faults = faults })) (sym told) stands)

-- with records
pub recorded : (request : Request) (at : ℕ) (parts : FileParts) (extra : SourceUse) (sinks : Sinks) (ending : Result (Unit {0}) End) →
    request.feeds ≡ Some at →
    ((text : List ℕ) → extra.text ≡ Some text → WorkEnded request.command parts (Some text) extra sinks ending) →
    IsBlamed request.command ending extra sinks → RequestEnded request parts extra sinks ending
recorded request at parts extra sinks ending asks work blamed = record {
  worked = λ told. elim told [
    | inl none ↦ absurd (cc (none, asks))
    | inr text ↦
        subst (λ records. WorkEnded request.command parts records extra sinks ending)
        (sym (ap (λ feeds. records_of feeds extra.text) asks ∙ text.1)) (work text.0 text.1)
  ];
  blamed = blamed;
  unasked = λ none. absurd (cc (none, asks));
}

-- without records, whatever becomes of their source
other-source : (command : Command) (parts : FileParts) (extra other : SourceUse) (sinks : Sinks) (ending : Result (Unit {0}) End) →
    (Rose extra.before extra.now → ⊥) → WorkEnded command parts None extra sinks ending → WorkEnded command parts None other sinks ending
other-source command parts extra other sinks ending none (ended.through course work stood read e) =
    ended.through course work stood (λ whole. tt) e
other-source command parts extra other sinks ending none (ended.unread course k work stood less rose e) = absurd (none rose)
other-source command parts extra other sinks ending none (ended.broken course fault work some broke e) =
    ended.broken course fault work some broke e
other-source command parts extra other sinks ending none (ended.early o e) = ended.early o e
other-source command parts extra other sinks ending none (ended.within course k work stood less e) =
    ended.within course k work stood less e

pub unrecorded : (request : Request) (parts : FileParts) (none extra : SourceUse) (sinks : Sinks) (ending : Result (Unit {0}) End) →
    request.feeds ≡ None → (Rose none.before none.now → ⊥) → IsUntouched extra →
    WorkEnded request.command parts None none sinks ending → IsBlamed request.command ending none sinks →
    RequestEnded request parts extra sinks ending
unrecorded request parts none extra sinks ending asks unfailed untouched work blamed = record {
  worked = λ told.
      subst (λ records. WorkEnded request.command parts records extra sinks ending)
      (sym (ap (λ feeds. records_of feeds extra.text) asks))
      (other-source request.command parts none extra sinks ending unfailed work);
  blamed = result-more request.command ending none extra sinks sinks (λ r. absurd (unfailed r)) (λ r. r) (λ r. r) blamed;
  unasked = λ _. untouched;
}

-- a source of none has not failed
pub unfailed : Rose 0 0 → ⊥
unfailed r = omega (arith, r)

-- a command that reads no records has none
pub unread-of : (request : Request) (command : Command) (parts : FileParts) (extra : SourceUse) (sinks : Sinks)
    (ending : Result (Unit {0}) End) → request.command ≡ command → reads_records command ≡ false → IsAsked request → IsUntouched extra →
    ((course : Course) → IsWork command parts None course → course.stop ≡ None) → WorkEnded command parts None extra sinks ending →
    RequestEnded request parts extra sinks ending
unread-of request command parts extra sinks ending is reads asked untouched unstopped work =
    let none = asked.unread (ap reads_records is ∙ reads) in record {
      worked = λ told.
          subst (λ command. WorkEnded command parts (records_for request extra) extra sinks ending) (sym is)
          (subst (λ records. WorkEnded command parts records extra sinks ending)
          (sym (ap (λ feeds. records_of feeds extra.text) none)) work);
      blamed = subst (λ command. IsBlamed command ending extra sinks) (sym is)
          (unstopped-blamed command parts None extra sinks ending unstopped work);
      unasked = λ _. untouched;
    }

-- `demo` has its plant without a source
pub generated : (request : Request) (stages : ℕ) (plant extra : SourceUse) (sinks : Sinks) (ending : Result (Unit {0}) End) →
    request.command ≡ Demo stages → IsAsked request → IsUntouched plant → IsUntouched extra →
    WorkEnded (Demo stages) (generated_parts stages) None extra sinks ending → CommandEnded request plant extra sinks ending
generated request stages plant extra sinks ending is asked unread still work =
    let ends = unread-of request (Demo stages) (generated_parts stages) extra sinks ending is refl asked still
    (λ course done. done.follows.stop) work in
    ended.worked (generated_parts stages)
    (subst (λ command. HasParts command plant (generated_parts stages)) (sym is) (refl, unread))
    ends.worked ends.blamed ends.unasked

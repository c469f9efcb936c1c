-- The one end of a command on the text of its plant.
use Rattle.std.proofs.Common.{◌≡◌, refl, sym, ap, ◌∙◌, subst, ℕ, List, Option, Some, None, IfSome}
use Rattle.std.proofs.Common.{Ok, Err}
use Rattle.parts.specs.Parts.{FileParts}
use Rattle.plant.specs.Sound.{IsPlant}
use Rattle.flow_top.specs.declared.words.Command.{Command}
use Rattle.flow_top.specs.declared.words.Command.TheVariants.{Run, Direct, Check, Demo}
use Rattle.flow_top.specs.declared.fault.Stop.{Stop}
use Rattle.report.specs.declared.fault.TopFault.{TopFault}
use Rattle.flow_top.specs.Faults.{stop_by}
use Rattle.flow_top.specs.Judged.{Judgement, IsJudged, too_long, unreadable, unbuilt, built}
use Rattle.flow_top.specs.Courses.{IsWork}
use Rattle.flow_top.specs.Uses.{SourceUse}
use Rattle.flow_top.specs.Ended.{IsRefused}
use Rattle.flow_top.specs.Causes.{IsEndOn, refusal, course}
use Rattle.flow_top.proofs.Judging.{judgement-unique}
use Rattle.flow_top.proofs.Courses.{AreOne, AreFound, work-agrees, work-exists}
use Rattle.flow_top.specs.Courses.{ReadsPlant}
use Rattle.flow_top.specs.Ended.{HasParts}
use Rattle.flow_top.specs.Causes.{TellsJudged, IsGiven}
use Rattle.plant_gen.specs.Generated.{generated_parts}
use Rattle.flow_top.proofs.Courses.{demo_course, demo-work}

-- judged parts are a plant
pub judged-plant : (bytes : List ℕ) (parts : FileParts) → IsJudged bytes (Ok parts) → IsPlant parts
judged-plant bytes parts (too_long long e) = absurd (cc e)
judged-plant bytes parts (unreadable f short read e) = absurd (cc e)
judged-plant bytes parts (unbuilt p f short read verdict e) = absurd (cc e)
judged-plant bytes parts (built p short read is e) = let same : p ≡ parts = cc e in subst IsPlant same is

-- each command has one judgement of its plant
told-unique : (text : Option (List ℕ)) (one other : Judgement) → TellsJudged text one → TellsJudged text other → one ≡ other
told-unique None one other a b = absurd a
told-unique (Some text) one other a b = judgement-unique text one other a b

pub given-unique : (command : Command) (text : Option (List ℕ)) (one other : Judgement) → IsGiven command text one →
    IsGiven command text other → one ≡ other
given-unique Run text one other a b = told-unique text one other a b
given-unique Direct text one other a b = told-unique text one other a b
given-unique Check text one other a b = told-unique text one other a b
given-unique (Demo stages) text one other a b = a ∙ sym b

-- a command has one end on a text with records
pub end-unique : AreOne → (command : Command) (text records : Option (List ℕ)) (one other : Option Stop) →
    IsEndOn command text records one → IsEndOn command text records other → one ≡ other
end-unique unique command text records one other (refusal f j e) (refusal g k d) =
    let same : f ≡ g = cc (given-unique command text (Err f) (Err g) j k) in
    e ∙ ap (λ fault. Some (stop_by command fault)) same ∙ sym d
end-unique unique command text records one other (refusal f j e) (course parts c k w d) =
    absurd (cc (given-unique command text (Err f) (Ok parts) j k))
end-unique unique command text records one other (course parts c k w d) (refusal f j e) =
    absurd (cc (given-unique command text (Err f) (Ok parts) j k))
end-unique unique command text records one other (course p a j w e) (course q b k v d) =
    let same : q ≡ p = cc (given-unique command text (Ok q) (Ok p) k j) in
    let moved : IsWork command p records b = subst (λ parts. IsWork command parts records b) same v in
    e ∙ (work-agrees unique command p records a b w.follows moved.follows).stop ∙ sym d

-- a text that is judged, under a command that reads one
pub given-judged : (command : Command) (text : Option (List ℕ)) (bytes : List ℕ) (judgement : Judgement) → ReadsPlant command →
    text ≡ Some bytes → IsJudged bytes judgement → IsGiven command text judgement
given-judged Run text bytes judgement reads told judged = subst (λ t. TellsJudged t judgement) (sym told) judged
given-judged Direct text bytes judgement reads told judged = subst (λ t. TellsJudged t judgement) (sym told) judged
given-judged Check text bytes judgement reads told judged = subst (λ t. TellsJudged t judgement) (sym told) judged
given-judged (Demo stages) text bytes judgement reads told judged = absurd reads

-- a command that has an end is told of its plant, and so of what the source says
told-if : (text : Option (List ℕ)) (any judgement : Judgement) → TellsJudged text any →
    IfSome text (λ bytes. IsJudged bytes judgement) → TellsJudged text judgement
told-if None any judgement told says = absurd told
told-if (Some text) any judgement told says = says

pub given-parts : (command : Command) (plant : SourceUse) (parts : FileParts) (any : Judgement) → IsGiven command plant.text any →
    HasParts command plant parts → IsGiven command plant.text (Ok parts)
given-parts Run plant parts any told has = told-if plant.text any (Ok parts) told has.text
given-parts Direct plant parts any told has = told-if plant.text any (Ok parts) told has.text
given-parts Check plant parts any told has = told-if plant.text any (Ok parts) told has.text
given-parts (Demo stages) plant parts any told has = ap Ok has.0

pub given-refusal : (command : Command) (plant : SourceUse) (fault : TopFault) (any : Judgement) → ReadsPlant command →
    IsGiven command plant.text any → IsRefused plant fault → IsGiven command plant.text (Err fault)
given-refusal Run plant fault any reads told is = told-if plant.text any (Err fault) told is.text
given-refusal Direct plant fault any reads told is = told-if plant.text any (Err fault) told is.text
given-refusal Check plant fault any reads told is = told-if plant.text any (Err fault) told is.text
given-refusal (Demo stages) plant fault any reads told is = absurd reads

pub end-given : (command : Command) (text records : Option (List ℕ)) (end : Option Stop) → IsEndOn command text records end →
    (judgement : Judgement) × IsGiven command text judgement
end-given command text records end (refusal fault given e) = (Err fault, given)
end-given command text records end (course parts c given work e) = (Ok parts, given)

-- a command that reads a plant has an end on a text that is judged, with each text of records
pub end-exists : AreFound → (command : Command) (bytes : List ℕ) (records : Option (List ℕ)) (judgement : Judgement) →
    ReadsPlant command → IsJudged bytes judgement → (end : Option Stop) × IsEndOn command (Some bytes) records end
end-exists find command bytes records (Err fault) reads j =
    (Some (stop_by command fault), refusal fault (given-judged command (Some bytes) bytes (Err fault) reads refl j) refl)
end-exists find command bytes records (Ok parts) reads j =
    let work = work-exists find command parts records (judged-plant bytes parts j) in
    (work.0.stop, course parts work.0 (given-judged command (Some bytes) bytes (Ok parts) reads refl j) work.1 refl)

-- a summary has one, whatever the text
pub demo-end : (stages : ℕ) (text records : Option (List ℕ)) → IsPlant (generated_parts stages) → IsEndOn (Demo stages) text records None
demo-end stages text records plant =
    course (generated_parts stages) (demo_course stages) refl (demo-work stages (generated_parts stages) records plant) refl

-- From what reading gave to what the plant source says.
use Rattle.std.proofs.Common.{◌≡◌, ◌+◌, ◌<◌, ◌≤◌, ℕ, true, false, List, [], length, drop, Option, Some, None, IfSome}
use Rattle.std.proofs.Common.{Err, sym, ap, subst, ◌∙◌, if◌then◌else◌, arith}
use Rattle.std.proofs.lemmas.List.{take_all}
use Rattle.std.proofs.lemmas.Bool.{false≢true}
use Rattle.flow_edge.specs.ReadText.{ReadText, ReadsUp}
use Rattle.report.specs.declared.fault.TopFault.TheVariants as top
use Rattle.flow_top.specs.Judged.{Judgement, IsJudged, most_bytes}
use Rattle.flow_top.proofs.Judging.{long-judged}

not_more : (n m : ℕ) → ¬ (m < n) → n ≤ m
not_more n m h = omega arith

-- a source with more bytes than these is refused
pub more-refused : (source left : Option (List ℕ)) (up : ReadText) →
    IfSome source (λ text. ReadsUp most_bytes text up left) → up.more ≡ true →
    IfSome source (λ text. IsJudged text (Err top.TooLong))
more-refused None left up h e = tt
more-refused (Some text) left up h e = long-judged text (h.more.0 e)

-- a text that was read whole
read-whole : (text : List ℕ) (up : ReadText) (left : Option (List ℕ)) → ReadsUp most_bytes text up left → up.more ≡ false →
    (up.bytes ≡ text) × (left ≡ Some [])
read-whole text up left r e =
    let short : length text ≤ most_bytes = not_more (length text) most_bytes (λ h. false≢true (sym e ∙ r.more.1 h)) in
    (r.bytes ∙ take_all most_bytes text short, r.rest ∙ ap (λ b. Some (if b then drop (most_bytes + 1) text else [])) e)

-- the bytes that were read whole are judged as the source's text
pub whole-judged : (source left : Option (List ℕ)) (up : ReadText) (judgement : Judgement) →
    IfSome source (λ text. ReadsUp most_bytes text up left) →
    up.more ≡ false → IsJudged up.bytes judgement → IfSome source (λ text. IsJudged text judgement)
whole-judged None left up judgement h e j = tt
whole-judged (Some text) left up judgement h e j =
    subst (λ bytes. IsJudged bytes judgement) (read-whole text up left h e).0 j

-- nothing is left of it
pub whole-left : (source left : Option (List ℕ)) (up : ReadText) → IfSome source (λ text. ReadsUp most_bytes text up left) →
    up.more ≡ false → IfSome source (λ _. left ≡ Some [])
whole-left None left up h e = tt
whole-left (Some text) left up h e = (read-whole text up left h e).1

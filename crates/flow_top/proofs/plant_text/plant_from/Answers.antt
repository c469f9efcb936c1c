use Rattle.std.proofs.Common.{◌≡◌, ◌∙◌, sym, ap, subst, List, ℕ, false, true, Ok, Err, refl}
use Rattle.flow_edge.specs.ReadText.{ReadText}
use Rattle.flow_top.specs.Judged.{IsJudged}
use Rattle.flow_top.specs.Faults.{too_long}
use Rattle.flow_top.specs.Steps.{refusal}
use Rattle.report.specs.declared.fault.TopFault.TheVariants.{TooLong}
use Rattle.flow_top.proofs.Readings.{more-refused, whole-judged, whole-left}
use Rattle.flow_top.proofs.Statuses.{judged-kind}
use Rattle.flow_top.proofs.Ends.{judged-plant}
use Rattle.flow_top.proofs.plant_text.plant_from.Goals as goal

pub returns-then-up : goal.returns-then-up
returns-then-up g c =
    let more : c.in-Ok.up.more ≡ true = ap (λ (u : ReadText). u.more) (sym c.up.view_is) ∙ c.if-up.true in
    refusal TooLong (record { text = more-refused _ _ c.in-Ok.up c.in-Ok.ensures.ok more; kind = too_long refl })
    c.stop_by-then-up.ensures

pub returns-in-Ok-plant_in : goal.returns-in-Ok-plant_in
returns-in-Ok-plant_in g c =
    let more : c.in-Ok.up.more ≡ false = ap (λ (u : ReadText). u.more) (sym c.up.view_is) ∙ c.if-up.false in
    let bytes : c.deref.result.now ≡ c.in-Ok.up.bytes = c.deref.ensures.value ∙ ap (λ (u : ReadText). u.bytes) c.up.view_is in
    let judged = subst (λ (text : List ℕ). IsJudged text (Ok c.in-Ok-plant_in.plant)) bytes c.in-Ok-plant_in.ensures in
    record {
      says = record {
        text = whole-judged _ _ c.in-Ok.up (Ok c.in-Ok-plant_in.plant) c.in-Ok.ensures.ok more judged;
        whole = whole-left _ _ c.in-Ok.up c.in-Ok.ensures.ok more;
      };
      plant = judged-plant c.in-Ok.up.bytes c.in-Ok-plant_in.plant judged;
    }

pub returns-in-Err-Fault : goal.returns-in-Err-Fault
returns-in-Err-Fault g c =
    let more : c.in-Ok.up.more ≡ false = ap (λ (u : ReadText). u.more) (sym c.up.view_is) ∙ c.if-up.false in
    let bytes : c.deref.result.now ≡ c.in-Ok.up.bytes = c.deref.ensures.value ∙ ap (λ (u : ReadText). u.bytes) c.up.view_is in
    let found : IsJudged c.deref.result.now (Err c.in-Err-Fault.fault) = rw c.in-Err-Fault.field-0-is at c.in-Err-Fault.ensures in
    let judged = subst (λ (text : List ℕ). IsJudged text (Err c.in-Err-Fault.fault)) bytes found in
    refusal c.in-Err-Fault.fault (record {
      text = whole-judged _ _ c.in-Ok.up (Err c.in-Err-Fault.fault) c.in-Ok.ensures.ok more judged;
      kind = judged-kind c.in-Ok.up.bytes c.in-Err-Fault.fault judged;
    }) c.stop_by-in-Err-Fault.ensures

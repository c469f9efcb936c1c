-- The tube that takes the first input's place lies inside the one that its stream opens with.
use Rattle.std.proofs.Common.{◌≡◌, ◌<◌, ◌∙◌, ℕ, List, length, map, get_or, sym, subst, ap, true, arith}
use Rattle.std.specs.Prelude.{slice_set}
use Rattle.std.proofs.lemmas.Bool.{eqb-false}
use Rattle.std.proofs.lemmas.List.{length-map}
use Rattle.relaxation.specs.Tube.{Tube, IsWithin, is_within}
use Rattle.relaxation.proofs.Meets.{within-yes}
use Rattle.plant.proofs.Lookups.{at-map, item-there}
use Rattle.renewal.specs.Plan.{window_of}
use Rattle.renewal.specs.Room.{planned, AreOpened}
use Rattle.window_tests.proofs.tests.renewals.renewed_from.Goals as goal

pub renew-requires-clause-inputs : goal.renew-requires-clause-inputs
renew-requires-clause-inputs c =
    let plan = c.args.plan.now in
    let reads : List ℕ = (planned plan c.args.unit).reads in
    let opening : ℕ → Tube = (window_of plan).opening in
    let some : length c.as_slice.result.now ≡ 0 → ⊥ = eqb-false _ 0 (sym c.is_empty.ensures ∙ c.if-is_empty.false) in
    let opened = c.as_slice.ensures ∙ c.in_ok-inputs.ensures in
    let there : 0 < length reads = omega (arith, some, ap length opened, length-map reads opening) in
    let first : c.index-as_slice-0.result ≡ opening (get_or reads 0 0) =
    item-there 0 c.index-as_slice-0.result c.as_slice-2.result.now (map opening reads) c.index-as_slice-0.is
    (c.as_slice-2.ensures ∙ c.in_ok-inputs.ensures)
    ∙ at-map opening reads 0 0 c.index-as_slice-0.result there in
    let inside : is_within c.args.tube.now c.index-as_slice-0.result ≡ true =
    grind (arith, c.inside.ensures, c.if-not-inside.false) in
    subst (AreOpened plan reads)
    (sym (c.read.ensures ∙ ap (λ (tubes : List Tube). slice_set tubes 0 c.args.tube.now) c.in_ok-inputs.ensures))
    (c.tubes_stay_opened.ensures.read plan reads (map opening reads) 0 c.args.tube.now
    (c.tubes_stay_opened.ensures.opening plan reads) there
    (subst (IsWithin c.args.tube.now) first (within-yes c.args.tube.now _ inside)))

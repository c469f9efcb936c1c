use Rattle.std.proofs.Common.{◌≡◌, sym, subst, ◌∙◌, true, false}
use Rattle.std.proofs.lemmas.Bool.{false≢true}
use Rattle.relaxation.specs.Tube.{Tube, IsWithin, IsNarrower, is_within, meet}
use Rattle.relaxation.proofs.Meets.{meet-left, meet-right, meet-holds, meet-wider, within-test}
use Rattle.relaxation.proofs.tube_laws.meets_are_what_both_hold.Goals as goal

pub returns-clause-first : goal.returns-clause-first
returns-clause-first c = meet-left

pub returns-clause-second : goal.returns-clause-second
returns-clause-second c = meet-right

pub returns-clause-holds : goal.returns-clause-holds
returns-clause-holds c = meet-holds

pub returns-clause-same : goal.returns-clause-same
returns-clause-same c = meet-wider

-- a meet that is the first tube lies in the second
pub returns-clause-narrower : goal.returns-clause-narrower
returns-clause-narrower c R A B h k e = record {
  within = meet-left R A B h k;
  other = λ same. false≢true (sym e ∙ within-test A B (subst (λ tube. IsWithin tube B) same (meet-right R A B h k)));
}

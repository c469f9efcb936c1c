use Rattle.std.proofs.Common.{◌≡◌, ◌<◌, ◌/◌, rules, List, length, sym, subst, ap, ◌∙◌, Some}
use Rattle.quant.specs.Interval.{Interval}
use Rattle.std.specs.Option.{IfNone}
use Rattle.tubes.specs.Flat.{IsFirstDifferent}
use Rattle.tubes.proofs.Shapes.{as_long}
use Rattle.tubes.proofs.Meetings.{first_difference_is, same_tubes, tick_fits}
use Rattle.tubes.proofs.tube.Tube.first_difference.Goals as goal

both : (P : List Interval → List Interval → Type 0) {us vs xs ys : List Interval} → us ≡ xs → vs ≡ ys → P us vs
    → P xs ys
both P {us = us} {ys = ys} u v p = subst (λ k. P k ys) u (subst (P us) v p)

pub first_difference-requires : goal.first_difference-requires
first_difference-requires c =
    ap length c.as_slice.ensures.value
    ∙ (as_long _ _ _ _ _ _ _ _ c.self.view_is c.other.view_is c.self.invariant c.other.invariant c.requires.shape
    ∙ ap length (sym c.as_slice-2.ensures.value))

pub returns-in_err-place-clause-same : goal.returns-in_err-place-clause-same
returns-in_err-place-clause-same c = subst (λ r. IfNone r (c.args.self.now ≡ c.args.other.now)) (sym
    c.from_residual.ensures)
    (same_tubes _ _ _ _ _ _ _ _ c.self.view_is c.other.view_is c.self.invariant c.other.invariant c.requires.shape
    (both (λ us vs. us ≡ vs) c.as_slice.ensures.value c.as_slice-2.ensures.value c.in_err-place.ensures))

pub overflow_cast-result : goal.overflow_cast-result
overflow_cast-result c =
    let there : c.in_ok-place.place < length c.self.inside.bands.items =
    both (λ us vs. c.in_ok-place.place < length us) c.as_slice.ensures.value c.as_slice-2.ensures.value
    c.in_ok-place.ensures.0 in
    let below : c.in_ok-place.place / c.self.inside.channels < c.self.inside.ticks =
    tick_fits _ _ _ _ _ _ _ _ c.self.view_is c.other.view_is c.self.invariant c.other.invariant
    c.requires.shape _ there in
    search rules

pub returns-clause-place : goal.returns-clause-place
returns-clause-place c =
    first_difference_is _ _ _ _ _ _ _ _ c.self.view_is c.other.view_is c.self.invariant c.other.invariant
    c.requires.shape
    c.in_ok-place.place (both (IsFirstDifferent (Some c.in_ok-place.place)) c.as_slice.ensures.value
    c.as_slice-2.ensures.value c.in_ok-place.ensures)

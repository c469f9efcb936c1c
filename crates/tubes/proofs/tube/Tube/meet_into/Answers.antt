use Rattle.std.proofs.Common.{◌≡◌, List, length, sym, refl, subst, ap, ◌∙◌, Some, None}
use Rattle.quant.specs.Interval.{Interval, AllBands}
use Rattle.relaxation.specs.Tube.{meet_bands}
use Rattle.tubes.specs.Cut.{cut}
use Rattle.tubes.specs.Flat.{IsFirstApart, IsFirstOutside}
use Rattle.tubes.proofs.Shapes.{as_long, inside_is, meet_is, meet_numbers}
use Rattle.tubes.proofs.Meetings.{first_is}
use Rattle.tubes.proofs.Flats.{refilled, meet_counted}
use Rattle.tubes.proofs.Fronts.{inside_numbers, inside_yes, outside_no}
use Rattle.tubes.proofs.tube.Tube.meet_into.Goals as goal

-- two slices are the two lists
alike : {us vs xs ys : List Interval} → us ≡ xs → vs ≡ ys → length xs ≡ length ys → length us ≡ length vs
alike u v e = ap length u ∙ (e ∙ ap length (sym v))

both : (P : List Interval → List Interval → Type 0) {us vs xs ys : List Interval} → us ≡ xs → vs ≡ ys → P us vs → P xs ys
both P {us = us} {ys = ys} u v p = subst (λ k. P k ys) u (subst (P us) v p)

pub first_outside-requires : goal.first_outside-requires
first_outside-requires c = alike c.as_slice.ensures.value c.as_slice-2.ensures.value
    (as_long _ _ _ _ _ _ _ _ c.self.view_is c.other.view_is c.self.invariant c.other.invariant c.requires.shape)

pub returns-in_default : goal.returns-in_default
returns-in_default c =
    let long = as_long _ _ _ _ _ _ _ _ c.self.view_is c.other.view_is c.self.invariant c.other.invariant c.requires.shape in
    let inside = both (IsFirstOutside None) c.as_slice.ensures.value c.as_slice-2.ensures.value c.in_default.ensures in (
      meet_numbers _ _ _ _ _ _ _ _ c.self.view_is c.other.view_is c.self.invariant c.other.invariant c.requires.shape
          (inside_numbers _ _ long inside),
      sym (inside_is _ _ _ _ _ _ _ _ c.self.view_is c.other.view_is c.self.invariant c.other.invariant c.requires.shape)
          ∙ inside_yes _ _ long inside,
      refl,
    )

pub first_empty_from-empty-requires-clause-counted : goal.first_empty_from-empty-requires-clause-counted
first_empty_from-empty-requires-clause-counted c = alike c.as_slice-3.ensures.value c.as_slice-4.ensures.value
    (as_long _ _ _ _ _ _ _ _ c.self.view_is c.other.view_is c.self.invariant c.other.invariant c.requires.shape)

pub returns-in-Some-empty : goal.returns-in-Some-empty
returns-in-Some-empty c = (
  first_is _ _ _ _ _ _ _ _ c.self.view_is c.other.view_is c.self.invariant c.other.invariant c.requires.shape
      c.in-Some-empty.place (both (IsFirstApart (Some c.in-Some-empty.place)) c.as_slice-3.ensures.value
      c.as_slice-4.ensures.value c.in-Some-empty.ensures),
  refl,
)

pub meet_from-requires-clause-shape : goal.meet_from-requires-clause-shape
meet_from-requires-clause-shape c = alike c.as_mut_slice.ensures.value c.as_slice-5.ensures.value
    (as_long _ _ _ _ _ _ _ _ c.self.view_is c.other.view_is c.self.invariant c.other.invariant c.requires.shape)

-- what the loop left
met : (c : goal.After-self-1) → c.meet_from.new.bands ≡ meet_bands c.self.inside.bands.items c.other.inside.bands.items
met c = both (λ us vs. c.meet_from.new.bands ≡ meet_bands us vs) c.as_mut_slice.ensures.value c.as_slice-5.ensures.value c.meet_from.ensures

pub returns : goal.returns
returns c = (
  meet_numbers _ _ _ _ _ _ _ _ c.self.view_is c.other.view_is c.self.invariant c.other.invariant c.requires.shape
      (both (λ us vs. AllBands (meet_bands us vs)) c.as_slice-3.ensures.value c.as_slice-4.ensures.value c.in_default-empty.ensures),
  sym (inside_is _ _ _ _ _ _ _ _ c.self.view_is c.other.view_is c.self.invariant c.other.invariant c.requires.shape)
      ∙ outside_no _ _ c.in-Some.start
      (both (IsFirstOutside (Some c.in-Some.start)) c.as_slice.ensures.value c.as_slice-2.ensures.value c.in-Some.ensures),
  ap (cut c.self.inside.ticks c.self.inside.channels)
      (refilled c.self.inside.bands.items c.meet_from.new.bands _ c.self.inside.bands.ok.0
      (ap length (met c) ∙ meet_counted c.self.inside.bands.items c.other.inside.bands.items
      (as_long _ _ _ _ _ _ _ _ c.self.view_is c.other.view_is c.self.invariant c.other.invariant c.requires.shape))
      ∙ met c)
      ∙ meet_is _ _ _ _ _ _ _ _ c.self.view_is c.other.view_is c.self.invariant c.other.invariant c.requires.shape,
)

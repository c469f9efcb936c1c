-- Where a meet has numbers, meeting a tube with another leaves it.
use Rattle.std.proofs.Common.{◌≡◌, ◌∙◌, ℕ, zero, suc, ◌<◌, List, [], ◌∷◌, length, sym, ap, subst, arith, true}
use Rattle.quant.specs.Interval.{Interval, AllBands, IsBand}
use Rattle.relaxation.specs.Tube.{Tube, at, IsWithin, is_within, HasNumbers, meet, meet_bands}
use Rattle.relaxation.proofs.Meets.{within-yes, within-itself, within-both, meet-wider, meet-holds, meet-right}
use Rattle.tubes.specs.declared.tube.Met.{Met}
use Rattle.tubes.specs.declared.tube.Met.TheVariants as met
use Rattle.tubes.specs.Flat.{common, nth}
use Rattle.tubes.specs.Shape.{HasShapeOf, band_at}
use Rattle.tubes.specs.Meeting.{Meets, IsFirstEmpty}
use Rattle.tubes.proofs.Meetings.{common-has}

bands-common : (As Bs : List Interval) (c : ℕ) → AllBands (meet_bands As Bs) → length As ≡ length Bs → c < length As →
    IsBand (common (nth As c) (nth Bs c))
bands-common [] Bs c h e l = absurd (omega arith)
bands-common (A ∷ As) [] c h e l = absurd (omega arith)
bands-common (A ∷ As) (B ∷ Bs) zero h e l = h.0
bands-common (A ∷ As) (B ∷ Bs) (suc c) h e l = bands-common As Bs c h.1 (omega arith) (omega arith)

-- the bands at each place have a number in common
place-common : (A B : Tube) (t c : ℕ) → HasNumbers (meet A B) → HasShapeOf A B → t < length A → c < length (at A t) →
    IsBand (common (band_at A t c) (band_at B t c))
place-common [] B t c h e l m = absurd (omega arith)
place-common (A ∷ As) [] t c h e l m = absurd cc
place-common (A ∷ As) (B ∷ Bs) zero c h e l m = bands-common A B c h.0 (cc) m
place-common (A ∷ As) (B ∷ Bs) (suc t) c h e l m = place-common As Bs t c h.1 (cc) (omega arith) m

pub met-is : (m : Met) (A B old new : Tube) → old ≡ A → HasShapeOf A B → HasNumbers (meet A B) → Meets m old B new → new ≡ meet A B
met-is met.Narrowed A B old new e shape numbers h = h.2 ∙ ap (λ tube. meet tube B) e
met-is met.Same A B old new e shape numbers h =
    h.2 ∙ e ∙ sym (meet-wider A B (within-yes A B (subst (λ tube. is_within tube B ≡ true) e h.1)))
met-is (met.Empty t c) A B old new e shape numbers h =
    let first = subst (λ tube. IsFirstEmpty tube B t c) e h.0 in
    absurd (first.empty (common-has _ _ (place-common A B t c numbers shape first.tick first.channel)))

-- the meet with a tube that lies in it is that tube
pub meet-narrower : (A B : Tube) → IsWithin B A → meet A B ≡ B
meet-narrower A B h =
    within-both (meet A B) B (meet-right B A B h (within-itself B)) (meet-holds B A B h (within-itself B))

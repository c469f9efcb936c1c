-- Histories of the worked window, by computation.
use Rattle.std.proofs.Common.{◌≡◌, ℕ, zero, suc, ◌+◌, ◌<◌, [], ◌∷◌, reverse, true, false, refl, sym, subst, inl, inr, arith}
use Rattle.std.proofs.lemmas.Bool.{both_ways}
use Rattle.std.proofs.lemmas.List.Sorted.{IsPermutation-refl}
use Rattle.quant.specs.Rounding.{quotient}
use Rattle.quant.specs.Operation.{share, keep, blend, clamp}
use Rattle.flowsheet.specs.Plant.{origin_of}
use Rattle.relaxation.specs.Tube.{Tube, IsWithin, IsNarrower, is_within}
use Rattle.relaxation.specs.History.{Version, numbered, history_of, IsHistory, IsMadeFrom, IsSoundFrom, AreSound}
use Rattle.relaxation.specs.Gathered.{IsGathered}
use Rattle.relaxation.specs.Worked.{plant, window, opening_version, outflow_version, level_version, histories, gathered}
use Rattle.relaxation.proofs.Meets.{within-yes, within-test, within-itself}

-- a tube that lies in another in which this does not lie is narrower
tested-narrower : (A B : Tube) → is_within A B ≡ true → is_within B A ≡ false → IsNarrower A B
tested-narrower A B h k = record {
  within = within-yes A B h;
  other = λ e. both_ways (is_within B A) k (within-test B A (subst (IsWithin B) (sym e) (within-itself B)));
}

-- an opening version alone
one-version : (s : ℕ) → IsHistory (opening_version s ∷ [])
one-version s = record {
  opened = omega arith;
  numbers = one-number s;
  narrower = λ k l. absurd (omega arith);
  later = λ k l. absurd (omega arith);
}
  where
    one-number : (s k : ℕ) → k < 1 → (numbered (opening_version s ∷ []) k).number ≡ k
    one-number s zero l = refl
    one-number s (suc k) l = absurd (omega arith)

-- and with one more that is narrower and later
two-numbers : (s k : ℕ) (made : Version) → made.number ≡ 1 → k < 2 →
    (numbered (opening_version s ∷ made ∷ []) k).number ≡ k
two-numbers s zero made e l = refl
two-numbers s (suc zero) made e l = e
two-numbers s (suc (suc k)) made e l = absurd (omega arith)

two-narrower : (s k : ℕ) (made : Version) → IsNarrower made.tube (window.opening s) → k + 1 < 2 →
    IsNarrower (numbered (opening_version s ∷ made ∷ []) (k + 1)).tube (numbered (opening_version s ∷ made ∷ []) k).tube
two-narrower s zero made h l = h
two-narrower s (suc k) made h l = absurd (omega arith)

two-later : (s k : ℕ) (made : Version) → 0 < made.stamp → k + 1 < 2 →
    (numbered (opening_version s ∷ made ∷ []) k).stamp < (numbered (opening_version s ∷ made ∷ []) (k + 1)).stamp
two-later s zero made h l = h
two-later s (suc k) made h l = absurd (omega arith)

two-versions : (s : ℕ) (made : Version) → made.number ≡ 1 → IsNarrower made.tube (window.opening s) → 0 < made.stamp →
    IsHistory (opening_version s ∷ made ∷ [])
two-versions s made e h l = record {
  opened = omega arith;
  numbers = λ k m. two-numbers s k made e m;
  narrower = λ k m. two-narrower s k made h m;
  later = λ k m. two-later s k made l m;
}

each-history : (s : ℕ) → s < 4 → IsHistory (history_of histories s)
each-history zero l = one-version 0
each-history (suc zero) l = one-version 1
each-history (suc (suc zero)) l =
    two-versions 2 outflow_version refl (tested-narrower outflow_version.tube (window.opening 2) refl refl) (omega arith)
each-history (suc (suc (suc zero))) l =
    two-versions 3 level_version refl (tested-narrower level_version.tube (window.opening 3) refl refl) (omega arith)
each-history (suc (suc (suc (suc s)))) l = absurd (omega arith)

each-opening : (s : ℕ) → s < 4 → (numbered (history_of histories s) 0).tube ≡ window.opening s
each-opening zero l = refl
each-opening (suc zero) l = refl
each-opening (suc (suc zero)) l = refl
each-opening (suc (suc (suc zero))) l = refl
each-opening (suc (suc (suc (suc s)))) l = absurd (omega arith)

outflow-made : (k : ℕ) → k + 1 < 2 → IsMadeFrom window histories 0 0
    (numbered (history_of histories 2) k) (numbered (history_of histories 2) (k + 1))
unfolding quotient share keep blend clamp
outflow-made zero l = record { refs = (omega arith, omega arith, (omega arith, omega arith, tt)); tube = refl }
outflow-made (suc k) l = absurd (omega arith)

level-made : (k : ℕ) → k + 1 < 2 → IsMadeFrom window histories 0 1
    (numbered (history_of histories 3) k) (numbered (history_of histories 3) (k + 1))
unfolding quotient share keep blend clamp
level-made zero l = record { refs = (omega arith, omega arith, (omega arith, omega arith, tt)); tube = refl }
level-made (suc k) l = absurd (omega arith)

each-made : (s : ℕ) → s < 4 → IsSoundFrom window histories (history_of histories s) (origin_of plant s)
each-made zero l = refl
each-made (suc zero) l = refl
each-made (suc (suc zero)) l = outflow-made
each-made (suc (suc (suc zero))) l = level-made
each-made (suc (suc (suc (suc s)))) l = absurd (omega arith)

pub histories-sound : AreSound window histories
histories-sound = record { counted = refl; history = each-history; opening = each-opening; made = each-made }

pub versions-gathered : IsGathered histories gathered
versions-gathered = record { all = IsPermutation-refl gathered; order = (inl (omega arith), tt) }

pub versions-reversed : IsGathered histories (reverse gathered) → ⊥
versions-reversed is = elim is.order.0 [ inl l ↦ absurd (omega arith) | inr e ↦ absurd (omega (arith, e.0)) ]

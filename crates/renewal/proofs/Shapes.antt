-- The shapes of tubes, and tubes that are the same at each tick.
use Rattle.std.proofs.Common.{◌≡◌, ◌∙◌, ℕ, zero, suc, ◌<◌, List, [], ◌∷◌, length, map, replicate, sym, subst, ap, arith}
use Rattle.std.specs.Prelude.{slice_index_or}
use Rattle.std.proofs.lemmas.List.{length-map, length-replicate, get_or-replicate}
use Rattle.std.proofs.Math.ListN.{get_or-map}
use Rattle.quant.specs.Interval.{Interval, AllInside}
use Rattle.flowsheet.proofs.Bands.{inside-itself}
use Rattle.relaxation.specs.Tube.{Tube, at, tube_of}
use Rattle.relaxation.proofs.Meets.{within-both}
use Rattle.relaxation.proofs.Ticks.{tube-within}
use Rattle.renewal.proofs.Windows.{tube-at}

-- a tube of n ticks with k channels at each
pub shape-ticks : (tube : Tube) (n k : ℕ) → map length tube ≡ replicate n k → length tube ≡ n
shape-ticks tube n k e = sym (length-map tube length) ∙ (ap length e ∙ length-replicate n k)

pub shape-wide : (tube : Tube) (n k t : ℕ) → map length tube ≡ replicate n k → t < n → length (at tube t) ≡ k
shape-wide tube n k t e m =
    sym (get_or-map length tube t []) ∙ (ap (λ counts. slice_index_or counts t 0) e ∙ get_or-replicate n t k 0 m)

-- so it is for each of a list
pub shapes-at : (limits : List (List Interval)) (tubes : List Tube) (n p : ℕ) →
    map (map length) tubes ≡ map (λ bands. replicate n (length bands)) limits → p < length tubes →
    map length (slice_index_or tubes p []) ≡ replicate n (length (slice_index_or limits p []))
shapes-at limits [] n p e l = absurd (omega arith)
shapes-at [] (tube ∷ tubes) n p e l = absurd cc
shapes-at (bands ∷ limits) (tube ∷ tubes) n zero e l = cc
shapes-at (bands ∷ limits) (tube ∷ tubes) n (suc p) e l = shapes-at limits tubes n p (cc) (omega arith)

pub shapes-counted : (limits : List (List Interval)) (tubes : List Tube) (n : ℕ) →
    map (map length) tubes ≡ map (λ bands. replicate n (length bands)) limits → length tubes ≡ length limits
shapes-counted limits tubes n e =
    sym (length-map tubes (map length)) ∙ (ap length e ∙ length-map limits (λ bands. replicate n (length bands)))

-- tubes that have the same at each tick are the same
pub same-ticks : (f g : ℕ → List Interval) (n : ℕ) → ((t : ℕ) → t < n → f t ≡ g t) → tube_of f n ≡ tube_of g n
same-ticks f g n h = within-both (tube_of f n) (tube_of g n)
    (tube-within f g n (λ t m. subst (AllInside (f t)) (h t m) (inside-itself (f t))))
    (tube-within g f n (λ t m. subst (λ (row : List Interval). AllInside row (f t)) (h t m) (inside-itself (f t))))

pub same-tube : (tube : Tube) (f : ℕ → List Interval) (n : ℕ) → length tube ≡ n → ((t : ℕ) → t < n → at tube t ≡ f t) →
    tube ≡ tube_of f n
same-tube tube f n e h = sym (tube-at tube n e) ∙ same-ticks (at tube) f n h

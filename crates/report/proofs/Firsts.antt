-- Where each stream has one version, a legal step reads that.
use Rattle.std.proofs.Common.{◌≡◌, ◌∙◌, ◌⊎◌, inl, inr, ℕ, ◌<◌, ◌≤◌, List, [], ◌∷◌, length, map, ap, subst, arith}
use Rattle.std.specs.List.{range_with_len, AllByRecursion}
use Rattle.std.proofs.lemmas.Bool.{cases_lt}
use Rattle.std.proofs.lemmas.List.{get_or_past}
use Rattle.std.proofs.lemmas.List.FromFn.{get_or-map-range_with_len, length-map-range_with_len}
use Rattle.flowsheet.specs.Plant.{Origin, feed, port, unit_at, origin_of}
use Rattle.relaxation.specs.Window.{Window}
use Rattle.relaxation.specs.Core.{opening_versions, versions_of, AreThere, IsLegalFrom}
use Rattle.relax_core.specs.Board.{RowOf}
use Rattle.relax_core.specs.Settled.{Settles}

one-version : (window : Window) (s : ℕ) → length (versions_of (opening_versions window) s) ≤ 1
one-version window s = elim (cases_lt s (length window.plant.streams)) [
  | inl less ↦ omega (
    arith,
    ap length
        (get_or-map-range_with_len (λ q. window.opening q ∷ []) 0 (length window.plant.streams) s s [] less (omega arith)),
  )
  | inr more ↦ omega (
    arith,
    ap length
        (get_or_past (opening_versions window) s []
        (omega (arith, more, length-map-range_with_len (λ q. window.opening q ∷ []) 0 (length window.plant.streams)))),
  )
]

there-first : (window : Window) (reads numbers : List ℕ) → AreThere (opening_versions window) reads numbers →
    AllByRecursion (λ k. k ≡ 0) numbers
there-first window reads [] h = tt
there-first window [] (k ∷ numbers) h = absurd h
there-first window (s ∷ reads) (k ∷ numbers) h = (omega (arith, h.0, one-version window s), there-first window reads numbers h.1)

legal-first : (window : Window) (numbers : List ℕ) (from : Origin) → IsLegalFrom window (opening_versions window) numbers from →
    AllByRecursion (λ k. k ≡ 0) numbers
legal-first window numbers (feed f) h = absurd h
legal-first window numbers (port u p) h = there-first window (unit_at window.plant u).reads numbers h

pub first-row : (window : Window) (row : RowOf) (rows : List RowOf) → Settles window (row ∷ rows) →
    AllByRecursion (λ k. k ≡ 0) row.refs
first-row window row rows h = legal-first window row.refs (origin_of window.plant row.stream) h.legal.0.inputs

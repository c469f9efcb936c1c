-- The rows of some ticks.
use Rattle.std.proofs.Common.{◌≡◌, ℕ, zero, suc, ◌+◌, ◌-◌, ◌<◌, List, [], ◌∷◌, ◌++◌, length, refl, sym, ap, ◌∙◌}
use Rattle.std.proofs.Common.{append_assoc, append-nil, add-one, slice_index_or, arith}
use Rattle.quant.specs.Interval.{Interval}
use Rattle.relaxation.specs.Tube.{at}
use Rattle.relax_core.specs.Settled.{WindowOf}
use Rattle.parts.specs.Parts.{FileParts}
use Rattle.tables.specs.Output.{Label, rows_of, rows_from, stream_rows, tick_rows}
use Rattle.report.specs.Output.{labels_of}
use Rattle.relax_core.specs.Settled.{bands_in}

-- the rows of one tick more
pub rows-ticks : (labels : List Label) (bands : ℕ → ℕ → List Interval) (first n : ℕ) →
    rows_of labels bands first (suc n) ≡ rows_of labels bands first n ++ tick_rows labels bands (first + n)
rows-ticks labels bands first zero =
    append-nil (tick_rows labels bands first) ∙ ap (tick_rows labels bands) (omega arith)
rows-ticks labels bands first (suc n) =
    ap (λ text. tick_rows labels bands first ++ text) (rows-ticks labels bands (first + 1) n)
    ∙ sym (append_assoc (tick_rows labels bands first) (rows_of labels bands (first + 1) n)
    (tick_rows labels bands (first + 1 + n)))
    ∙ ap (λ t. (tick_rows labels bands first ++ rows_of labels bands (first + 1) n) ++ tick_rows labels bands t)
    (omega arith)

-- streams with the same bands have the same rows
pub rows_from-same : (tick : ℕ) (a b : ℕ → List Interval) (s : ℕ) (labels : List Label) →
    ((k : ℕ) → k < s + length labels → a k ≡ b k) →
    rows_from tick a s labels ≡ rows_from tick b s labels
rows_from-same tick a b s [] same = refl
rows_from-same tick a b s (label ∷ rest) same =
    ap (λ bands. stream_rows tick label bands ++ rows_from tick a (s + 1) rest) (same s (omega arith))
    ∙ ap (λ text. stream_rows tick label (b s) ++ text) (rows_from-same tick a b (s + 1) rest (λ k h. same k (omega arith)))

-- windows with the same bands have the same rows
pub rows-same : (labels : List Label) (a b : ℕ → ℕ → List Interval) (first n : ℕ) →
    ((t s : ℕ) → t < n → s < length labels → a (first + t) s ≡ b (first + t) s) →
    rows_of labels a first n ≡ rows_of labels b first n
rows-same labels a b first zero same = refl
rows-same labels a b first (suc n) same =
    rows-ticks labels a first n
    ∙ ap (λ text. text ++ tick_rows labels a (first + n)) (rows-same labels a b first n (λ t s h l. same t s (omega arith) l))
    ∙ ap (λ text. rows_of labels b first n ++ text)
    (rows_from-same (first + n) (a (first + n)) (b (first + n)) 0 labels (λ s l. same n s (omega arith) (omega arith)))
    ∙ sym (rows-ticks labels b first n)

-- the rows of a tick were added to those of the ticks before it
pub rows_more : (parts : FileParts) (window : WindowOf) (tick : ℕ) (before after : List ℕ) →
    before ≡ rows_of (labels_of parts) (bands_in window) window.first tick →
    after ≡ before
    ++ rows_from (window.first + tick) (λ s. at (slice_index_or window.tubes s []) tick) 0 (labels_of parts) →
    after ≡ rows_of (labels_of parts) (bands_in window) window.first (tick + 1)
rows_more parts window tick before after rows added =
    let labels = labels_of parts in
    let first = window.first in
    let counted : tick ≡ (first + tick) - first = omega arith in
    added
    ∙ ap (λ k. before ++ rows_from (first + tick) (λ s. at (slice_index_or window.tubes s []) k) 0 labels) counted
    ∙ ap (λ text. text ++ tick_rows labels (bands_in window) (first + tick)) rows
    ∙ sym (rows-ticks labels (bands_in window) first tick)
    ∙ ap (rows_of labels (bands_in window) first) (sym (add-one tick))

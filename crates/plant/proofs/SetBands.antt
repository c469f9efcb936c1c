-- A row stays one where bands are given inside their limits.
use Rattle.std.proofs.Common.{ℕ, zero, suc, pos, List, [], ◌∷◌, set, slice_index_or, ◌≡◌, ◌≢◌, ◌<◌, length, sym, ap}
use Rattle.std.proofs.Common.{◌∙◌, subst, inl, inr, length-set, get_or-set_other}
use Rattle.std.proofs.lemmas.Bool.{cases_eq}
use Rattle.std.proofs.lemmas.Grind.{get_or-set_at}
use Rattle.quant.specs.Interval.{Interval, IsInside, AllInside, point}
use Rattle.parts.specs.Parts.{FileParts}
use Rattle.plant_streams.specs.Limits.{limit_at, limits_at}
use Rattle.plant.specs.Rows.{RowBands, stream_in, set_band, give_bands, IsRow}

inside-set : (As Bs : List Interval) (n : ℕ) (A : Interval) → AllInside As Bs →
    IsInside A (slice_index_or Bs n (point (pos 0))) →
    AllInside (set As n A) Bs
inside-set [] Bs n A h i = h
inside-set (A ∷ As) [] n C h i = absurd h
inside-set (A ∷ As) (B ∷ Bs) zero C h i = (i, h.1)
inside-set (A ∷ As) (B ∷ Bs) (suc n) C h i = (h.0, inside-set As Bs n C h.1 i)

-- where all bands of a stream are given, inside their limits if a feed gives it
pub given-is-row : (parts : FileParts) (row : RowBands) (s : ℕ) (bands : List Interval) → s < length row.streams →
    length bands ≡ length (stream_in row s) → IsRow parts row →
    (s < length parts.feeds → AllInside bands (limits_at parts s)) → IsRow parts (give_bands row s bands)
given-is-row parts row s bands h w r i =
    let after = give_bands row s bands in
    let same : (t : ℕ) → t ≡ s → stream_in after t ≡ bands = λ t e. get_or-set_at row.streams s t bands [] e h in
    let other : (t : ℕ) → t ≢ s → stream_in after t ≡ stream_in row t =
    λ t ne. get_or-set_other row.streams s t bands [] ne in
    record {
      counted = r.counted;
      streams_counted = length-set row.streams s bands ∙ r.streams_counted;
      channels = λ t l. elim (cases_eq t s) [
        | inl e ↦ ap length (same t e) ∙ w ∙ ap (λ v. length (stream_in row v)) (sym e) ∙ r.channels t l
        | inr ne ↦ ap length (other t ne) ∙ r.channels t l
      ];
      states = r.states;
      feeds = λ f l. elim (cases_eq f s) [
        | inl e ↦
            subst (λ (given : List Interval). AllInside given (limits_at parts f)) (sym (same f e))
            (subst (λ v. AllInside bands (limits_at parts v)) (sym e) (i (subst (λ v. v < length parts.feeds) e l)))
        | inr ne ↦ subst (λ (given : List Interval). AllInside given (limits_at parts f)) (sym (other f ne))
            (r.feeds f l)
      ];
    }

-- and where one of them is set
pub set-is-row : (parts : FileParts) (row : RowBands) (s c : ℕ) (band : Interval) → s < length row.streams →
    IsRow parts row → IsInside band (limit_at parts s c) → IsRow parts (set_band row s c band)
set-is-row parts row s c band h r i =
    given-is-row parts row s (set (stream_in row s) c band) h (length-set (stream_in row s) c band) r
    (λ l. inside-set (stream_in row s) (limits_at parts s) c band (r.feeds s l) i)

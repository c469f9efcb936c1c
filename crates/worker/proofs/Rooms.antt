-- Room for each unit.
use Rattle.std.proofs.Common.{◌≡◌, ◌∙◌, ℕ, ◌+◌, ◌<◌, List, [], ◌∷◌, ◌++◌, length, length-set, refl, sym, ap, subst, arith, inl, inr}
use Rattle.std.specs.Prelude.{slice_index_or, slice_set}
use Rattle.std.proofs.lemmas.Bool.{cases_eq}
use Rattle.std.proofs.lemmas.List.{length_push, get_or_append_left, get_or_push, get_or-set_same, get_or-set_other}
use Rattle.renewal.specs.Plan.{PlanOf}
use Rattle.worker.specs.Rooms.{IsUnitRoom}
use Rattle.worker.specs.declared.room.UnitRoom.{UnitRoom}

-- room for the units below n
pub record HasRoomsBelow (plan : PlanOf) (n : ℕ) (rooms : List UnitRoom) : Type 0 where
  pub counted : length rooms ≡ n
  pub each : (u : ℕ) (d : UnitRoom) → u < n → IsUnitRoom plan u (slice_index_or rooms u d)

pub rooms-none : (plan : PlanOf) → HasRoomsBelow plan 0 []
rooms-none plan = record { counted = refl; each = λ u d l. absurd (omega arith) }

pub rooms-more : (plan : PlanOf) (n : ℕ) (rooms : List UnitRoom) (room : UnitRoom) → HasRoomsBelow plan n rooms → IsUnitRoom plan n room →
    HasRoomsBelow plan (n + 1) (rooms ++ room ∷ [])
rooms-more plan n rooms room h is = record {
  counted = length_push rooms room ∙ ap (λ k. k + 1) h.counted;
  each = λ u d l. elim (cases_eq u n) [
    | inl e ↦ subst (λ (found : UnitRoom). IsUnitRoom plan u found) (sym (get_or_push rooms room d u (h.counted ∙ sym e)))
        (subst (λ k. IsUnitRoom plan k room) (sym e) is)
    | inr ne ↦
        (let below : u < n = omega arith in
        subst (λ (found : UnitRoom). IsUnitRoom plan u found)
        (sym (get_or_append_left rooms (room ∷ []) d u (subst (λ k. u < k) (sym h.counted) below)))
        (h.each u d below))
  ];
}

-- other room for one of them
pub rooms-set : (plan : PlanOf) (n u : ℕ) (rooms : List UnitRoom) (room : UnitRoom) → HasRoomsBelow plan n rooms → u < n → IsUnitRoom plan u room →
    HasRoomsBelow plan n (slice_set rooms u room)
rooms-set plan n u rooms room h l is = record {
  counted = length-set rooms u room ∙ h.counted;
  each = λ q d m. elim (cases_eq q u) [
    | inl e ↦ subst (λ i. IsUnitRoom plan i (slice_index_or (slice_set rooms u room) i d)) (sym e)
        (subst (λ (found : UnitRoom). IsUnitRoom plan u found)
        (sym (get_or-set_same rooms u room d (subst (λ k. u < k) (sym h.counted) l))) is)
    | inr ne ↦ subst (λ (found : UnitRoom). IsUnitRoom plan q found) (sym (get_or-set_other rooms u q room d ne)) (h.each q d m)
  ];
}

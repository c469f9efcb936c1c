-- Room for each unit.
use Rattle.std.proofs.Common.{◌≡◌, ◌∙◌, ℕ, ◌+◌, ◌<◌, ◌^◌, List, [], ◌∷◌, ◌++◌, length, sym, ap, subst, arith, inl, inr, slice_index_or, length-set, get_or-set_same, get_or-set_other}
use Rattle.std.specs.Prelude.{slice_set}
use Rattle.std.proofs.lemmas.Bool.{cases_eq, cases_lt}
use Rattle.std.proofs.lemmas.List.{length_push, get_or_append_left, get_or_push, get_or_past}
use Rattle.std.proofs.lemmas.List.FromFn.{get_or-map-range_with_len, length-map-range_with_len}
use Rattle.relaxation.specs.Core.{Versions, versions_of}
use Rattle.renewal.specs.Plan.{PlanOf, window_of}
use Rattle.relax_core.specs.Board.{opened}
use Rattle.plant_units.specs.Units.{units_of}
use Rattle.relax_core.specs.Rooms.{IsRoomFor, HasRooms, no_room, IsNewRoom, AreNewRooms, IsRenewedFrom, AreRenewed}
use Rattle.relax_core.specs.declared.room.Room.{Room}

abbrev pub HasRoomsBelow : PlanOf → ℕ → List Room → Type 0
HasRoomsBelow plan n rooms = (length rooms ≡ n) × ((u : ℕ) → u < n → IsNewRoom plan u (slice_index_or rooms u no_room))

pub rooms-more : (plan : PlanOf) (rooms : List Room) (room : Room) (n : ℕ) → HasRoomsBelow plan n rooms →
    IsNewRoom plan n room → HasRoomsBelow plan (n + 1) (rooms ++ room ∷ [])
rooms-more plan rooms room n h r = (
  length_push rooms room ∙ ap (λ k. k + 1) h.0,
  λ u l. elim (cases_eq u n) [
    | inl e ↦ subst (λ (found : Room). IsNewRoom plan u found) (sym (get_or_push rooms room no_room u (h.0 ∙ sym e)))
        (subst (λ k. IsNewRoom plan k room) (sym e) r)
    | inr ne ↦
        (let below : u < n = omega arith in
        subst (λ (found : Room). IsNewRoom plan u found)
        (sym (get_or_append_left rooms (room ∷ []) no_room u (subst (λ k. u < k) (sym h.0) below)))
        (h.1 u below))
  ],
)

-- streams open with one version each
pub opening-few : (plan : PlanOf) (s : ℕ) → length (versions_of (opened plan) s) < 2 ^ 32
opening-few plan s =
    let count : ℕ = length (window_of plan).plant.streams in
    elim (cases_lt s count) [
      | inl l ↦
          (let one : versions_of (opened plan) s ≡ (window_of plan).opening s ∷ []
          = get_or-map-range_with_len (λ q. (window_of plan).opening q ∷ []) 0 count s s [] l (omega arith) in
          omega (arith, ap length one))
      | inr n ↦
          (let none : versions_of (opened plan) s ≡ []
          = get_or_past (opened plan) s [] (omega (arith, n, length-map-range_with_len (λ q. (window_of plan).opening q ∷ []) 0 count)) in
          omega (arith, ap length none))
    ]

-- other room for a unit
pub rooms-set : (plan : PlanOf) (u : ℕ) (room : Room) (rooms : List Room) → HasRooms plan rooms → u < length (units_of plan.parts) →
    IsRoomFor plan u room → HasRooms plan (slice_set rooms u room)
rooms-set plan u room rooms h l r = record {
  counted = length-set rooms u room ∙ h.counted;
  each = λ q m. elim (cases_eq q u) [
    | inl e ↦ subst (λ i. IsRoomFor plan i (slice_index_or (slice_set rooms u room) i no_room)) (sym e)
        (subst (λ (found : Room). IsRoomFor plan u found)
        (sym (get_or-set_same rooms u room no_room (omega (arith, h.counted)))) r)
    | inr n ↦ subst (λ (found : Room). IsRoomFor plan q found) (sym (get_or-set_other rooms u q room no_room n)) (h.each q m)
  ];
}

-- new rooms are room, and remember nothing
pub new-rooms : (plan : PlanOf) (rooms : List Room) → AreNewRooms plan rooms → HasRooms plan rooms
new-rooms plan rooms h = record { counted = h.counted; each = λ u l. (h.each u l).fits }

pub new-renewed : (plan : PlanOf) (state : Versions) (rooms : List Room) → AreNewRooms plan rooms →
    AreRenewed plan state rooms
new-renewed plan state rooms h u l =
    subst (IsRenewedFrom plan state u (slice_index_or rooms u no_room).outputs) (sym (h.each u l).none) tt

-- and that remembers its renewal
pub renewed-set : (plan : PlanOf) (state : Versions) (u : ℕ) (room : Room) (rooms : List Room) →
    HasRooms plan rooms → AreRenewed plan state rooms → u < length (units_of plan.parts) →
    IsRenewedFrom plan state u room.outputs room.renewed → AreRenewed plan state (slice_set rooms u room)
renewed-set plan state u room rooms h r l e q m = elim (cases_eq q u) [
  | inl same ↦ subst (λ i. IsRenewedFrom plan state i (slice_index_or (slice_set rooms u room) i no_room).outputs
      (slice_index_or (slice_set rooms u room) i no_room).renewed) (sym same)
      (subst (λ (found : Room). IsRenewedFrom plan state u found.outputs found.renewed)
      (sym (get_or-set_same rooms u room no_room (omega (arith, h.counted)))) e)
  | inr n ↦ subst (λ (found : Room). IsRenewedFrom plan state q found.outputs found.renewed)
      (sym (get_or-set_other rooms u q room no_room n)) (r q m)
]

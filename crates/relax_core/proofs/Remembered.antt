-- What is remembered by numbers of versions stays when versions are appended.
use Rattle.std.proofs.Common.{◌≡◌, ◌∙◌, ℕ, zero, suc, ◌<◌, List, [], length, replicate, refl, sym, ap}
use Rattle.std.proofs.Common.{subst, arith, inl, inr, true, get_or-set_same, get_or-set_other}
use Rattle.std.specs.Prelude.{slice_set, slice_index, slice_index_or, Option, Some, None}
use Rattle.std.proofs.lemmas.Bool.{cases_eq}
use Rattle.std.proofs.lemmas.List.{ext_get_or}
use Rattle.relaxation.specs.Core.{Versions, Step, named, AreThere, IsLegal, is_idle}
use Rattle.relaxation.proofs.Growth.{AreGrown, idle-grown}
use Rattle.relaxation.proofs.Stays.{legal-stays}
use Rattle.renewal.specs.Plan.{PlanOf, window_of}
use Rattle.renewal.specs.Room.{RenewalOf, planned, renewal_of}
use Rattle.relax_core.specs.Rooms.{no_room, IsRenewedFrom, AreRenewed, IsMetFrom, AreMet}
use Rattle.relax_core.specs.declared.room.Room.{Room}
use Rattle.relax_core.proofs.Readings.{there-counted, there-at, there-each, named-counted, named-at}

module _ (state next : Versions) (grown : AreGrown state next) where
  there-stays : (reads numbers : List ℕ) → AreThere state reads numbers → AreThere next reads numbers
  there-stays reads numbers h = there-each next reads numbers (there-counted state reads numbers h)
      (λ p l. omega (arith, there-at state reads numbers p h l, (grown (slice_index reads p)).first.longer))

  named-stays : (reads numbers : List ℕ) → AreThere state reads numbers →
      named next reads numbers ≡ named state reads numbers
  named-stays reads numbers h =
      let counted = there-counted state reads numbers h in
      let longer = named-counted next reads numbers counted in
      ext_get_or [] (named next reads numbers) (named state reads numbers)
      (longer ∙ sym (named-counted state reads numbers counted))
      (λ p l. let m : p < length reads = omega (arith, longer) in
      named-at next reads numbers p counted m
      ∙ (grown (slice_index reads p)).first.same (slice_index numbers p) (there-at state reads numbers p h m)
      ∙ sym (named-at state reads numbers p counted m))

  renewed-from : (plan : PlanOf) (u : ℕ) (outputs : RenewalOf) (memory : Option (List ℕ)) →
      IsRenewedFrom plan state u outputs memory → IsRenewedFrom plan next u outputs memory
  renewed-from plan u outputs None h = tt
  renewed-from plan u outputs (Some numbers) h = (
    there-stays (planned plan u).reads numbers h.0,
    h.1 ∙ ap (renewal_of plan u) (sym (named-stays (planned plan u).reads numbers h.0)),
  )

  pub renewed-stays : (plan : PlanOf) (rooms : List Room) → AreRenewed plan state rooms → AreRenewed plan next rooms
  renewed-stays plan rooms h u l =
      renewed-from plan u (slice_index_or rooms u no_room).outputs (slice_index_or rooms u no_room).renewed (h u l)

  met-from : (plan : PlanOf) (s : ℕ) (memory : Option (List ℕ)) → IsMetFrom plan state s memory →
      IsMetFrom plan next s memory
  met-from plan s None h = tt
  met-from plan s (Some numbers) h =
      let step : Step = record { stream = s; inputs = numbers } in (
        legal-stays state next (λ q. (grown q).first) (window_of plan) step h.0,
        idle-grown state next grown (window_of plan) step h.0 h.1,
      )

  pub met-stays : (plan : PlanOf) (met : List (Option (List ℕ))) → AreMet plan state met → AreMet plan next met
  met-stays plan met h s = met-from plan s (slice_index_or met s None) (h s)

-- streams that remember nothing
none-at : (n s : ℕ) (d : Option (List ℕ)) → slice_index_or (replicate n d) s d ≡ d
none-at zero s d = refl
none-at (suc n) zero d = refl
none-at (suc n) (suc s) d = none-at n s d

pub none-met : (plan : PlanOf) (state : Versions) (n : ℕ) (met : List (Option (List ℕ))) → met ≡ replicate n None →
    AreMet plan state met
none-met plan state n met e s =
    subst (IsMetFrom plan state s)
    (sym (ap (λ (list : List (Option (List ℕ))). slice_index_or list s None) e ∙ none-at n s None)) tt

-- and one that remembers these numbers
pub met-set : (plan : PlanOf) (state : Versions) (met : List (Option (List ℕ))) (s : ℕ) (numbers : List ℕ) →
    s < length met →
    IsLegal (window_of plan) state (record { stream = s; inputs = numbers }) →
    is_idle (window_of plan) state (record { stream = s; inputs = numbers }) ≡ true →
    AreMet plan state met → AreMet plan state (slice_set met s (Some numbers))
met-set plan state met s numbers l legal idle h q = elim (cases_eq q s) [
  | inl same ↦ subst (λ i. IsMetFrom plan state i (slice_index_or (slice_set met s (Some numbers)) i None)) (sym same)
      (subst (IsMetFrom plan state s) (sym (get_or-set_same met s (Some numbers) None l)) (legal, idle))
  | inr n ↦ subst (IsMetFrom plan state q) (sym (get_or-set_other met s q (Some numbers) None n)) (h q)
]

-- The inputs of a unit as far as they were looked at, and its outputs.
use Rattle.std.proofs.Common.{◌≡◌, ◌∙◌, ℕ, zero, suc, ◌+◌, ◌<◌, ◌≤◌, List, [], ◌∷◌, length, length-set, map, take, refl, sym, ap, subst, subst₂, inl, inr, arith}
use Rattle.std.specs.Prelude.{slice_index, slice_index_or, slice_set}
use Rattle.std.proofs.lemmas.Bool.{cases_eq}
use Rattle.std.proofs.lemmas.List.{length-map, length-take-le, get_or-take, get_or-set_same, get_or-set_other}
use Rattle.std.proofs.lemmas.List.FromFn.{get_or-map-range_with_len}
use Rattle.quant.proofs.Calls.{inside-length, same_cons}
use Rattle.flowsheet.specs.Plant.{port, origin_of}
use Rattle.relaxation.specs.Tube.{Tube, IsWithin}
use Rattle.relaxation.specs.Window.{renewal}
use Rattle.relaxation.specs.History.{History, AllBegin, history_of}
use Rattle.plant_streams.specs.declared.streams.StreamSource.TheVariants as source
use Rattle.plant_streams.specs.Streams.{streams_of}
use Rattle.plant_units.specs.declared.units.Unit.{Unit}
use Rattle.plant_units.specs.Units.{gives_of}
use Rattle.plant.specs.PlantOf.{plant_of}
use Rattle.plant.proofs.Lookups.{at-map, origin-is}
use Rattle.tubes.specs.Shape.{HasShapeOf}
use Rattle.renewal.specs.Plan.{PlanOf, window_of}
use Rattle.renewal.specs.Room.{AreOpened, HasRoomFor, RenewalOf, planned}
use Rattle.renewal.specs.Giver.{IsGiver}
use Rattle.renewal.proofs.Carrying.{opened-counted}
use Rattle.renewal.proofs.Givers.{views-are}
use Rattle.renewal.proofs.Openings.{set-opened}
use Rattle.renewal.proofs.RoomShapes.{outputs-shape}
use Rattle.stream_cell.specs.declared.head.Uses.{Uses}
use Rattle.worker.specs.Looking.{AreSeen, IsMadeOf, IsRenewedFrom, IsSeen}
use Rattle.worker.proofs.Grown.{all-seen, all-seen-grown, seen-below, seen-grown}

-- tubes in one another have one shape
pub within-shape : (A B : Tube) → IsWithin A B → HasShapeOf A B
within-shape [] [] h = refl
within-shape [] (B ∷ Bs) h = absurd h
within-shape (A ∷ As) [] h = absurd h
within-shape (A ∷ As) (B ∷ Bs) h = same_cons (length A) (length B) (map length As) (map length Bs) (inside-length A B h.0) (within-shape As Bs h.1)

pub opened-at : (plan : PlanOf) (streams : List ℕ) (tubes : List Tube) (p : ℕ) → AreOpened plan streams tubes → p < length streams →
    IsWithin (slice_index_or tubes p []) ((window_of plan).opening (slice_index streams p))
opened-at plan [] tubes p h l = absurd (omega arith)
opened-at plan (s ∷ streams) [] p h l = absurd h
opened-at plan (s ∷ streams) (tube ∷ tubes) zero h l = h.0
opened-at plan (s ∷ streams) (tube ∷ tubes) (suc p) h l = opened-at plan streams tubes p h.1 (omega arith)

-- the versions of the first n streams that were looked at are there, with stamps up to the base and these numbers and tubes
pub record IsTaken (plan : PlanOf) (histories : List History) (reads : List ℕ) (n base : ℕ) (numbers : List ℕ) (inputs : List Tube) : Type 0 where
  pub room : length numbers ≡ 8
  pub opened : AreOpened plan reads inputs
  pub seen : (p : ℕ) → p < n → IsSeen (history_of histories (slice_index reads p)) (slice_index numbers p) base (slice_index_or inputs p [])

pub taken-none : (plan : PlanOf) (histories : List History) (reads : List ℕ) (base : ℕ) (numbers : List ℕ) (inputs : List Tube) →
    length numbers ≡ 8 → AreOpened plan reads inputs → IsTaken plan histories reads 0 base numbers inputs
taken-none plan histories reads base numbers inputs room opened =
    record { room = room; opened = opened; seen = λ p l. absurd (omega arith) }

module _ (plan : PlanOf) (histories whole : List History) (begin : AllBegin histories whole) (reads : List ℕ) (n base : ℕ) (numbers : List ℕ)
    (inputs : List Tube) (taken : IsTaken plan histories reads n base numbers inputs) (below : n < length reads) (tube : Tube)
    (within : IsWithin tube ((window_of plan).opening (slice_index reads n))) where
  pub taken-opened : AreOpened plan reads (slice_set inputs n tube)
  taken-opened = set-opened plan reads inputs n tube taken.opened below within

  pub taken-more : (few : length reads ≤ 8) (number stamp more : ℕ) → base ≤ more → stamp ≤ more →
      IsSeen (history_of whole (slice_index reads n)) number stamp tube →
      IsTaken plan whole reads (n + 1) more (slice_set numbers n number) (slice_set inputs n tube)
  taken-more few number stamp more b s h = record {
    room = length-set numbers n number ∙ taken.room;
    opened = taken-opened;
    seen = λ p l. elim (cases_eq p n) [
      | inl e ↦
          (let counted = opened-counted plan reads inputs taken.opened in
          let roomy = taken.room in
          subst (λ i. IsSeen (history_of whole (slice_index reads i)) (slice_index (slice_set numbers n number) i) more
          (slice_index_or (slice_set inputs n tube) i [])) (sym e)
          (subst₂ (λ (k : ℕ) (t : Tube). IsSeen (history_of whole (slice_index reads n)) k more t)
          (sym (get_or-set_same numbers n number 0 (omega arith))) (sym (get_or-set_same inputs n tube [] (omega arith)))
          (seen-below (history_of whole (slice_index reads n)) number stamp more tube s h)))
      | inr ne ↦
          subst₂ (λ (k : ℕ) (t : Tube). IsSeen (history_of whole (slice_index reads p)) k more t)
          (sym (get_or-set_other numbers n p number 0 ne)) (sym (get_or-set_other inputs n p tube [] ne))
          (seen-below (history_of whole (slice_index reads p)) (slice_index numbers p) base more (slice_index_or inputs p []) b
          (seen-grown histories whole begin (slice_index reads p) (slice_index numbers p) base (slice_index_or inputs p [])
          (taken.seen p (omega arith))))
    ];
  }

-- they are those of all that the unit reads
pub taken-whole : (plan : PlanOf) (histories : List History) (reads : List ℕ) (n base : ℕ) (numbers refs : List ℕ) (inputs : List Tube) →
    IsTaken plan histories reads n base numbers inputs → length reads ≤ n → length reads ≤ 8 → refs ≡ take (length reads) numbers →
    AreSeen histories base reads refs inputs
taken-whole plan histories reads n base numbers refs inputs taken all few e =
    let roomy = taken.room in
    all-seen histories base reads refs inputs
    (ap length e ∙ length-take-le (length reads) numbers (omega arith))
    (opened-counted plan reads inputs taken.opened)
    (λ p l. subst (λ (k : ℕ). IsSeen (history_of histories (slice_index reads p)) k base (slice_index_or inputs p []))
    (sym (ap (λ (list : List ℕ). slice_index list p) e ∙ get_or-take (length reads) numbers p 0 l)) (taken.seen p (omega arith)))

-- what was renewed stays so
pub renewed-grown : (plan : PlanOf) (histories whole : List History) (u : ℕ) (uses : Uses) (outputs : RenewalOf) → AllBegin histories whole →
    IsRenewedFrom plan histories u uses outputs → IsRenewedFrom plan whole u uses outputs
renewed-grown plan histories whole u uses outputs begin h = record {
  tubes = h.tubes;
  seen = all-seen-grown histories whole begin uses.base (planned plan u).reads uses.refs h.tubes h.seen;
  renewed = h.renewed;
}

-- the tube of an output of the unit
module _ (plan : PlanOf) (u : ℕ) (x : Unit) (g : IsGiver plan u x) (outputs : RenewalOf) (room : HasRoomFor plan u outputs)
    (given : List ℕ) (is : given ≡ gives_of x) (p : ℕ) (below : p < length given) where
  gives-there : p < length (gives_of x)
  gives-there = subst (λ (list : List ℕ). p < length list) is below

  pub output-stream : slice_index given p < length (streams_of plan.parts)
  output-stream = subst (λ (list : List ℕ). slice_index list p < length (streams_of plan.parts)) (sym is) ((g.sound.gives p gives-there).0)

  output-origin : origin_of (plant_of plan.parts) (slice_index given p) ≡ port u p
  output-origin = ap (λ (list : List ℕ). origin_of (plant_of plan.parts) (slice_index list p)) is
      ∙ origin-is plan.parts (slice_index (gives_of x) p) (source.Port u p) ((g.sound.gives p gives-there).1)

  output-view : p < length (planned plan u).view
  output-view = let counted : length (gives_of x) ≡ length (planned plan u).view = g.sound.counted ∙ ap length (sym (views-are plan u x g)) in
      let there = gives-there in omega arith

  same-shapes : map (map length) (map (window_of plan).opening (gives_of x)) ≡ map (map length) outputs.ports
  same-shapes = outputs-shape plan u x g ∙ sym room.ports_shape

  pub output-port : p < length outputs.ports
  output-port = let there = gives-there in omega (
    arith,
    ap length same-shapes,
    length-map (map (window_of plan).opening (gives_of x)) (map length),
    length-map (gives_of x) (window_of plan).opening,
    length-map outputs.ports (map length),
  )

  output-shape : HasShapeOf ((window_of plan).opening (slice_index given p)) (slice_index_or outputs.ports p [])
  output-shape =
      let there = gives-there in
      let opening : ℕ → Tube = (window_of plan).opening in
      ap (λ (list : List ℕ). map length (opening (slice_index list p))) is
      ∙ ap (map length) (sym (at-map opening (gives_of x) p 0 [] gives-there))
      ∙ sym (at-map (map length) (map opening (gives_of x)) p [] [] (omega (arith, length-map (gives_of x) opening)))
      ∙ ap (λ (shapes : List (List ℕ)). slice_index_or shapes p []) same-shapes
      ∙ at-map (map length) outputs.ports p [] [] output-port

  pub output-made : (histories : List History) (uses : Uses) (made : Tube) → IsRenewedFrom plan histories u uses outputs →
      made ≡ slice_index_or outputs.ports p [] → IsMadeOf plan histories (slice_index given p) uses made
  output-made histories uses made h e = record {
    unit = u;
    output = p;
    tubes = h.tubes;
    origin = output-origin;
    seen = h.seen;
    renewed = e ∙ ap (λ (m : RenewalOf). slice_index_or m.ports p []) h.renewed
        ∙ get_or-map-range_with_len (λ q. renewal (window_of plan) u q h.tubes) 0 (length (planned plan u).view) p p [] output-view (omega arith);
    shape = output-shape ∙ ap (map length) (sym e);
  }

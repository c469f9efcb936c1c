-- Closed histories are sound, where each worker knows how it made what it made.
use Rattle.std.proofs.Common.{◌≡◌, ◌∙◌, ◌&&◌, ℕ, ◌+◌, ◌-◌, ◌<◌, ◌≤◌, Bool, true, cond, List, [], length, map, count_by, slice_index_or, nat_eq, nat_lt, eq-eqb, lt-ltb, refl, sym, ap, subst, ⊎_elim, arith}
use Rattle.std.specs.Prelude.{filter}
use Rattle.std.proofs.lemmas.Bool.{and_from, cases_lt}
use Rattle.std.proofs.lemmas.List.{length-append, length-map, get_or_append_left, get_or-append_right}
use Rattle.std.proofs.lemmas.List.Sums.{get_or-le-sum_by, length-filter, sum_by-append}
use Rattle.flowsheet.specs.Plant.{Origin, feed, port, origin_of}
use Rattle.relaxation.specs.Window.{Window}
use Rattle.relaxation.specs.History.{Version, History, AllBegin, AreSound, Begins, IsMadeFrom, IsSoundFrom, history_of, no_version, numbered}
use Rattle.relaxation.proofs.Seen.{seen_made}
use Rattle.plant_streams.specs.Streams.{streams_of}
use Rattle.plant.specs.PlantOf.{plant_of}
use Rattle.plant.proofs.Lookups.{at-map, item, streams-counted}
use Rattle.renewal.specs.Plan.{PlanOf, window_of}
use Rattle.stream_cell.specs.declared.passes.CellPass.{CellPass}
use Rattle.stream_cell.specs.declared.view.PassView.{PassView}
use Rattle.stream_cell.specs.Passes.{IsOf, made_by, new_pass}
use Rattle.stream_cell.specs.Seats.{IsClosedBy, pass_view}
use Rattle.stream_cell.proofs.Growing.{first_tube}
use Rattle.worker.specs.Knowing.{IsKnown, IsNextMade, seen_by, view_of}

-- the pass with this number made the version
abbrev is_made : ℕ → Version → Bool
is_made pass v = nat_lt 0 v.number && nat_eq v.maker pass

-- how many versions it made
made-counted : (pass : ℕ) (history : History) → length (made_by pass history) ≡ count_by (is_made pass) history
made-counted pass history = length-map (filter (is_made pass) history) (λ (v : Version). v.number) ∙ length-filter (is_made pass) history

-- a version that it made is one of them
made-one : (pass : ℕ) (history : History) (k : ℕ) → k < length history → 0 < (numbered history k).number → (numbered history k).maker ≡ pass →
    0 < count_by (is_made pass) history
made-one pass history k l some mine =
    let v = numbered history k in
    let is : is_made pass v ≡ true = and_from (nat_lt 0 v.number) (nat_eq v.maker pass) (lt-ltb 0 v.number some) (eq-eqb v.maker pass mine) in
    let one : ◌≡◌ {A = ℕ} (cond (is_made pass v) 1 0) 1 = ap (λ b. cond b 1 0) is in
    let counted = get_or-le-sum_by (λ w. cond (is_made pass w) 1 0) history k no_version l in
    omega arith

-- a pass has seen each version that it made
made-seen : (history : History) (pass : PassView) → IsOf history pass → (k : ℕ) → k < length history → 0 < (numbered history k).number →
    (numbered history k).maker ≡ pass.number → k < length pass.seen
made-seen history pass of k l some mine = ⊎_elim (λ inside. inside) (λ (past : length pass.seen ≤ k).
    let rest = of.begins.0 in
    let place = k - length pass.seen in
    let whole = ap length of.begins.1 ∙ length-append pass.seen rest in
    let at : numbered history k ≡ numbered rest place
    = ap (λ versions. numbered versions k) of.begins.1 ∙ get_or-append_right pass.seen rest (length pass.seen) k no_version refl past in
    let more = made-one pass.number rest place (omega arith)
    (subst (λ (v : Version). 0 < v.number) at some) (subst (λ (v : Version). v.maker ≡ pass.number) at mine) in
    let same : count_by (is_made pass.number) history ≡ count_by (is_made pass.number) pass.seen
    = sym (made-counted pass.number history) ∙ ap length (of.made ∙ sym of.knows) ∙ made-counted pass.number pass.seen in
    let both : count_by (is_made pass.number) history ≡ count_by (is_made pass.number) pass.seen + count_by (is_made pass.number) rest
    = ap (count_by (is_made pass.number)) of.begins.1 ∙ sum_by-append (λ v. cond (is_made pass.number v) 1 0) pass.seen rest in
    absurd (omega arith)) (cases_lt k (length pass.seen))

-- what it has seen is the same in the whole history
seen-same : (seen history : History) → Begins seen history → (k : ℕ) → k < length seen → numbered seen k ≡ numbered history k
seen-same seen history begins k l = sym (ap (λ versions. numbered versions k) begins.1 ∙ get_or_append_left seen begins.0 no_version k l)

-- what one pass has seen among all that were seen
seen-at : (passes : List CellPass) (s : ℕ) → s < length passes → history_of (seen_by passes) s ≡ (view_of passes s).seen
seen-at passes s l =
    let pass = item passes s l in
    at-map (λ (p : CellPass). (pass_view p).seen) passes s pass [] l
    ∙ ap (λ (v : PassView). v.seen) (sym (at-map pass_view passes s pass (new_pass [] 0 0) l))

-- what was made from histories as they were seen was made from the whole ones
made-whole : (window : Window) (seen whole : List History) → AllBegin seen whole → (front history : History) (origin : Origin) (k : ℕ) →
    numbered front k ≡ numbered history k → numbered front (k + 1) ≡ numbered history (k + 1) →
    IsNextMade window seen front origin k → IsNextMade window whole history origin k
made-whole window seen whole begin front history (feed f) k before after made = made
made-whole window seen whole begin front history (port u p) k before after made =
    subst (IsMadeFrom window whole u p (numbered history k)) after
    (subst (λ v. IsMadeFrom window whole u p v (numbered front (k + 1))) before (seen_made seen whole begin window u p _ _ made))

-- of a feed's stream none is made, so there is the opening version alone
sound-from : (window : Window) (histories : List History) (history : History) (origin : Origin) → 0 < length history →
    ((k : ℕ) → k + 1 < length history → IsNextMade window histories history origin k) → IsSoundFrom window histories history origin
sound-from window histories history (feed f) some made =
    ⊎_elim (λ (l : 1 < length history). absurd (made 0 (omega arith))) (λ (l : length history ≤ 1). omega arith) (cases_lt 1 (length history))
sound-from window histories history (port u p) some made = made

module _ (plan : PlanOf) (hands : List (List CellPass)) (histories : List History) (counted : length histories ≡ length (streams_of plan.parts))
    (known : (w : ℕ) → w < length hands → IsKnown plan w (slice_index_or hands w []))
    (closed : (s : ℕ) → s < length histories →
    IsClosedBy ((window_of plan).opening s) (map (λ hand. view_of hand s) hands) (history_of histories s)) where
  abbrev hand : ℕ → List CellPass
  hand w = slice_index_or hands w []

  -- a worker has a pass of each stream
  pass-there : (w s : ℕ) → w < length hands → s < length histories → s < length (hand w)
  pass-there w s l m = subst (λ n. s < n) (counted ∙ sym (known w l).counted) m

  -- the views of a stream are those of the workers' passes, in order
  views-at : (w s : ℕ) → w < length hands → slice_index_or (map (λ hand. view_of hand s) hands) w (new_pass [] 0 0) ≡ view_of (hand w) s
  views-at w s l = at-map (λ hand. view_of hand s) hands w [] (new_pass [] 0 0) l

  -- a worker's pass is of the stream's history
  pass-of : (w s : ℕ) → w < length hands → s < length histories → IsOf (history_of histories s) (view_of (hand w) s)
  pass-of w s l m = subst (IsOf (history_of histories s)) (views-at w s l)
      ((closed s m).each w (new_pass [] 0 0) (omega (arith, length-map hands (λ hand. view_of hand s))))

  -- so what a worker has seen begins the histories
  all-begin : (w : ℕ) → w < length hands → AllBegin (seen_by (hand w)) histories
  all-begin w l = record {
    counted = length-map (hand w) (λ (p : CellPass). (pass_view p).seen) ∙ (known w l).counted ∙ sym counted;
    begins = λ s m.
        let there : s < length (hand w) = omega (arith, length-map (hand w) (λ (p : CellPass). (pass_view p).seen)) in
        let inside : s < length histories = omega (arith, (known w l).counted) in
        subst (λ seen. Begins seen (history_of histories s)) (sym (seen-at (hand w) s there)) (pass-of w s l inside).begins;
  }

  -- the worker that made a version
  maker-there : (s k : ℕ) → s < length histories → 0 < k → k < length (history_of histories s) →
      (w : ℕ) × (w < length hands) × ((numbered (history_of histories s) k).maker ≡ w)
  maker-there s k m some l =
      let views = map (λ hand. view_of hand s) hands in
      let maker = (numbered (history_of histories s) k).maker in
      let found = (closed s m).makers k some l in
      let w = found.0 in
      let there : w < length hands
      = omega (arith, found.1, length-map views (λ (v : PassView). v.number), length-map hands (λ hand. view_of hand s)) in
      let number : slice_index_or (map (λ (v : PassView). v.number) views) w maker ≡ w
      = at-map (λ (v : PassView). v.number) views w (new_pass [] 0 0) maker (omega (arith, there, length-map hands (λ hand. view_of hand s)))
      ∙ ap (λ (v : PassView). v.number) (views-at w s there) ∙ (known w there).numbers s (pass-there w s there m) in
      (w, there, sym found.2 ∙ number)

  -- each version above the first was made from the histories
  next-made : (s k : ℕ) → s < length histories → k + 1 < length (history_of histories s) →
      IsNextMade (window_of plan) histories (history_of histories s) (origin_of (plant_of plan.parts) s) k
  next-made s k m l =
      let history = history_of histories s in
      let by = maker-there s (k + 1) m (omega arith) l in
      let w = by.0 in
      let passes = hand w in
      let inside = pass-there w s by.1 m in
      let of = pass-of w s by.1 m in
      let number = (closed s m).ordered.ordered.numbers (k + 1) l in
      let seen : k + 1 < length (view_of passes s).seen
      = made-seen history (view_of passes s) of (k + 1) l (omega arith) (by.2 ∙ sym ((known w by.1).numbers s inside)) in
      let same = seen-same (view_of passes s).seen history of.begins in
      let mine = ap (λ (v : Version). v.maker) (same (k + 1) seen) ∙ by.2 in
      made-whole (window_of plan) (seen_by passes) histories (all-begin w by.1) (view_of passes s).seen history (origin_of (plant_of plan.parts) s) k
      (same k (omega arith)) (same (k + 1) seen) ((known w by.1).made s k inside seen mine)

  pub sound : AreSound (window_of plan) histories
  sound = record {
    counted = counted ∙ sym (streams-counted plan.parts);
    history = λ s l. (closed s l).ordered.ordered;
    opening = λ s l. first_tube ((window_of plan).opening s) (history_of histories s) (closed s l).ordered;
    made = λ s l. sound-from (window_of plan) histories (history_of histories s) (origin_of (plant_of plan.parts) s)
        (closed s l).ordered.ordered.opened (λ k m. next-made s k l m);
  }

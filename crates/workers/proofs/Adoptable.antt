-- What workers made can be adopted on the board with which their plan opens.
use Rattle.std.proofs.Common.{◌≡◌, ◌≢◌, ◌∙◌, ◌==◌, ℕ, ◌+◌, ◌-◌, ◌<◌, ◌≤◌, Bool, cond, List, [], ◌∷◌, length, map, drop, filter, count_by, refl, sym, ap, subst, zero-add, ne_eqb, ⊎_elim, arith}
use Rattle.std.specs.Prelude.{slice_index_or}
use Rattle.std.proofs.lemmas.Bool.{cases_lt}
use Rattle.std.proofs.lemmas.List.{length-drop, length-map}
use Rattle.std.proofs.lemmas.List.Sums.{length-filter, sum_by-cons}
use Rattle.relaxation.specs.Window.{Window}
use Rattle.relaxation.specs.Core.{Versions, after_step, opening_versions}
use Rattle.relaxation.specs.History.{Version, History, history_of}
use Rattle.relaxation.specs.Gathered.{Made, CanAdopt, CanAdoptAll, IsGathered, made_of, step_of}
use Rattle.plant_streams.specs.Streams.{streams_of}
use Rattle.plant.proofs.Lookups.{at-map, item, streams-counted}
use Rattle.renewal.specs.Plan.{PlanOf, window_of}
use Rattle.stream_cell.specs.declared.passes.StreamCell.{StreamCell}
use Rattle.stream_cell.specs.Seats.{IsClosedBy, opening_of}
use Rattle.relax_core.specs.Adopting.{MadeOf, AreAdoptable, made_version}
use Rattle.relax_core.specs.Adopting as adopting
use Rattle.worker.specs.declared.hand.Hand.{Hand}
use Rattle.worker.specs.Knowing.{IsKnown}
use Rattle.workers.specs.Benches.{AreShared}
use Rattle.workers.specs.Cells.{AreClosed, HoldAll, held_by, views_of}
use Rattle.workers.specs.Gathering.{answer_of, AreGathered}

-- who made a version is not asked
without-maker : (window : Window) (state : Versions) (made : Made) → CanAdopt window state made →
    CanAdopt window state (made_version (answer_of made))
without-maker window state made can = record { next = can.next; legal = can.legal; tube = can.tube; narrows = can.narrows }

all-without : (window : Window) (state : Versions) (made : List Made) → CanAdoptAll window state made →
    CanAdoptAll window state (map made_version (map answer_of made))
all-without window state [] can = tt
all-without window state (one ∷ rest) can =
    (without-maker window state one can.0, all-without window (after_step window state (step_of one)) rest can.1)

-- of so many versions those of a stream
abbrev is-of : ℕ → Made → Bool
is-of s made = made.stream == s

answers-counted : (made : List Made) (s : ℕ) → adopting.made_of (map answer_of made) s ≡ count_by (is-of s) made
answers-counted [] s = refl
answers-counted (one ∷ rest) s =
    sum_by-cons (λ (m : MadeOf). cond (m.stream == s) 1 0) (answer_of one) (map answer_of rest)
    ∙ ap (λ n. cond (one.stream == s) 1 0 + n) (answers-counted rest s)
    ∙ sym (sum_by-cons (λ (m : Made). cond (m.stream == s) 1 0) one rest)

-- none of a stream that is not there
none-else : (window : Window) (state : Versions) (made : List Made) (s : ℕ) → length (window.plant).streams ≤ s →
    CanAdoptAll window state made → count_by (is-of s) made ≡ 0
none-else window state [] s past can = refl
none-else window state (one ∷ rest) s past can =
    let inside = ((can.0).legal).stream in
    let other : one.stream ≢ s = λ e. omega arith in
    let not-here : ◌≡◌ {A = ℕ} (cond (one.stream == s) 1 0) 0 = ap (λ b. cond b 1 0) (ne_eqb one.stream s other) in
    let more = none-else window (after_step window state (step_of one)) rest s past can.1 in
    omega (arith, sum_by-cons (λ (m : Made). cond (m.stream == s) 1 0) one rest)

module _ (window : Window) (histories : List History) (few : (s : ℕ) → s < length histories → length (history_of histories s) ≤ 33)
    (counted : length histories ≡ length (window.plant).streams) (made : List Made) (can : CanAdoptAll window (opening_versions window) made)
    (streams : (s : ℕ) → s < length histories → filter (is-of s) made ≡ made_of histories s) where
  few-made : (s : ℕ) → count_by (is-of s) made ≤ 32
  few-made s = ⊎_elim
      (λ (l : s < length histories).
      let all : count_by (is-of s) made ≡ length (history_of histories s) - 1 =
      sym (length-filter (is-of s) made) ∙ ap length (streams s l)
      ∙ length-map (drop 1 (history_of histories s)) (λ (v : Version). record { stream = s; version = v })
      ∙ length-drop 1 (history_of histories s) in
      omega (arith, few s l))
      (λ (l : length histories ≤ s).
      let none = none-else window (opening_versions window) made s (omega arith) can in
      omega arith)
      (cases_lt s (length histories))

-- what is gathered of histories
pub gathered-adoptable : (plan : PlanOf) (histories : List History) (made : List MadeOf) →
    ((s : ℕ) → s < length histories → length (history_of histories s) ≤ 33) → length histories ≡ length ((window_of plan).plant).streams →
    ((list : List Made) → IsGathered histories list → CanAdoptAll (window_of plan) (opening_versions (window_of plan)) list) →
    ((list : List Made) → IsGathered histories list → (s : ℕ) → s < length histories → filter (is-of s) list ≡ made_of histories s) →
    AreGathered histories made → AreAdoptable plan made
gathered-adoptable plan histories made few counted adopted streams is =
    let can = adopted is.0 is.1 in
    let window = window_of plan in
    record {
      adopted = subst (λ list. CanAdoptAll window (opening_versions window) (map made_version list)) (sym is.2)
          (all-without window (opening_versions window) is.0 can);
      few = λ s. subst (λ n. n ≤ 32) (sym (ap (λ list. adopting.made_of list s) is.2 ∙ answers-counted is.0 s))
          (few-made window histories few counted is.0 can (streams is.0 is.1) s);
    }

-- hands that share cells hold a pass of each
pub shared-hold : (plan : PlanOf) (cells : List StreamCell) (hands : List Hand) → AreShared plan cells hands → HoldAll cells hands
shared-hold plan cells hands shared = record {
  counted = shared.passes;
  held = λ w hand l. ((shared.each w hand l).known).counted ∙ sym shared.counted;
  each = λ w s hand cell pass l m. (shared.each w hand l).each s cell pass m;
}

module _ (plan : PlanOf) (cells : List StreamCell) (hands : List Hand) (histories : List History) (shared : AreShared plan cells hands)
    (closed : AreClosed cells hands 0 histories) where
  inside : (s : ℕ) → s < length histories → s < length cells
  inside s l = let counted = closed.counted in omega arith

  pub closed-counted : length histories ≡ length (streams_of plan.parts)
  closed-counted = sym (zero-add (length histories)) ∙ closed.counted ∙ shared.counted

  pub closed-known : (w : ℕ) → w < length (map held_by hands) → IsKnown plan w (slice_index_or (map held_by hands) w [])
  closed-known w l =
      let there : w < length hands = subst (λ n. w < n) (length-map hands held_by) l in
      let hand = item hands w there in
      subst (IsKnown plan w) (sym (at-map held_by hands w hand [] there)) (shared.each w hand there).known

  pub closed-each : (s : ℕ) → s < length histories →
      IsClosedBy ((window_of plan).opening s) (views_of hands s) (history_of histories s)
  closed-each s l =
      let there = inside s l in
      let cell = item cells s there in
      subst (λ tube. IsClosedBy tube (views_of hands s) (history_of histories s)) (shared.opened s cell there)
      (subst (λ n. IsClosedBy (opening_of (slice_index_or cells n cell)) (views_of hands n) (history_of histories s)) (zero-add s)
      (closed.each s cell l))

  pub closed-few : (s : ℕ) → s < length histories → length (history_of histories s) ≤ 33
  closed-few s l = ((closed-each s l).ordered).few

  -- as many as the window's streams
  pub closed-streams : length histories ≡ length ((window_of plan).plant).streams
  closed-streams = closed-counted ∙ sym (streams-counted plan.parts)

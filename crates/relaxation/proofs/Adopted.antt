-- A gathered list is adopted: each version in its turn is the next one of its stream, made from versions that are there.
use Rattle.std.proofs.Common.{◌≡◌, ◌≢◌, ⊎_elim, ℕ, zero, suc, ◌+◌, ◌<◌, ◌≤◌, Bool, true, false, cond, List, [], ◌∷◌, ◌++◌, length, map, drop, set, filter, flat_map, All, refl, sym, ap, ap₂, ◌∙◌, subst, subst₂, eq-eqb, ne_eqb, get_or-set_same, get_or-set_other, add-one, le_refl, arith}
use Rattle.std.specs.List.{range_with_len}
use Rattle.std.proofs.lemmas.Bool.{cases_eq}
use Rattle.std.proofs.lemmas.List.{length-set}
use Rattle.std.proofs.lemmas.List.Elements.{All-nil, All-head, All-tail, All-append, All-map, All-from_get_or}
use Rattle.std.proofs.lemmas.List.Sorted.{All-permutation}
use Rattle.flowsheet.specs.Plant.{port, unit_at, origin_of}
use Rattle.flowsheet.proofs.Ranks.{Source, from_feed, from_port, source}
use Rattle.relaxation.specs.Tube.{Tube, is_within, IsNarrower, meet}
use Rattle.relaxation.specs.Window.{Window, renewal}
use Rattle.relaxation.specs.Core.{Versions, opening_versions, versions_of, version_at, last_of, named, AreThere, origin_renewal, step_renewal, IsLegalFrom, after_step, replay, AreLegal, AreNarrowing}
use Rattle.relaxation.specs.History.{Version, History, no_version, numbered, history_of, read_versions, AreEarlier, IsMadeFrom, IsSoundFrom, AreSound}
use Rattle.relaxation.specs.Gathered.{Made, made_of, all_made, IsGathered, step_of, CanAdopt, CanAdoptAll, tubes_of}
use Rattle.relaxation.proofs.Meets.{within-yes, meet-wider}
use Rattle.relaxation.proofs.Seen.{stream_there}
use Rattle.relaxation.proofs.Ordered.{NoneBelow, IsRising, below-filter}
use Rattle.relaxation.proofs.Gathers.{is_of, stamp_of, made_as, in_order_rises}
use Rattle.relaxation.proofs.Reached.{IsReached, AreReached, IsNext, reached_length, reached_at, reached_last, reached_early, next_reached, opening_reached, all_reached}

-- a step that gives a strictly narrower tube is not idle
not_true : (b : Bool) → (b ≡ true → ⊥) → b ≡ false
not_true true h = absurd (h refl)
not_true false h = refl

-- the meet is not the last version, so this does not lie in the renewal
not_idle : (last renewed tube : Tube) → tube ≡ meet last renewed → IsNarrower tube last → is_within last renewed ≡ false
not_idle last renewed tube e n = not_true (is_within last renewed) (λ y. n.other (e ∙ meet-wider last renewed (within-yes last renewed y)))

-- so it is taken
unless : {X : Type 0} (b : Bool) (x y : X) → b ≡ false → cond b x y ≡ y
unless b x y e = rw e refl

-- a version at the head of a list is its stream's, and no other's
own_first : (m : Made) (ms : List Made) → filter (is_of m.stream) (m ∷ ms) ≡ m ∷ filter (is_of m.stream) ms
own_first m ms = rw (eq-eqb m.stream m.stream refl) refl

-- a filter by another stream passes it over
other_first : (s : ℕ) (m : Made) (ms : List Made) → m.stream ≢ s → filter (is_of s) (m ∷ ms) ≡ filter (is_of s) ms
other_first s m ms n = rw (ne_eqb m.stream s n) refl

-- the versions with a stamp below this one are there
abbrev AreEarlyThere : List History → Versions → ℕ → Type 0
AreEarlyThere histories state stamp = (q k : ℕ) → k < length (history_of histories q) → (numbered (history_of histories q) k).stamp < stamp →
    (k < length (versions_of state q)) × (version_at state q k ≡ (numbered (history_of histories q) k).tube)

-- where all that is left has no lesser stamp
early_there : (histories : List History) (state : Versions) (rest : List Made) (stamp : ℕ) → AreReached histories state rest →
    NoneBelow stamp_of stamp rest → AreEarlyThere histories state stamp
early_there histories state rest stamp reached below q k h l =
    let r = reached.each q (stream_there histories q k h) in
    let c = reached_early r stamp k (below-filter stamp_of (is_of q) stamp rest below) h l in
    (omega (arith, c, reached_length r), reached_at r k c)

-- so all that a version refers to is there, with the tubes of the histories
module _ (histories : List History) (state : Versions) (stamp : ℕ) (early : AreEarlyThere histories state stamp) where
  -- their numbers are there
  refs_there : (streams refs : List ℕ) → AreEarlier histories stamp streams refs → AreThere state streams refs
  refs_there [] [] h = h
  refs_there [] (k ∷ refs) h = h
  refs_there (s ∷ streams) [] h = h
  refs_there (s ∷ streams) (k ∷ refs) h = ((early s k h.0 h.1).0, refs_there streams refs h.2)

  -- and they are the same tubes
  refs_named : (streams refs : List ℕ) → AreEarlier histories stamp streams refs →
      named state streams refs ≡ map (λ (v : Version). v.tube) (read_versions histories streams refs)
  refs_named [] refs h = refl
  refs_named (s ∷ streams) [] h = refl
  refs_named (s ∷ streams) (k ∷ refs) h = ap₂ ◌∷◌ (early s k h.0 h.1).1 (refs_named streams refs h.2)

module _ (window : Window) (histories : List History) (sound : AreSound window histories) where
  module _ (state : Versions) (m : Made) (rest : List Made) (reached : AreReached histories state (m ∷ rest))
      (below : NoneBelow stamp_of (stamp_of m) (m ∷ rest)) (inside : m.stream < length histories) where
    -- the state of the head's stream
    own_reached : IsReached (history_of histories m.stream) (versions_of state m.stream) (m ∷ filter (is_of m.stream) rest) m.stream
    own_reached = subst (λ l. IsReached (history_of histories m.stream) (versions_of state m.stream) l m.stream) (own_first m rest) (reached.each m.stream inside)

    -- which the head continues
    own_next : IsNext (history_of histories m.stream) (versions_of state m.stream) m (filter (is_of m.stream) rest) m.stream own_reached.last
    own_next = next_reached m (filter (is_of m.stream) rest) own_reached

    -- it comes after the last version
    after_last : numbered (history_of histories m.stream) (own_reached.last + 1) ≡ m.version
    after_last = ap (numbered (history_of histories m.stream)) (add-one own_reached.last) ∙ sym own_next.version

    -- which is there
    more_inside : own_reached.last + 1 < length (history_of histories m.stream)
    more_inside = omega (arith, own_next.within)

    -- and is narrower
    own_narrower : IsNarrower m.version.tube (last_of state m.stream)
    own_narrower = subst₂ (λ (v : Version) (t : Tube). IsNarrower v.tube t) after_last (sym (reached_last own_reached))
        ((sound.history m.stream inside).narrower own_reached.last more_inside)

    -- it is made from versions that are there
    own_early : AreEarlyThere histories state m.version.stamp
    own_early = early_there histories state (m ∷ rest) m.version.stamp reached below

    -- by the unit that gives its stream
    own_made : (u p : ℕ) → origin_of window.plant m.stream ≡ port u p →
        IsMadeFrom window histories u p (numbered (history_of histories m.stream) own_reached.last) m.version
    own_made u p e =
        let h = subst (IsSoundFrom window histories (history_of histories m.stream)) e (sound.made m.stream inside) in
        subst (λ v. IsMadeFrom window histories u p (numbered (history_of histories m.stream) own_reached.last) v) after_last (h own_reached.last more_inside)

    -- so it can be adopted
    own_tube : (u p : ℕ) → origin_of window.plant m.stream ≡ port u p →
        m.version.tube ≡ meet (last_of state m.stream) (step_renewal window state (step_of m))
    own_tube u p e =
        let made = own_made u p e in
        let renewed : step_renewal window state (step_of m) ≡ renewal window u p (map (λ (v : Version). v.tube) (read_versions histories (unit_at window.plant u).reads m.version.refs))
        = ap (origin_renewal window state m.stream m.version.refs) e
        ∙ ap (renewal window u p) (refs_named histories state m.version.stamp own_early (unit_at window.plant u).reads m.version.refs made.refs) in
        made.tube ∙ sym (ap₂ meet (reached_last own_reached) renewed)

    -- a feed has no made version
    can_from : Source (origin_of window.plant m.stream) → CanAdopt window state m
    can_from (from_feed f e) =
        let one : length (history_of histories m.stream) ≡ 1 = subst (IsSoundFrom window histories (history_of histories m.stream)) e (sound.made m.stream inside) in
        absurd (omega (arith, one, more_inside))
    can_from (from_port u p e) = record {
      next = ap (λ (v : Version). v.number) own_next.version ∙ (sound.history m.stream inside).numbers (suc own_reached.last) own_next.within
          ∙ sym (reached_length own_reached);
      legal = record {
        stream = subst (λ n. m.stream < n) sound.counted inside;
        inputs = subst (IsLegalFrom window state m.version.refs) (sym e)
            (refs_there histories state m.version.stamp own_early (unit_at window.plant u).reads m.version.refs (own_made u p e).refs);
      };
      tube = own_tube u p e;
      narrows = not_idle (last_of state m.stream) (step_renewal window state (step_of m)) m.version.tube (own_tube u p e) own_narrower;
    }

    -- from wherever its stream comes
    can_adopt : CanAdopt window state m
    can_adopt = can_from (source (origin_of window.plant m.stream))

    -- and the state then goes on
    adopted_state : after_step window state (step_of m) ≡ set state m.stream (versions_of state m.stream ++ m.version.tube ∷ [])
    adopted_state = unless _ _ _ can_adopt.narrows ∙ ap (λ t. set state m.stream (versions_of state m.stream ++ t ∷ [])) (sym can_adopt.tube)

    -- with one version more of one stream
    set_reached : (more : List Tube) → more ≡ versions_of state m.stream ++ m.version.tube ∷ [] → AreReached histories (set state m.stream more) rest
    set_reached more e = record {
      counted = length-set state m.stream more ∙ reached.counted;
      each = λ q l. ⊎_elim
          (λ (same : q ≡ m.stream). subst (λ s. IsReached (history_of histories s) (versions_of (set state m.stream more) s) (filter (is_of s) rest) s) (sym same)
          (own_next.after (versions_of (set state m.stream more) m.stream) (get_or-set_same state m.stream more [] (omega (arith, reached.counted, inside)) ∙ e)))
          (λ (other : q ≢ m.stream). let r = reached.each q l in record {
            last = r.last;
            within = r.within;
            versions = get_or-set_other state m.stream q more [] other ∙ r.versions;
            left = sym (other_first q m rest (λ s. other (sym s))) ∙ r.left;
          })
          (cases_eq q m.stream);
    }

    -- which is the state after its step
    goes_on : AreReached histories (after_step window state (step_of m)) rest
    goes_on = subst (λ st. AreReached histories st rest) (sym adopted_state) (set_reached _ refl)

  -- one after another, up to the tubes of the histories
  adopts : (rest : List Made) (state : Versions) → AreReached histories state rest → IsRising stamp_of rest → All (λ (m : Made). m.stream < length histories) rest →
      CanAdoptAll window state rest × (replay window state (map step_of rest) ≡ tubes_of histories)
  adopts [] state reached rising all = (tt, all_reached histories state reached)
  adopts (m ∷ rest) state reached rising all =
      let inside = All-head (λ (m : Made). m.stream < length histories) m rest all in
      let below : NoneBelow stamp_of (stamp_of m) (m ∷ rest) = (le_refl _, rising.0) in
      let q = adopts rest (after_step window state (step_of m)) (goes_on state m rest reached below inside) rising.1
      (All-tail (λ (m : Made). m.stream < length histories) m rest all) in
      ((can_adopt state m rest reached below inside, q.0), q.1)

-- the streams of all made versions are there
made_inside : (histories : List History) (a n : ℕ) → a + n ≤ length histories →
    All (λ (m : Made). m.stream < length histories) (flat_map (made_of histories) (range_with_len a n))
made_inside histories a zero h = All-nil (λ (m : Made). m.stream < length histories)
made_inside histories a (suc n) h = All-append (λ (m : Made). m.stream < length histories) (made_of histories a) (flat_map (made_of histories) (range_with_len (a + 1) n))
    (All-map (λ (m : Made). m.stream < length histories) (made_as a) (drop 1 (history_of histories a))
    (All-from_get_or (λ v. a < length histories) (drop 1 (history_of histories a)) no_version (λ i l. omega arith)))
    (made_inside histories (a + 1) n (omega arith))

-- so a gathered list is adopted from the opening versions
pub gathered_adopted : (window : Window) (histories : List History) (made : List Made) → AreSound window histories → IsGathered histories made →
    CanAdoptAll window (opening_versions window) made × (replay window (opening_versions window) (map step_of made) ≡ tubes_of histories)
gathered_adopted window histories made sound gathered =
    adopts window histories sound made (opening_versions window) (opening_reached window histories made sound gathered) (in_order_rises made gathered.order)
    (All-permutation (λ (m : Made). m.stream < length histories) (all_made histories) made gathered.all (made_inside histories 0 (length histories) (omega arith)))

-- what can be adopted is legal and narrows
pub adopted_legal : (window : Window) (state : Versions) (made : List Made) → CanAdoptAll window state made → AreLegal window state (map step_of made)
adopted_legal window state [] h = tt
adopted_legal window state (m ∷ made) h = (h.0.legal, adopted_legal window (after_step window state (step_of m)) made h.1)

-- each step appends
pub adopted_narrowing : (window : Window) (state : Versions) (made : List Made) → CanAdoptAll window state made → AreNarrowing window state (map step_of made)
adopted_narrowing window state [] h = tt
adopted_narrowing window state (m ∷ made) h = (h.0.narrows, adopted_narrowing window (after_step window state (step_of m)) made h.1)

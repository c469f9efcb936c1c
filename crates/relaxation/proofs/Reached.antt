-- States that hold of each stream the tubes of its first versions, while the others are left.
use Rattle.std.proofs.Common.{◌≡◌, ⊎_elim, ℕ, zero, suc, ◌-◌, ◌<◌, ◌≤◌, List, [], ◌∷◌, ◌++◌, length, map, take, drop, get_or, filter, refl, sym, ap, ap₂, ◌∙◌, subst, take-suc, take_all, get_or-take, le_of_suc-le-suc, sub-one, not-suc-le-zero, zero-add, arith}
use Rattle.std.proofs.lemmas.Bool.{cases_lt}
use Rattle.std.proofs.Math.ListN.{get_or-map}
use Rattle.std.proofs.lemmas.List.{length-map, length-drop, length-take-le, ext_get_or}
use Rattle.std.proofs.lemmas.List.FromFn.{length-map-range_with_len, get_or-map-range_with_len}
use Rattle.relaxation.specs.Tube.{Tube}
use Rattle.relaxation.specs.Window.{Window}
use Rattle.relaxation.specs.Core.{Versions, opening_versions, versions_of}
use Rattle.relaxation.specs.History.{Version, History, no_version, numbered, history_of, AreSound}
use Rattle.relaxation.specs.Gathered.{Made, IsGathered, tubes_of}
use Rattle.relaxation.proofs.Ordered.{NoneBelow}
use Rattle.relaxation.proofs.Gathers.{is_of, stamp_of, made_as, gathered_streams}

-- the tubes of a history
abbrev pub tubes_in : History → List Tube
tubes_in history = map (λ (v : Version). v.tube) history

-- of a stream, the tubes up to one version are there, and the later versions are left
pub record IsReached (history : History) (tubes : List Tube) (made : List Made) (s : ℕ) : Type 0 where
  pub last : ℕ
  pub within : last < length history
  pub versions : tubes ≡ take (suc last) (tubes_in history)
  pub left : made ≡ map (made_as s) (drop (suc last) history)

-- of each stream
pub record AreReached (histories : List History) (state : Versions) (rest : List Made) : Type 0 where
  pub counted : length state ≡ length histories
  pub each : (s : ℕ) → s < length histories → IsReached (history_of histories s) (versions_of state s) (filter (is_of s) rest) s

-- the tube at a place of a history
tubes_at : (history : History) (k : ℕ) → get_or (tubes_in history) k [] ≡ (numbered history k).tube
tubes_at history k = get_or-map (λ (v : Version). v.tube) history k no_version

-- the version that comes next is the head of what is left
next_left : (s n : ℕ) (history : History) (m : Made) (ms : List Made) → m ∷ ms ≡ map (made_as s) (drop n history) →
    (n < length history) × (m ≡ made_as s (numbered history n)) × (ms ≡ map (made_as s) (drop (suc n) history))
next_left s zero [] m ms e = absurd (cc)
next_left s (suc n) [] m ms e = absurd (cc)
next_left s zero (v ∷ vs) m ms e = (omega arith, cc, cc)
next_left s (suc n) (v ∷ vs) m ms e = let r = next_left s n vs m ms e in (omega (arith, r.0), r.1, r.2)

-- what is left has no stamp below those of its versions
left_below : (s n k x : ℕ) (history : History) → NoneBelow stamp_of x (map (made_as s) (drop n history)) → n ≤ k → k < length history →
    x ≤ (numbered history k).stamp
left_below s n k x [] h l m = absurd (not-suc-le-zero m)
left_below s zero zero x (v ∷ vs) h l m = h.0
left_below s zero (suc k) x (v ∷ vs) h l m = left_below s zero k x vs h.1 (omega arith) (le_of_suc-le-suc m)
left_below s (suc n) zero x (v ∷ vs) h l m = absurd (not-suc-le-zero l)
left_below s (suc n) (suc k) x (v ∷ vs) h l m = left_below s n k x vs h (le_of_suc-le-suc l) (le_of_suc-le-suc m)

module _ {history : History} {versions : List Tube} {left : List Made} {s : ℕ} (r : IsReached history versions left s) where
  -- the versions are counted by the number of the last
  pub reached_length : length versions ≡ suc r.last
  reached_length = ap length r.versions ∙ length-take-le (suc r.last) (tubes_in history) (omega (arith, r.within, length-map history (λ (v : Version). v.tube)))

  -- each is the tube of the one with its number
  pub reached_at : (k : ℕ) → k < suc r.last → get_or versions k [] ≡ (numbered history k).tube
  reached_at k h = ap (λ l. get_or l k []) r.versions ∙ get_or-take (suc r.last) (tubes_in history) k [] h ∙ tubes_at history k

  -- also the last
  pub reached_last : get_or versions (length versions - 1) [] ≡ (numbered history r.last).tube
  reached_last = ap (λ k. get_or versions k []) (ap (λ k. k - 1) reached_length ∙ sub-one (suc r.last)) ∙ reached_at r.last (omega arith)

  -- a version with a stamp below all that is left is there
  pub reached_early : (x k : ℕ) → NoneBelow stamp_of x left → k < length history → (numbered history k).stamp < x → k < suc r.last
  reached_early x k h l b = ⊎_elim (λ c. c)
      (λ (c : suc r.last ≤ k). let above : x ≤ (numbered history k).stamp = left_below s (suc r.last) k x history (subst (NoneBelow stamp_of x) r.left h) c l in absurd (omega arith))
      (cases_lt k (suc r.last))

  -- where none is left, all tubes are there
  pub reached_all : left ≡ [] → versions ≡ tubes_in history
  reached_all e =
      let none : 0 ≡ length (map (made_as s) (drop (suc r.last) history)) = ap length (sym e ∙ r.left) in
      r.versions ∙ take_all (suc r.last) (tubes_in history)
      (omega (arith, none, length-map (drop (suc r.last) history) (made_as s), length-drop (suc r.last) history, length-map history (λ (v : Version). v.tube)))

-- the head of what is left is the next version, and then is there
pub record IsNext (history : History) (versions : List Tube) (m : Made) (ms : List Made) (s last : ℕ) : Type 0 where
  pub within : suc last < length history
  pub version : m.version ≡ numbered history (suc last)
  pub after : (more : List Tube) → more ≡ versions ++ m.version.tube ∷ [] → IsReached history more ms s

-- where it is the first that is left
pub next_reached : {history : History} {versions : List Tube} {s : ℕ} (m : Made) (ms : List Made) (r : IsReached history versions (m ∷ ms) s) →
    IsNext history versions m ms s r.last
next_reached {history} {versions} {s} m ms r =
    let n = next_left s (suc r.last) history m ms r.left in
    let same : m.version ≡ numbered history (suc r.last) = ap (λ (x : Made). x.version) n.1 in
    let longer : suc r.last < length (tubes_in history) = omega (arith, n.0, length-map history (λ (v : Version). v.tube)) in
    record {
      within = n.0;
      version = same;
      after = λ more e. record {
        last = suc r.last;
        within = n.0;
        versions = e ∙ ap₂ (λ (l : List Tube) (t : Tube). l ++ t ∷ []) r.versions (ap (λ (v : Version). v.tube) same ∙ sym (tubes_at history (suc r.last)))
            ∙ sym (take-suc (tubes_in history) (suc r.last) [] longer);
        left = n.2;
      };
    }

-- the opening versions are there at first
first_tube : (history : History) (tube : Tube) → 0 < length history → (numbered history 0).tube ≡ tube → tube ∷ [] ≡ take 1 (tubes_in history)
first_tube [] tube h e = absurd (not-suc-le-zero h)
first_tube (v ∷ vs) tube h e = ap (λ t. t ∷ []) (sym e)

-- in the opening state, with all made versions left
pub opening_reached : (window : Window) (histories : List History) (made : List Made) → AreSound window histories → IsGathered histories made →
    AreReached histories (opening_versions window) made
opening_reached window histories made sound gathered = record {
  counted = length-map-range_with_len (λ s. window.opening s ∷ []) 0 (length window.plant.streams) ∙ sym sound.counted;
  each = λ s l. record {
    last = 0;
    within = (sound.history s l).opened;
    versions = get_or-map-range_with_len (λ s. window.opening s ∷ []) 0 (length window.plant.streams) s s [] (subst (λ n. s < n) sound.counted l) (zero-add s)
        ∙ first_tube (history_of histories s) (window.opening s) (sound.history s l).opened (sound.opening s l);
    left = gathered_streams histories made gathered s l (sound.history s l);
  };
}

-- all versions are there at last
pub all_reached : (histories : List History) (state : Versions) → AreReached histories state [] → state ≡ tubes_of histories
all_reached histories state r = ext_get_or [] state (tubes_of histories) (r.counted ∙ sym (length-map histories tubes_in))
    (λ s l. reached_all (r.each s (subst (λ n. s < n) r.counted l)) refl ∙ sym (get_or-map tubes_in histories s []))

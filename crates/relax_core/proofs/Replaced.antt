-- Versions that are read off what the next ones replaced.
use Rattle.std.proofs.Common.{◌≡◌, ◌∙◌, ℕ, zero, suc, ◌+◌, ◌-◌, ◌<◌, ◌≤◌, List, [], ◌∷◌, ◌++◌, length, map, take, drop, refl, sym, ap, subst, arith, slice_index_or, get_or}
use Rattle.std.specs.Prelude.{slice_set}
use Rattle.std.specs.List.{AllByRecursion}
use Rattle.std.proofs.lemmas.List.{length-append, length-drop, drop-append-le, map-set, map-append, get_or-map, length-map}
use Rattle.std.proofs.Math.Seq.{drop-append_seam, take-length}
use Rattle.std.specs.List.{range_with_len}
use Rattle.std.proofs.lemmas.List.FromFn.{map-range_with_len_more}
use Rattle.quant.specs.Interval.{Interval}
use Rattle.quant.proofs.Calls.{same_cons}
use Rattle.relaxation.specs.Tube.{Tube, meet}
use Rattle.relaxation.specs.Core.{Versions, versions_of, version_at, last_of}
use Rattle.tubes.specs.Shape.{HasShapeOf}
use Rattle.relax_core.specs.Rooms.{AreSameTicks}
use Rattle.relax_core.specs.Versions.{bands_from, restored, before, oldest, all_versions, versions_in, IsReplaced, IsLine}
use Rattle.relax_core.specs.declared.line.Change.{Change}
use Rattle.relax_core.specs.declared.line.Line.{Line}
use Rattle.relax_core.proofs.Lasts.{last_in}
use Rattle.relax_core.proofs.Changes.{bands-counted, meet-shape, meet-ticks, restored-shape, restored-more, restored-is}

-- of what holds of each element: at a place, and with another in one place
pub all-at : {X : Type 0} (P : X → Type 0) (xs : List X) (i : ℕ) (d : X) → AllByRecursion P xs → i < length xs → P (get_or xs i d)
all-at P [] i d h l = absurd (omega arith)
all-at P (x ∷ xs) zero d h l = h.0
all-at P (x ∷ xs) (suc i) d h l = all-at P xs i d h.1 (omega arith)

pub all-set : {X : Type 0} (P : X → Type 0) (xs : List X) (i : ℕ) (y : X) → AllByRecursion P xs → P y → AllByRecursion P (slice_set xs i y)
all-set P [] i y h p = tt
all-set P (x ∷ xs) zero y h p = (p, h.1)
all-set P (x ∷ xs) (suc i) y h p = (h.0, all-set P xs i y h.1 p)

all-push : {X : Type 0} (P : X → Type 0) (xs : List X) (y : X) → AllByRecursion P xs → P y → AllByRecursion P (xs ++ y ∷ [])
all-push P [] y h p = (p, tt)
all-push P (x ∷ xs) y h p = (h.0, all-push P xs y h.1 p)

pub all-drop : {X : Type 0} (P : X → Type 0) (n : ℕ) (xs : List X) → AllByRecursion P xs → AllByRecursion P (drop n xs)
all-drop P zero xs h = h
all-drop P (suc n) [] h = tt
all-drop P (suc n) (x ∷ xs) h = all-drop P n xs h.1

-- as many bands are there for a tube of the newest one's shape
there : (replaced : List Interval) (newest tube : Tube) (change : Change) → HasShapeOf tube newest →
    IsReplaced replaced newest change → length (bands_from change.tick tube) ≤ length (drop change.start replaced)
there replaced newest tube change shape h =
    omega (arith, bands-counted change.tick tube newest shape, length-drop change.start replaced, h)

-- each version has the shape of the newest
before-shape : (replaced : List Interval) (newest tube : Tube) (change : Change) → HasShapeOf tube newest →
    IsReplaced replaced newest change → HasShapeOf (before replaced change tube) newest
before-shape replaced newest tube change shape h =
    restored-shape change.tick tube (drop change.start replaced) (there replaced newest tube change shape h) ∙ shape

pub oldest-shape : (replaced : List Interval) (newest : Tube) (changes : List Change) →
    AllByRecursion (IsReplaced replaced newest) changes → HasShapeOf (oldest replaced newest changes) newest
oldest-shape replaced newest [] h = refl
oldest-shape replaced newest (change ∷ changes) h =
    before-shape replaced newest (oldest replaced newest changes) change (oldest-shape replaced newest changes h.1) h.0

-- and there are bands enough to go one further back
pub next-there : (replaced : List Interval) (newest : Tube) (changes : List Change) (change : Change) →
    AllByRecursion (IsReplaced replaced newest) changes → IsReplaced replaced newest change →
    length (bands_from change.tick (oldest replaced newest changes)) ≤ length (drop change.start replaced)
next-there replaced newest changes change h k =
    there replaced newest (oldest replaced newest changes) change (oldest-shape replaced newest changes h) k

-- more that is replaced tells nothing of the versions before
before-more : (replaced more : List Interval) (newest tube : Tube) (change : Change) → HasShapeOf tube newest →
    IsReplaced replaced newest change → before (replaced ++ more) change tube ≡ before replaced change tube
before-more replaced more newest tube change shape h =
    ap (restored change.tick tube) (drop-append-le change.start replaced more (omega (arith, h)))
    ∙ restored-more change.tick tube (drop change.start replaced) more (there replaced newest tube change shape h)

oldest-more : (replaced more : List Interval) (newest : Tube) (changes : List Change) →
    AllByRecursion (IsReplaced replaced newest) changes →
    oldest (replaced ++ more) newest changes ≡ oldest replaced newest changes
oldest-more replaced more newest [] h = refl
oldest-more replaced more newest (change ∷ changes) h =
    ap (before (replaced ++ more) change) (oldest-more replaced more newest changes h.1)
    ∙ before-more replaced more newest (oldest replaced newest changes) change (oldest-shape replaced newest changes h.1) h.0

pub all-more : (replaced more : List Interval) (newest : Tube) (changes : List Change) →
    AllByRecursion (IsReplaced replaced newest) changes →
    all_versions (replaced ++ more) newest changes ≡ all_versions replaced newest changes
all-more replaced more newest [] h = refl
all-more replaced more newest (change ∷ changes) h =
    same_cons _ _ _ _ (oldest-more replaced more newest (change ∷ changes) h) (all-more replaced more newest changes h.1)

pub versions-more : (replaced more : List Interval) (line : Line) → IsLine replaced line →
    versions_in (replaced ++ more) line ≡ versions_in replaced line
versions-more replaced more line h = all-more replaced more line.newest line.changes.items h

still-replaced : (replaced more : List Interval) (newest tube : Tube) (changes : List Change) → HasShapeOf tube newest →
    AllByRecursion (IsReplaced replaced newest) changes → AllByRecursion (IsReplaced (replaced ++ more) tube) changes
still-replaced replaced more newest tube [] shape h = tt
still-replaced replaced more newest tube (change ∷ changes) shape h = (
  omega (arith, bands-counted change.tick tube newest shape, length-append replaced more, h.0),
  still-replaced replaced more newest tube changes shape h.1,
)

pub line-more : (replaced more : List Interval) (line : Line) → IsLine replaced line → IsLine (replaced ++ more) line
line-more replaced more line h = still-replaced replaced more line.newest line.newest line.changes.items refl h

pub lines-more : (replaced more : List Interval) (lines : List Line) → AllByRecursion (IsLine replaced) lines →
    AllByRecursion (IsLine (replaced ++ more)) lines
lines-more replaced more [] h = tt
lines-more replaced more (line ∷ lines) h = (line-more replaced more line h.0, lines-more replaced more lines h.1)

pub all-lines-more : (replaced more : List Interval) (lines : List Line) → AllByRecursion (IsLine replaced) lines →
    map (versions_in (replaced ++ more)) lines ≡ map (versions_in replaced) lines
all-lines-more replaced more [] h = refl
all-lines-more replaced more (line ∷ lines) h =
    same_cons _ _ _ _ (versions-more replaced more line h.0) (all-lines-more replaced more lines h.1)

-- with a newer tube, of which the last change leads back
oldest-push : (replaced : List Interval) (newest tube : Tube) (changes : List Change) (change : Change) →
    before replaced change tube ≡ newest →
    oldest replaced tube (changes ++ change ∷ []) ≡ oldest replaced newest changes
oldest-push replaced newest tube [] change e = e
oldest-push replaced newest tube (first ∷ changes) change e =
    ap (before replaced first) (oldest-push replaced newest tube changes change e)

all-push-version : (replaced : List Interval) (newest tube : Tube) (changes : List Change) (change : Change) →
    before replaced change tube ≡ newest →
    all_versions replaced tube (changes ++ change ∷ []) ≡ all_versions replaced newest changes ++ tube ∷ []
all-push-version replaced newest tube [] change e = ap (λ (first : Tube). first ∷ tube ∷ []) e
all-push-version replaced newest tube (first ∷ changes) change e =
    same_cons _ _ _ _ (ap (before replaced first) (oldest-push replaced newest tube changes change e))
    (all-push-version replaced newest tube changes change e)

-- the bands from a tick on were kept behind those that were there, and the tube was met below none of them
module _ (replaced : List Interval) (newest tube : Tube) (changes : List Change) (change : Change)
    (start : change.start ≡ length replaced) (shape : HasShapeOf tube newest) (same : AreSameTicks change.tick newest tube)
    (h : AllByRecursion (IsReplaced replaced newest) changes) where
  kept : List Interval
  kept = replaced ++ bands_from change.tick newest

  goes-back : before kept change tube ≡ newest
  unfolding kept
  goes-back =
      ap (λ n. restored change.tick tube (drop n kept)) start
      ∙ ap (restored change.tick tube) (drop-append_seam replaced (bands_from change.tick newest))
      ∙ restored-is change.tick newest tube shape same

  pub versions-push : all_versions (replaced ++ bands_from change.tick newest) tube (changes ++ change ∷ [])
      ≡ all_versions replaced newest changes ++ tube ∷ []
  unfolding kept
  versions-push =
      all-push-version kept newest tube changes change goes-back
      ∙ ap (λ (list : List Tube). list ++ tube ∷ []) (all-more replaced (bands_from change.tick newest) newest changes h)

  pub line-push : AllByRecursion (IsReplaced (replaced ++ bands_from change.tick newest) tube) (changes ++ change ∷ [])
  line-push = all-push (IsReplaced (replaced ++ bands_from change.tick newest) tube) changes change
      (still-replaced replaced (bands_from change.tick newest) newest tube changes shape h)
      (omega (arith, start, bands-counted change.tick tube newest shape, length-append replaced (bands_from change.tick newest)))

-- the same of the meet with a renewal that has the same bands below the tick
module _ (replaced kept : List Interval) (newest renewal tube : Tube) (changes pushed : List Change) (tick start : ℕ)
    (keeps : kept ≡ replaced ++ bands_from tick newest) (pushes : pushed ≡ changes ++ (record { tick = tick; start = start }) ∷ [])
    (meets : tube ≡ meet newest renewal) (begins : start ≡ length replaced) (shape : HasShapeOf newest renewal)
    (same : AreSameTicks tick newest renewal) (h : AllByRecursion (IsReplaced replaced newest) changes) where
  change : Change
  change = record { tick = tick; start = start }

  pub met-line : AllByRecursion (IsReplaced kept tube) pushed
  unfolding change
  met-line = rw keeps (rw pushes (rw meets (line-push replaced newest (meet newest renewal) changes change begins
      (meet-shape newest renewal shape) (meet-ticks tick newest renewal shape same) h)))

  pub met-versions : all_versions kept tube pushed ≡ all_versions replaced newest changes ++ meet newest renewal ∷ []
  unfolding change
  met-versions = rw keeps (rw pushes (rw meets (versions-push replaced newest (meet newest renewal) changes change begins
      (meet-shape newest renewal shape) (meet-ticks tick newest renewal shape same) h)))

-- how many versions there are, and the one with a number
pub versions-counted : (replaced : List Interval) (newest : Tube) (changes : List Change) →
    length (all_versions replaced newest changes) ≡ suc (length changes)
versions-counted replaced newest [] = refl
versions-counted replaced newest (change ∷ changes) = ap suc (versions-counted replaced newest changes)

pub version-is : (replaced : List Interval) (newest : Tube) (changes : List Change) (k : ℕ) → k ≤ length changes →
    slice_index_or (all_versions replaced newest changes) k [] ≡ oldest replaced newest (drop k changes)
version-is replaced newest [] zero l = refl
version-is replaced newest [] (suc k) l = absurd (omega arith)
version-is replaced newest (change ∷ changes) zero l = refl
version-is replaced newest (change ∷ changes) (suc k) l = version-is replaced newest changes k (omega arith)

pub newest-is : (replaced : List Interval) (newest : Tube) (changes : List Change) →
    slice_index_or (all_versions replaced newest changes) (length changes) [] ≡ newest
newest-is replaced newest [] = refl
newest-is replaced newest (change ∷ changes) = newest-is replaced newest changes

pub version-shape : (replaced : List Interval) (newest : Tube) (changes : List Change) (k : ℕ) → k ≤ length changes →
    AllByRecursion (IsReplaced replaced newest) changes →
    HasShapeOf (slice_index_or (all_versions replaced newest changes) k []) newest
version-shape replaced newest changes k l h =
    ap (map length) (version-is replaced newest changes k l)
    ∙ oldest-shape replaced newest (drop k changes) (all-drop (IsReplaced replaced newest) k changes h)

-- a part of a list that goes to its end
pub rest-whole : (n : ℕ) (bands : List Interval) → take (length bands - n) (drop n bands) ≡ drop n bands
rest-whole n bands = ap (λ k. take k (drop n bands)) (sym (length-drop n bands)) ∙ take-length (drop n bands)

-- lines that each have the opening tube of their stream
abbrev pub AreOpening : (ℕ → Tube) → ℕ → List Line → Type 0
AreOpening opening n lines = (map (versions_in []) lines ≡ map (λ s. opening s ∷ []) (range_with_len 0 n))
    × AllByRecursion (IsLine []) lines

pub opening-more : (opening : ℕ → Tube) (n : ℕ) (lines more : List Line) (line : Line) → more ≡ lines ++ line ∷ [] →
    AreOpening opening n lines → line.newest ≡ opening n → line.changes.items ≡ [] → AreOpening opening (n + 1) more
opening-more opening n lines more line e h newest none =
    let one : versions_in [] line ≡ opening n ∷ [] =
    ap (all_versions [] line.newest) none ∙ ap (λ (tube : Tube). tube ∷ []) newest in (
      ap (map (versions_in [])) e ∙ map-append (versions_in []) lines (line ∷ [])
          ∙ ap (λ (front : Versions). front ++ versions_in [] line ∷ []) h.0
          ∙ ap (λ (last : List Tube). map (λ s. opening s ∷ []) (range_with_len 0 n) ++ last ∷ []) one
          ∙ sym (map-range_with_len_more (λ s. opening s ∷ []) 0 n n (omega arith)),
      subst (AllByRecursion (IsLine [])) (sym e)
          (all-push (IsLine []) lines line h.1
          (subst (AllByRecursion (IsReplaced [] line.newest)) (sym none) tt)),
    )

-- the last of a line's versions is its newest
last-newest : (replaced : List Interval) (newest : Tube) (changes : List Change) →
    slice_index_or (all_versions replaced newest changes) (length (all_versions replaced newest changes) - 1) [] ≡ newest
last-newest replaced newest changes =
    let counted = versions-counted replaced newest changes in
    let number : length (all_versions replaced newest changes) - 1 ≡ length changes = omega (arith, counted) in
    ap (λ n. slice_index_or (all_versions replaced newest changes) n []) number ∙ newest-is replaced newest changes

pub lasts-newest : (replaced : List Interval) (lines : List Line) →
    map (λ (line : Line). line.newest) lines ≡ map last_in (map (versions_in replaced) lines)
lasts-newest replaced [] = refl
lasts-newest replaced (line ∷ lines) =
    same_cons _ _ _ _ (sym (last-newest replaced line.newest line.changes.items)) (lasts-newest replaced lines)

-- of all lines: the versions of a stream, how many they are, and the last
module _ (replaced : List Interval) (lines : List Line) (s : ℕ) (line : Line) (l : s < length lines)
    (is : line ≡ get_or lines s line) (state : Versions) (view : map (versions_in replaced) lines ≡ state) where
  pub line-of : versions_of state s ≡ versions_in replaced line
  line-of = ap (λ (list : Versions). slice_index_or list s []) (sym view)
      ∙ get_or-map (versions_in replaced) lines s line [] l ∙ ap (versions_in replaced) (sym is)

  pub line-counted : length (versions_of state s) ≡ suc (length line.changes.items)
  line-counted = ap length line-of ∙ versions-counted replaced line.newest line.changes.items

  pub line-last : last_of state s ≡ line.newest
  line-last = ap (λ (list : List Tube). slice_index_or list (length list - 1) []) line-of
      ∙ last-newest replaced line.newest line.changes.items

  pub line-version : (k : ℕ) → version_at state s k ≡ slice_index_or (versions_in replaced line) k []
  line-version k = ap (λ (list : List Tube). slice_index_or list k []) line-of

  -- a line keeps what it replaced, and each version has the shape of the newest
  module _ (h : AllByRecursion (IsLine replaced) lines) where
    pub line-kept : IsLine replaced line
    line-kept = subst (IsLine replaced) (sym is) (all-at (IsLine replaced) lines s line h l)

    pub line-shape : (k : ℕ) → k ≤ length line.changes.items → HasShapeOf (version_at state s k) line.newest
    line-shape k m = ap (map length) (line-version k)
        ∙ version-shape replaced line.newest line.changes.items k m line-kept

    -- where more is replaced and the line is another
    module _ (more kept : List Interval) (grows : kept ≡ replaced ++ more) (other : Line) where
      pub set-kept : IsLine kept other → AllByRecursion (IsLine kept) (slice_set lines s other)
      set-kept k = all-set (IsLine kept) lines s other
          (subst (λ (list : List Interval). AllByRecursion (IsLine list) lines) (sym grows) (lines-more replaced more lines h)) k

      pub set-view : (versions : List Tube) → versions_in kept other ≡ versions →
          map (versions_in kept) (slice_set lines s other) ≡ slice_set state s versions
      set-view versions e =
          map-set (versions_in kept) lines s other
          ∙ ap (λ (list : Versions). slice_set list s (versions_in kept other))
          (ap (λ (list : List Interval). map (versions_in list) lines) grows ∙ all-lines-more replaced more lines h ∙ view)
          ∙ ap (slice_set state s) e

-- as many lines as streams
pub lines-counted : (replaced : List Interval) (lines : List Line) (state : Versions) →
    map (versions_in replaced) lines ≡ state → length lines ≡ length state
lines-counted replaced lines state view = sym (length-map lines (versions_in replaced)) ∙ ap length view

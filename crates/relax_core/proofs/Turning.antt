-- The unit that gives a stream, and the last versions of what it reads, which are there.
use Rattle.std.proofs.Common.{◌≡◌, ◌∙◌, ℕ, ◌+◌, ◌-◌, ◌<◌, List, [], ◌∷◌, ◌++◌, length, map, take}
use Rattle.std.proofs.Common.{get_or, true, false, Ok, sym, ap, subst, arith}
use Rattle.std.specs.Prelude.{Bool, slice_index, slice_set}
use Rattle.std.specs.List.{AllByRecursion}
use Rattle.std.proofs.lemmas.List.{length-map, take_more_set, map_more}
use Rattle.std.specs.declared.alloc.AllocError.{AllocError}
use Rattle.flowsheet.specs.Plant.{Origin, feed, port, origin_of}
use Rattle.flowsheet.proofs.Ranks.{unit_there}
use Rattle.parts.specs.Parts.{FileParts}
use Rattle.relaxation.specs.Core.{Versions, versions_of, last_numbers, last_step}
use Rattle.plant_streams.specs.declared.streams.Stream.{Stream}
use Rattle.plant_streams.specs.declared.streams.StreamSource.{StreamSource}
use Rattle.plant_streams.specs.declared.streams.StreamSource.TheVariants as source
use Rattle.plant_streams.specs.Streams.{streams_of}
use Rattle.plant_units.specs.Units.{units_of}
use Rattle.plant.specs.PlantOf.{plant_of, origin_in}
use Rattle.plant.proofs.Lookups.{at-map, origin-is, units-counted, streams-counted}
use Rattle.renewal.specs.Plan.{PlanOf, IsPlan, window_of}
use Rattle.renewal.specs.Room.{planned}
use Rattle.renewal.proofs.Givers.{some-giver, reads-are}
use Rattle.renewal.proofs.RoomShapes.{below-at}
use Rattle.renewal.proofs.Windows.{is-open}
use Rattle.relax_core.specs.Board.{BoardOf, IsBoard}
use Rattle.relax_core.specs.Stepping.{IsFirstMissing, reads_for, reads_from, Steps}
use Rattle.relax_core.specs.Turns.{IsGivenBy, TurnsFrom, Turns}
use Rattle.relax_core.specs.declared.board.Stepped.{Stepped}
use Rattle.relax_core.specs.declared.board.Stepped.TheVariants as stepped
use Rattle.relax_core.proofs.Boards.{some-version}

-- the origin of a stream that is read from the list of streams
pub origin-read : (parts : FileParts) (streams : List Stream) (s : ℕ) (d : Stream) (src : StreamSource) →
    s < length (streams_of parts) → streams ≡ streams_of parts → (get_or streams s d).source ≡ src →
    origin_of (plant_of parts) s ≡ origin_in src
origin-read parts streams s d src l e is =
    origin-is parts s src (at-map (λ (stream : Stream). stream.source) (streams_of parts) s d (source.Feed 0) l
    ∙ ap (λ (list : List Stream). (get_or list s d).source) (sym e) ∙ is)

-- the port that a stream's unit gives it at
pub giver : (o : Origin) (u : ℕ) → IsGivenBy o u → (p : ℕ) × (o ≡ port u p)
giver (feed f) u h = absurd h
giver (port v p) u h = (p, ap (λ w. port w p) h)

-- the unit that gives a stream is there
pub giver-there : (plan : PlanOf) (s u : ℕ) → IsPlan plan → s < length (streams_of plan.parts) →
    IsGivenBy (origin_of (plant_of plan.parts) s) u → u < length (units_of plan.parts)
giver-there plan s u h l g =
    let plant = plant_of plan.parts in
    let found = giver (origin_of plant s) u g in
    let below = subst (λ n. s < n) (sym (streams-counted plan.parts)) l in
    subst (λ n. u < n) (units-counted plan.parts) (unit_there plant s u found.0 (is-open plan h).ranked below found.1)

-- what it reads is what is read for the stream
pub giver-reads : (plan : PlanOf) (s u : ℕ) → IsGivenBy (origin_of (plant_of plan.parts) s) u →
    reads_for plan s ≡ (planned plan u).reads
giver-reads plan s u g =
    let found = giver (origin_of (plant_of plan.parts) s) u g in ap (reads_from plan) found.1

-- streams that are there
pub reads-there : (plan : PlanOf) (u : ℕ) → IsPlan plan → u < length (units_of plan.parts) →
    AllByRecursion (λ s. s < length (streams_of plan.parts)) (planned plan u).reads
reads-there plan u h l =
    let found = some-giver plan u h l in
    subst (λ (reads : List ℕ). AllByRecursion (λ s. s < length (streams_of plan.parts)) reads)
    (sym (reads-are plan u found.0 found.1))
    (found.1).sound.reads

-- the number of the last version of one stream more
pub numbers-more : (state : Versions) (reads numbers : List ℕ) (i n : ℕ) → i < length reads → i < length numbers →
    take i numbers ≡ last_numbers state (take i reads) → n ≡ length (versions_of state (slice_index reads i)) - 1 →
    take (i + 1) (slice_set numbers i n) ≡ last_numbers state (take (i + 1) reads)
numbers-more state reads numbers i n l m e is =
    take_more_set numbers i n m
    ∙ ap (λ (front : List ℕ). front ++ n ∷ []) e
    ∙ ap (λ (x : ℕ). last_numbers state (take i reads) ++ x ∷ []) is
    ∙ sym (map_more (λ s. length (versions_of state s) - 1) reads i 0 l)

-- the last versions are not missing
pub last-missing : (board : BoardOf) → IsBoard board → (u : ℕ) → u < length (units_of board.plan.parts) →
    (numbers reads : List ℕ) → reads ≡ (planned board.plan u).reads →
    numbers ≡ last_numbers board.versions (planned board.plan u).reads →
    (k wanted have : ℕ) → IsFirstMissing board reads numbers k wanted have → ⊥
last-missing board is u l numbers reads r e k wanted have missing =
    let own : List ℕ = (planned board.plan u).reads in
    let m : IsFirstMissing board own (last_numbers board.versions own) k wanted have
    = subst (λ (list : List ℕ). IsFirstMissing board own list k wanted have) e
    (subst (λ (list : List ℕ). IsFirstMissing board list numbers k wanted have) r missing) in
    let number = λ (s : ℕ). length (versions_of board.versions s) - 1 in
    let inside : k < length own = omega (arith, m.inside, length-map own number) in
    let at : slice_index (map number own) k ≡ number (slice_index own k) = at-map number own k 0 0 inside in
    let some = some-version board is (slice_index own k)
    (below-at (length (streams_of board.plan.parts)) own k (reads-there board.plan u is.plan l) inside) in
    omega (arith, m.names, m.counts, m.missing, at, some)

-- a turn tells whether its step narrowed
abbrev pub has_narrowed : Stepped → Bool
has_narrowed (stepped.Narrowed number) = true
has_narrowed stepped.Same = false

told : (board new : BoardOf) (s u p : ℕ) (made : Stepped) →
    Steps (Ok made) board (last_step (window_of board.plan) board.versions u s) new →
    TurnsFrom {E = AllocError} (Ok (has_narrowed made)) board s (port u p) new
told board new s u p (stepped.Narrowed number) h = (h.0, h.1, h.3)
told board new s u p stepped.Same h = h

pub turned : (board new : BoardOf) (s u p : ℕ) (made seen : Stepped) →
    origin_of (plant_of board.plan.parts) s ≡ port u p → made ≡ seen →
    Steps (Ok made) board (last_step (window_of board.plan) board.versions u s) new → Turns {E = AllocError} (Ok (has_narrowed seen)) board s new
turned board new s u p made seen origin e h =
    subst (λ (from : Origin). TurnsFrom {E = AllocError} (Ok (has_narrowed seen)) board s from new) (sym origin)
    (told board new s u p seen (subst (λ (m : Stepped). Steps (Ok m) board (last_step (window_of board.plan) board.versions u s) new) e h))

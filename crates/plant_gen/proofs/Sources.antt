-- What the units of a generated plant read: the streams of the names, where these come from and what they are.
use Rattle.std.proofs.Common.{ℕ, zero, suc, ◌+◌, ◌*◌, ◌<◌, ◌≤◌, ◌≡◌, Bool, true, false, List, [], ◌∷◌, codes, map}
use Rattle.std.proofs.Common.{length, refl, arith, ◌∙◌, add-zero, zero-add, Some, slice_index_or, ap, subst₂}
use Rattle.parts.specs.Parts.{FileParts}
use Rattle.plant_streams.specs.Streams.{ports_of, unit_streams, streams_of, number_of}
use Rattle.plant_streams.specs.declared.streams.Stream.{Stream}
use Rattle.plant_streams.specs.declared.streams.StreamSource.{StreamSource}
use Rattle.plant_streams.specs.declared.streams.StreamSource.TheVariants as source
use Rattle.plant_streams.specs.Limits.{source_at}
use Rattle.plant_gen.specs.Generated.{mixer_name, tank_name, splitter_name, output_name, taken_in, generated_parts}
use Rattle.plant_gen.proofs.Stages.{stages}
use Rattle.plant_gen.proofs.Coded.{found}
use Rattle.plant_gen.proofs.Names.{stream_code, streams-coded}

-- the streams of stage i, whose first unit has number u, which units read
abbrev stream_of : List ℕ → ℕ → ℕ → Stream
stream_of name u p = record { name = name; source = source.Port u p; signal = false }

abbrev mixer_out : ℕ → ℕ → Stream
mixer_out u i = stream_of (output_name (mixer_name i) (codes "out")) u 0

abbrev tank_out : ℕ → ℕ → Stream
tank_out u i = stream_of (output_name (tank_name i) (codes "out")) (suc u) 0

abbrev first_out : ℕ → ℕ → Stream
first_out u i = stream_of (output_name (splitter_name i) (codes "first")) (suc (suc u)) 0

abbrev second_out : ℕ → ℕ → Stream
second_out u i = stream_of (output_name (splitter_name i) (codes "second")) (suc (suc u)) 1

-- where they stand in a list, by something that is seen of each stream
record ArePlaced {X : Type 0} (seen : Stream → X) (d : X) (xs : List X) (at u i : ℕ) : Type 0 where
  mixer : slice_index_or xs at d ≡ seen (mixer_out u i)
  tank : slice_index_or xs (suc at) d ≡ seen (tank_out u i)
  first : slice_index_or xs (suc (suc (suc at))) d ≡ seen (first_out u i)
  second : slice_index_or xs (suc (suc (suc (suc at)))) d ≡ seen (second_out u i)

shifted : {X : Type 0} (seen : Stream → X) (d a b c e f : X) (xs : List X) (at u i : ℕ) →
    ArePlaced seen d xs at u i → ArePlaced seen d (a ∷ b ∷ c ∷ e ∷ f ∷ xs) (suc (suc (suc (suc (suc at))))) u i
shifted seen d a b c e f xs at u i p =
    record { mixer = p.mixer; tank = p.tank; first = p.first; second = p.second }

placed-from : {X : Type 0} (seen : Stream → X) (d : X) (u i k j : ℕ) → j < k →
    ArePlaced seen d (map seen (unit_streams u (stages i k))) (5 * j) (u + 3 * j) (i + j)
unfolding ports_of
placed-from seen d u i zero j h = absurd (omega arith)
placed-from seen d u i (suc k) zero h =
    rw (add-zero u, add-zero i) (record { mixer = refl; tank = refl; first = refl; second = refl })
placed-from seen d u i (suc k) (suc j) h =
    let e : 5 * suc j ≡ suc (suc (suc (suc (suc (5 * j))))) = omega arith in
    let f : u + 3 * suc j ≡ suc (suc (suc u)) + 3 * j = omega arith in
    let g : i + suc j ≡ (i + 1) + j = omega arith in
    rw (e, f, g)
    (shifted seen d _ _ _ _ _ (map seen (unit_streams (suc (suc (suc u))) (stages (i + 1) k))) (5 * j)
    (suc (suc (suc u)) + 3 * j) ((i + 1) + j)
    (placed-from seen d (suc (suc (suc u))) (i + 1) k j (omega arith)))

-- in the plant, where the feeds come first
placed : {X : Type 0} (seen : Stream → X) (d : X) (n j : ℕ) → j < n →
    ArePlaced seen d (map seen (streams_of (generated_parts n))) (suc (suc (5 * j))) (3 * j) j
unfolding generated_parts streams_of
placed seen d n j h =
    let p = subst₂ (λ (u i : ℕ). ArePlaced seen d (map seen (unit_streams 0 (stages 0 n))) (5 * j) u i)
    (zero-add (3 * j)) (zero-add j) (placed-from seen d 0 0 n j h) in
    record { mixer = p.mixer; tank = p.tank; first = p.first; second = p.second }

outputs-counted : (u i k : ℕ) → length (unit_streams u (stages i k)) ≡ 5 * k
unfolding ports_of
outputs-counted u i zero = refl
outputs-counted u i (suc k) = omega (arith, outputs-counted (suc (suc (suc u))) (i + 1) k)

pub streams-counted : (n : ℕ) → length (streams_of (generated_parts n)) ≡ 2 + 5 * n
unfolding generated_parts streams_of
streams-counted n = omega (arith, outputs-counted 0 0 n)

-- the name is that of a stream, which is a signal or not and comes from this source
pub record IsRead (parts : FileParts) (name : List ℕ) (is_signal : Bool) (from : StreamSource) : Type 0 where
  pub at : ℕ
  pub number : number_of (streams_of parts) name ≡ Some at
  pub signal : slice_index_or (map (λ stream. stream.signal) (streams_of parts)) at false ≡ is_signal
  pub source : source_at parts at ≡ from

read-at : (n at : ℕ) (x : Stream) → n ≤ 80 → at < 2 + 5 * n →
    slice_index_or (map (λ stream. stream.name) (streams_of (generated_parts n))) at [] ≡ x.name →
    slice_index_or (map (λ stream. stream.signal) (streams_of (generated_parts n))) at false ≡ x.signal →
    source_at (generated_parts n) at ≡ x.source → IsRead (generated_parts n) x.name x.signal x.source
read-at n at x few h e f g = record {
  at = at;
  number =
      found stream_code (streams_of (generated_parts n)) 0 at x.name (streams-coded n few)
      (omega (arith, streams-counted n)) e
      ∙ ap Some (zero-add at);
  signal = f;
  source = g;
}

names-placed : (n j : ℕ) → j < n →
    ArePlaced (λ stream. stream.name) [] (map (λ stream. stream.name) (streams_of (generated_parts n)))
    (suc (suc (5 * j))) (3 * j) j
names-placed n j h = placed (λ stream. stream.name) [] n j h

signals-placed : (n j : ℕ) → j < n →
    ArePlaced (λ stream. stream.signal) false (map (λ stream. stream.signal) (streams_of (generated_parts n)))
    (suc (suc (5 * j))) (3 * j) j
signals-placed n j h = placed (λ stream. stream.signal) false n j h

sources-placed : (n j : ℕ) → j < n →
    ArePlaced (λ stream. stream.source) (source.Feed 0) (map (λ stream. stream.source) (streams_of (generated_parts n)))
    (suc (suc (5 * j))) (3 * j) j
sources-placed n j h = placed (λ stream. stream.source) (source.Feed 0) n j h

pub mixer-read : (n j : ℕ) → n ≤ 80 → j < n →
    IsRead (generated_parts n) (output_name (mixer_name j) (codes "out")) false (source.Port (3 * j) 0)
mixer-read n j few h =
    read-at n (suc (suc (5 * j))) (mixer_out (3 * j) j) few (omega arith) (names-placed n j h).mixer
    (signals-placed n j h).mixer (sources-placed n j h).mixer

pub tank-read : (n j : ℕ) → n ≤ 80 → j < n →
    IsRead (generated_parts n) (output_name (tank_name j) (codes "out")) false (source.Port (suc (3 * j)) 0)
tank-read n j few h =
    read-at n (suc (suc (suc (5 * j)))) (tank_out (3 * j) j) few (omega arith) (names-placed n j h).tank
    (signals-placed n j h).tank (sources-placed n j h).tank

pub first-read : (n j : ℕ) → n ≤ 80 → j < n →
    IsRead (generated_parts n) (output_name (splitter_name j) (codes "first")) false (source.Port (suc (suc (3 * j))) 0)
first-read n j few h =
    read-at n (suc (suc (suc (suc (suc (5 * j)))))) (first_out (3 * j) j) few (omega arith) (names-placed n j h).first
    (signals-placed n j h).first (sources-placed n j h).first

pub second-read : (n j : ℕ) → n ≤ 80 → j < n →
    IsRead (generated_parts n) (output_name (splitter_name j) (codes "second")) false
    (source.Port (suc (suc (3 * j))) 1)
second-read n j few h =
    read-at n (suc (suc (suc (suc (suc (suc (5 * j))))))) (second_out (3 * j) j) few (omega arith)
    (names-placed n j h).second (signals-placed n j h).second (sources-placed n j h).second

-- the feeds
pub feed-read : (n : ℕ) → IsRead (generated_parts n) (codes "f") false (source.Feed 0)
unfolding generated_parts streams_of
feed-read n = record { at = 0; number = refl; signal = refl; source = refl }

pub valve-read : (n : ℕ) → IsRead (generated_parts n) (codes "v") true (source.Feed 1)
unfolding generated_parts streams_of
valve-read n = record { at = 1; number = refl; signal = refl; source = refl }

-- where a mixer's first input comes from
abbrev pub taken_from : ℕ → StreamSource
taken_from zero = source.Feed 0
taken_from (suc j) = source.Port (suc (suc (3 * j))) 0

pub taken-read : (n j : ℕ) → n ≤ 80 → j < n → IsRead (generated_parts n) (taken_in j) false (taken_from j)
taken-read n zero few h = feed-read n
taken-read n (suc j) few h = first-read n j few (omega arith)

-- Streams by their numbers: the feeds, and then the outputs of each unit in turn.
use Rattle.std.proofs.Common.{◌≡◌, ℕ, ◌<◌, Bool, true, false, Option, Some, arith, suc, ◌+◌, List, [], ◌∷◌, length}
use Rattle.std.proofs.Common.{refl, sym, unwrap_or, map, slice_index_or, None, Ok, ap, ◌++◌, ◌∙◌, get_or-append-add}
use Rattle.std.proofs.Common.{append_assoc, zero}
use Rattle.std.specs.Prelude.{if◌then◌else◌, bytes_eq}
use Rattle.std.specs.List.{AllByRecursion}
use Rattle.std.proofs.lemmas.List.{map-append, length-map, length-append}
use Rattle.parts.specs.declared.feeds.FeedPart.{FeedPart}
use Rattle.parts.specs.Parts.{FileParts}
use Rattle.parts.specs.declared.units.UnitPart.{UnitPart}
use Rattle.plant_streams.specs.declared.streams.Stream.{Stream}
use Rattle.plant_streams.specs.Streams.{number_from, Reference, number_of, gives_signal, feed_streams}
use Rattle.plant_streams.specs.Streams.{port_streams, unit_streams, streams_of, ports_of}
use Rattle.plant_streams.specs.declared.streams.StreamSource.{StreamSource}
use Rattle.plant_streams.specs.declared.streams.StreamSource.TheVariants as source
use Rattle.plant_checks.specs.Checks.{same_bool, source_refused, port_refused, each}
use Rattle.plant_streams.proofs.Counts.{length-feed_streams, length-port_streams}
use Rattle.plant_checks.proofs.Passed.{passes-test, passes-both}

-- the number of a stream is below their count
chosen-below : (b : Bool) (s n m : ℕ) (o : Option ℕ) → (o ≡ Some n → n < m) → s < m →
    (if b then Some s else o) ≡ Some n → n < m
chosen-below true s n m o h l e = let g : s ≡ n = cc in omega arith
chosen-below false s n m o h l e = h e

number-below : (streams : List Stream) (s n m : ℕ) (name : List ℕ) → s + length streams ≡ m →
    number_from s streams name ≡ Some n → n < m
number-below [] s n m name g e = absurd cc
number-below (stream ∷ streams) s n m name g e =
    chosen-below (bytes_eq stream.name name) s n m (number_from (suc s) streams name)
    (number-below streams (suc s) n m name (omega arith)) (omega arith) e

-- the stream that a reference names is there, and gives what its port needs
same-bool : (a b : Bool) → same_bool a b ≡ true → a ≡ b
same-bool true b e = sym e
same-bool false true e = absurd cc
same-bool false false e = refl

-- the number of the stream that a reference names
abbrev pub number_named : List Stream → Reference → ℕ
number_named streams reference = unwrap_or (number_of streams reference.name) 0

pub record IsFound (streams : List Stream) (reference : Reference) : Type 0 where
  pub named : number_of streams reference.name ≡ Some (number_named streams reference)
  pub there : number_named streams reference < length streams
  pub fits : slice_index_or (map (λ stream. stream.signal) streams) (number_named streams reference) false
      ≡ reference.signal

found-at : (streams : List Stream) (u : ℕ) (reference : Reference) (o : Option ℕ) →
    ((n : ℕ) → o ≡ Some n → n < length streams) →
    source_refused u reference o ≡ Ok tt → port_refused u reference (gives_signal streams o) ≡ Ok tt →
    (o ≡ Some (unwrap_or o 0)) × (unwrap_or o 0 < length streams)
    × (slice_index_or (map (λ stream. stream.signal) streams) (unwrap_or o 0) false ≡ reference.signal)
found-at streams u reference None below e g = absurd cc
found-at streams u reference (Some n) below e g = (refl, below n refl, same-bool _ _ (passes-test _ _ g))

found : (streams : List Stream) (u : ℕ) (reference : Reference) →
    source_refused u reference (number_of streams reference.name) ≡ Ok tt →
    port_refused u reference (gives_signal streams (number_of streams reference.name)) ≡ Ok tt →
    IsFound streams reference
found streams u reference e g =
    let h = found-at streams u reference (number_of streams reference.name)
    (λ n h. number-below streams 0 n (length streams) reference.name (omega arith) h) e g in
    record { named = h.0; there = h.1; fits = h.2 }

-- so it is for each of a unit's references
abbrev pub AreFound : List Stream → List Reference → Type 0
AreFound streams references = AllByRecursion (IsFound streams) references

pub found-each : (streams : List Stream) (u i : ℕ) (references : List Reference) →
    each (λ i reference. source_refused u reference (number_of streams reference.name)) i references ≡ Ok tt →
    each (λ i reference. port_refused u reference (gives_signal streams (number_of streams reference.name))) i
    references
    ≡ Ok tt →
    AreFound streams references
found-each streams u i [] e g = tt
found-each streams u i (reference ∷ references) e g =
    let a = passes-both (source_refused u reference (number_of streams reference.name)) _ e in
    let b = passes-both (port_refused u reference (gives_signal streams (number_of streams reference.name))) _ g in
    (found streams u reference a.0 b.0, found-each streams u (suc i) references a.1 b.1)

-- and the streams that it reads are there
pub numbers-there : (streams : List Stream) (references : List Reference) → AreFound streams references →
    AllByRecursion (λ s. s < length streams) (map (number_named streams) references)
numbers-there streams [] h = tt
numbers-there streams (reference ∷ references) h = (h.0.there, numbers-there streams references h.1)

-- what a list has behind its first items
pub at-placed : {A B : Type 0} (f : A → B) (xs p q : List A) (n k m : ℕ) (d : B) → xs ≡ p ++ q →
    length p ≡ n → m ≡ n + k →
    slice_index_or (map f xs) m d ≡ slice_index_or (map f q) k d
at-placed f xs p q n k m d e l g =
    let h : m ≡ length (map f p) + k = omega (arith, length-map p f) in
    ap (λ ys. slice_index_or (map f ys) m d) e
    ∙ (ap (λ ys. slice_index_or ys m d) (map-append f p q)
    ∙ (ap (λ i. slice_index_or (map f p ++ map f q) i d) h ∙ get_or-append-add (map f p) (map f q) k d))

pub below-placed : {A : Type 0} (xs p q : List A) (n k m : ℕ) → xs ≡ p ++ q → length p ≡ n → m ≡ n + k →
    k < length q → m < length xs
below-placed xs p q n k m e l g h = omega (arith, length-append p q, ap length e)

-- the units from number u on, whose first output has this number
pub record AreRest (parts : FileParts) (u first : ℕ) (rest : List UnitPart) : Type 0 where
  pub earlier : List UnitPart
  pub counted : length earlier ≡ u
  pub units : parts.units ≡ earlier ++ rest
  pub before : List Stream
  pub placed : length before ≡ first
  pub streams : streams_of parts ≡ before ++ unit_streams u rest

-- all of them
pub rest-all : (parts : FileParts) → AreRest parts 0 (length parts.feeds) parts.units
unfolding streams_of
rest-all parts = record {
  earlier = [];
  counted = refl;
  units = refl;
  before = feed_streams 0 parts.feeds;
  placed = length-feed_streams 0 parts.feeds;
  streams = refl;
}

-- those behind a unit
pub rest-next : (parts : FileParts) (u first : ℕ) (unit : UnitPart) (rest : List UnitPart) →
    AreRest parts u first (unit ∷ rest) →
    AreRest parts (suc u) (first + length (ports_of unit.kind)) rest
rest-next parts u first unit rest h =
    let outputs : List Stream = port_streams unit.name u 0 (ports_of unit.kind) in
    record {
      earlier = h.earlier ++ (unit ∷ []);
      counted = omega (arith, length-append h.earlier (unit ∷ []));
      units = h.units ∙ sym (append_assoc h.earlier (unit ∷ []) rest);
      before = h.before ++ outputs;
      placed = omega (arith, length-append h.before outputs, length-port_streams unit.name u 0 (ports_of unit.kind));
      streams = h.streams ∙ sym (append_assoc h.before outputs (unit_streams (suc u) rest));
    }

-- the feeds come first
feed-at : (i f n : ℕ) (feeds : List FeedPart) (rest : List Stream) (d : StreamSource) → f < length feeds → n ≡ i + f →
    slice_index_or (map (λ stream. stream.source) (feed_streams i feeds ++ rest)) f d ≡ source.Feed n
feed-at i f n [] rest d l e = absurd (omega arith)
feed-at i zero n (feed ∷ feeds) rest d l e = ap source.Feed (omega arith)
feed-at i (suc f) n (feed ∷ feeds) rest d l e = feed-at (suc i) f n feeds rest d (omega arith) (omega arith)

pub feeds-first : (parts : FileParts) (f : ℕ) → f < length parts.feeds →
    slice_index_or (map (λ stream. stream.source) (streams_of parts)) f (source.Feed 0) ≡ source.Feed f
unfolding streams_of
feeds-first parts f l = feed-at 0 f f parts.feeds (unit_streams 0 parts.units) (source.Feed 0) l (omega arith)

pub feeds-there : (parts : FileParts) (f : ℕ) → f < length parts.feeds → f < length (streams_of parts)
unfolding streams_of
feeds-there parts f l =
    omega (
      arith,
      length-append (feed_streams 0 parts.feeds) (unit_streams 0 parts.units),
      length-feed_streams 0 parts.feeds,
    )

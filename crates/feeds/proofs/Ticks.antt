-- A feed's tube gets the given bands one tick after another.
use Rattle.std.proofs.Common.{◌≡◌, ◌∙◌, ℕ, ◌+◌, ◌<◌, List, [], ◌∷◌, ◌++◌, length, map, replicate, set, get_or, inl, inr}
use Rattle.std.proofs.Common.{length-set, get_or-set_other, get_or-set_same, sym, ap, refl, arith}
use Rattle.std.proofs.lemmas.Bool.{cases_eq}
use Rattle.std.proofs.lemmas.List.{length-replicate, get_or-replicate}
use Rattle.std.specs.List.{range_with_len}
use Rattle.std.proofs.lemmas.List.FromFn.{fill_by_all, map-range_with_len_more}
use Rattle.quant.specs.Interval.{Interval}
use Rattle.relaxation.specs.Tube.{Tube, tube_of}
use Rattle.relaxation.proofs.Ticks.{at-tube_of, length-tube_of}
use Rattle.parts.specs.Parts.{FileParts}
use Rattle.parts.specs.declared.feeds.FeedPart.{FeedPart}
use Rattle.parts.specs.declared.feeds.FeedKind.{FeedKind}
use Rattle.parts.specs.declared.feeds.FeedKind.TheVariants as feed_kind
use Rattle.parts.specs.Given.{kind_bands, given_bands}
use Rattle.plant.proofs.Lookups.{item-there}
use Rattle.plant.proofs.Givens.{given-is}
use Rattle.feeds.specs.Ticks.{IsGivenBefore}

-- a feed has as many channels at each tick
pub channels-steady : (kind : FeedKind) (tick other : ℕ) →
    length (kind_bands tick kind) ≡ length (kind_bands other kind)
unfolding kind_bands
channels-steady (feed_kind.Material flow conc temp) tick other = refl
channels-steady (feed_kind.Signal value) tick other = refl

pub given-none : (kind : FeedKind) (first n : ℕ) → IsGivenBefore kind first n 0 (replicate n (kind_bands first kind))
given-none kind first n = record {
  counted = length-replicate n (kind_bands first kind);
  channels = λ t l. ap length (get_or-replicate n t (kind_bands first kind) [] l);
  given = λ t l. absurd (omega arith);
}

pub given-more : (kind : FeedKind) (first n tick : ℕ) (tube : Tube) → tick < n →
    IsGivenBefore kind first n tick tube →
    IsGivenBefore kind first n (tick + 1) (set tube tick (kind_bands (first + tick) kind))
given-more kind first n tick tube l before =
    let row : List Interval = kind_bands (first + tick) kind in
    let there : tick < length tube = omega (arith, before.counted) in
    record {
      counted = length-set tube tick row ∙ before.counted;
      channels = λ t m. elim (cases_eq t tick) [
        | inl e ↦ rw e (ap length (get_or-set_same tube tick row [] there) ∙ channels-steady kind (first + tick) first)
        | inr ne ↦ ap length (get_or-set_other tube tick t row [] ne) ∙ before.channels t m
      ];
      given = λ t m. elim (cases_eq t tick) [
        | inl e ↦ rw e (get_or-set_same tube tick row [] there)
        | inr ne ↦ get_or-set_other tube tick t row [] ne ∙ before.given t (omega arith)
      ];
    }

pub given-all : (kind : FeedKind) (first n : ℕ) (tube : Tube) → IsGivenBefore kind first n n tube →
    tube ≡ tube_of (λ t. kind_bands (first + t) kind) n
given-all kind first n tube all = fill_by_all (λ t. kind_bands (first + t) kind) tube n [] all.counted all.given

-- the tube of the feed with this number over n ticks from a first one
abbrev pub feed_tube : FileParts → ℕ → ℕ → ℕ → Tube
feed_tube parts first n f = tube_of (λ t. given_bands parts (first + t) f) n

-- the feed that stands there gives it
tube-is : (parts : FileParts) (first n f : ℕ) (x : FeedPart) → f < length parts.feeds →
    tube_of (λ t. kind_bands (first + t) (get_or parts.feeds f x).kind) n ≡ feed_tube parts first n f
tube-is parts first n f x l = fill_by_all (λ t. given_bands parts (first + t) f)
    (tube_of (λ t. kind_bands (first + t) (get_or parts.feeds f x).kind) n) n [] (length-tube_of _ n)
    (λ t m. at-tube_of _ n t m ∙ sym (given-is parts (first + t) f x l))

-- one tube more
pub tubes-more : (parts : FileParts) (first n f : ℕ) (x : FeedPart) (feeds : List FeedPart) (made : Tube)
    (tubes : List Tube) → feeds ≡ parts.feeds → f < length feeds → x ≡ get_or feeds f x →
    made ≡ tube_of (λ t. kind_bands (first + t) x.kind) n →
    tubes ≡ map (feed_tube parts first n) (range_with_len 0 f) →
    tubes ++ made ∷ [] ≡ map (feed_tube parts first n) (range_with_len 0 (f + 1))
tubes-more parts first n f x feeds made tubes same l is e before =
    let there : f < length parts.feeds = omega (arith, ap length same) in
    let tube : made ≡ feed_tube parts first n f = e
    ∙ (ap (λ (y : FeedPart). tube_of (λ t. kind_bands (first + t) y.kind) n) (item-there f x feeds parts.feeds is same)
    ∙ tube-is parts first n f x there) in
    ap (λ (rest : List Tube). rest ++ made ∷ []) before
    ∙ (ap (λ (y : Tube). map (feed_tube parts first n) (range_with_len 0 f) ++ y ∷ []) tube
    ∙ sym (map-range_with_len_more (feed_tube parts first n) 0 f f (omega arith)))

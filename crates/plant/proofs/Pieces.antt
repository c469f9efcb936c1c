-- The pieces of feeds that pass their check are in order.
use Rattle.std.proofs.Common.{◌≡◌, ◌==◌, ℕ, zero, suc, ◌+◌, ◌<◌, List, [], ◌∷◌, length, Ok, true, subst, arith}
use Rattle.std.specs.Prelude.{codes, nat_lt}
use Rattle.std.specs.List.{AllByRecursion}
use Rattle.parts.specs.Parts.{FileParts}
use Rattle.parts.specs.InRange.{AreInRange, IsFeedPart, IsFeedKind, IsFeedBand}
use Rattle.parts.specs.InForce.{begin_of}
use Rattle.parts.specs.declared.feeds.FeedBand.{FeedBand}
use Rattle.parts.specs.declared.feeds.FeedBand.TheVariants as feed_band
use Rattle.parts.specs.declared.feeds.FeedKind.{FeedKind}
use Rattle.parts.specs.declared.feeds.FeedKind.TheVariants as feed_kind
use Rattle.parts.specs.declared.feeds.FeedPart.{FeedPart}
use Rattle.parts.specs.declared.feeds.Piece.{Piece}
use Rattle.plant_checks.specs.Checks.{each, begins_well, piece_refused, pieces_check, feed_pieces_check}
use Rattle.plant_checks.proofs.Passed.{ArePassed, passes-both, passes-test}
use Rattle.plant.specs.Ordered.{IsOrdered, AreOrdered}

-- each piece passes at its place
passed-at : (f : ℕ) (key : List ℕ) (pieces : List Piece) (i : ℕ) (rest : List Piece) →
    each (piece_refused f key pieces) i rest ≡ Ok tt →
    (j : ℕ) → j < length rest → begins_well pieces (i + j) (begin_of rest j) ≡ true
passed-at f key pieces i [] e j l = absurd (omega arith)
passed-at f key pieces i (piece ∷ rest) e zero l =
    let here : i ≡ i + 0 = omega arith in
    let a = passes-both (piece_refused f key pieces i piece) _ e in
    subst (λ n. begins_well pieces n piece.tick ≡ true) here (passes-test _ _ a.0)
passed-at f key pieces i (piece ∷ rest) e (suc j) l =
    let there : suc i + j ≡ i + suc j = omega arith in
    let a = passes-both (piece_refused f key pieces i piece) _ e in
    subst (λ n. begins_well pieces n (begin_of rest j) ≡ true) there
    (passed-at f key pieces (suc i) rest a.1 j (omega arith))

zero-yes : (t : ℕ) → (t == 0) ≡ true → t ≡ 0
zero-yes t e = grind arith

less-yes : (s t : ℕ) → nat_lt s t ≡ true → s < t
less-yes s t e = grind arith

band-ordered : (f : ℕ) (key : List ℕ) (band : FeedBand) → IsFeedBand band → pieces_check f key band ≡ Ok tt → IsOrdered band
unfolding pieces_check
band-ordered f key (feed_band.Constant band) h e = tt
band-ordered f key (feed_band.Pieces pieces) h e = record {
  one = h.0;
  first = zero-yes _ (at 0 h.0);
  rise = λ i l. less-yes _ _ (at (suc i) l);
}
  where
    at : (j : ℕ) → j < length pieces → begins_well pieces j (begin_of pieces j) ≡ true
    at j l = (let same : 0 + j ≡ j = omega arith in subst (λ n. begins_well pieces n (begin_of pieces j) ≡ true) same
        (passed-at f key pieces 0 pieces e j l))

kind-ordered : (f : ℕ) (kind : FeedKind) → IsFeedKind kind → feed_pieces_check f kind ≡ Ok tt → AreOrdered kind
unfolding feed_pieces_check
kind-ordered f (feed_kind.Material flow conc temp) h e =
    let a = passes-both (pieces_check f (codes "flow") flow) _ e in
    let b = passes-both (pieces_check f (codes "conc") conc) _ a.1 in
    (band-ordered f (codes "flow") flow h.0 a.0, band-ordered f (codes "conc") conc h.1 b.0, band-ordered f (codes "temp") temp h.2 b.1)
kind-ordered f (feed_kind.Signal value) h e = band-ordered f (codes "value") value h e

feeds-ordered : (i : ℕ) (feeds : List FeedPart) → AllByRecursion IsFeedPart feeds →
    each (λ f feed. feed_pieces_check f feed.kind) i feeds ≡ Ok tt → AllByRecursion (λ feed. AreOrdered feed.kind) feeds
feeds-ordered i [] h e = tt
feeds-ordered i (feed ∷ feeds) h e =
    let a = passes-both (feed_pieces_check i feed.kind) _ e in
    (kind-ordered i feed.kind (h.0).kind a.0, feeds-ordered (suc i) feeds h.1 a.1)

pub pieces-ordered : (parts : FileParts) → AreInRange parts → ArePassed parts → AllByRecursion (λ feed. AreOrdered feed.kind) parts.feeds
pieces-ordered parts ranges passed = feeds-ordered 0 parts.feeds (ranges.feeds).1 passed.pieces

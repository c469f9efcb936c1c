-- What a reader of records answers, and where it stands then.
use Rattle.std.proofs.Common.{◌≡◌, ◌∙◌, ℕ, ◌+◌, ◌≤◌, Bool, true, false, cond, eqb, List, [], ◌∷◌, ◌++◌, length, take, drop, Option, Some, None, IfSome, IfOk, Result, Ok, Err, refl, sym, ap, subst, arith, inl, inr, ltb-false}
use Rattle.std.specs.List.{AllByRecursion}
use Rattle.std.proofs.lemmas.Bool.{ltb_from_iff}
use Rattle.std.proofs.lemmas.List.{drop_all}
use Rattle.flow_edge.specs.ReadText.{ReadText, ReadsUp}
use Rattle.relaxation.specs.Tube.{Tube}
use Rattle.parts.specs.Parts.{FileParts}
use Rattle.plant.specs.Sound.{IsPlant}
use Rattle.feeds.specs.declared.record.Record.{Record}
use Rattle.feeds.specs.declared.taken.Taken.{Taken}
use Rattle.feeds.specs.declared.reader.FeedFault.{FeedFault}
use Rattle.feeds.specs.Records.{Entry, read_from, read_text, is_too_long, most_bytes}
use Rattle.feeds.specs.Standing.{IsRecordFor, IsTakenFor, bytes_read, as_list, unread, pending, HasTaken, first_part, StandsAt, nothing_taken}
use Rattle.feeds.specs.Taking.{entries_at}
use Rattle.feeds.specs.Filling.{filled_bands}
use Rattle.feeds.specs.Reader.{AreFeedTubes}
use Rattle.feeds.specs.Window.{AnswersWindow, AnswersText, GivesIn}
use Rattle.feeds.proofs.Turns.{from-turn, text-turn, all-fit}
use Rattle.feeds.proofs.Recorded.{filled-within}
use Rattle.feeds.proofs.Windows.{fed-within}
use Rattle.feeds.proofs.Texts.{tubes-same, refusal-some, refusal-none, nothing-left, has-taken}

-- what is left behind a text that is not too long
rest-of : (text : List ℕ) → cond (is_too_long text) (drop (most_bytes + 1) text) [] ≡ drop (most_bytes + 1) text
rest-of text = elim (is_too_long text) as (λ b. is_too_long text ≡ b → cond b (drop (most_bytes + 1) text) []
    ≡ drop (most_bytes + 1) text) [
      | true ↦ λ e. refl
      | false ↦ λ e. sym (drop_all (most_bytes + 1) text
          (let short : length text ≤ most_bytes = ltb-false most_bytes (length text) e in omega arith))
    ] refl

-- the first bytes of a text were read, and nothing more is left than what is behind its greatest length
read-first : (text : List ℕ) (up : ReadText) (left : Option (List ℕ)) → ReadsUp most_bytes text up left →
    (up ≡ first_part text) × (left ≡ Some (drop (most_bytes + 1) text))
read-first text up left reads =
    let more : up.more ≡ is_too_long text = ltb_from_iff reads.more in (
      ap (λ bytes. record { bytes = bytes; more = up.more }) reads.bytes
          ∙ ap (λ longer. record { bytes = take most_bytes text; more = longer }) more,
      reads.rest ∙ ap (λ longer. Some (cond longer (drop (most_bytes + 1) text) [])) more ∙ ap Some (rest-of text),
    )

-- the text is stood in, once its first bytes were read
pub record IsRead (parts : FileParts) (text : List ℕ) (asked : ℕ) (up : ReadText) (left : Option (List ℕ)) (taken : Taken) :
    Type 0 where
  pub part : up ≡ first_part text
  pub rest : left ≡ Some (drop (most_bytes + 1) text)
  pub has : HasTaken parts text up asked taken

from-zero : (records : List Record) → AllByRecursion (λ one. 0 ≤ one.tick) records
from-zero [] = tt
from-zero (one ∷ records) = (omega arith, from-zero records)

-- before the first window nothing was taken, and all is still to come
begun : (parts : FileParts) (text : List ℕ) (up : ReadText) → IsPlant parts → up ≡ first_part text →
    HasTaken parts text up 0 (nothing_taken parts)
begun parts text up plant e = subst (λ part. HasTaken parts text part 0 (nothing_taken parts)) (sym e) (record {
  records = [];
  split = refl;
  before = λ goes. tt;
  later = from-zero (pending parts (first_part text) (nothing_taken parts)).records;
  ends = λ ended. absurd (let some = plant.ranges.ticks.0 in omega arith);
  ahead = λ asked. absurd (omega arith);
  held = refl;
})

pub is-read : {S : Type 0} (left : S → Option (List ℕ)) (before after : S) (parts : FileParts) (text : List ℕ) (asked : ℕ)
    (kept : Option ReadText) (up : ReadText) (taken : Taken) → IsPlant parts →
    IfSome kept (λ t. (◌≡◌ {A = Result ReadText FeedFault} (Ok up) (Ok t)) × (after ≡ before)) →
    (kept ≡ None → IfSome (left before) (λ t. ReadsUp most_bytes t up (left after))) →
    StandsAt parts text asked (left before) kept taken → IsRead parts text asked up (left after) taken
is-read left before after parts text asked None up taken plant same reads stands =
    let first = read-first text up (left after)
    (subst (λ (told : Option (List ℕ)). IfSome told (λ t. ReadsUp most_bytes t up (left after))) stands.1 (reads refl)) in
    record {
      part = first.0;
      rest = first.1;
      has = subst (λ n. HasTaken parts text up n taken) (sym stands.0)
          (subst (HasTaken parts text up 0) (sym stands.2) (begun parts text up plant first.0));
    }
is-read left before after parts text asked (Some t) up taken plant same reads stands =
    let is : up ≡ t = cc (same.0) in
    record {
      part = is ∙ stands.0;
      rest = ap left same.1 ∙ stands.1;
      has = subst (λ part. HasTaken parts text part asked taken) (sym is) stands.2;
    }

-- what was taken of it
pub taken-up : (parts : FileParts) (kept : Option ReadText) (up : ReadText) (taken : Taken) (P : Type 0) →
    IsTakenFor parts (bytes_read kept) taken →
    IfSome kept (λ t. (◌≡◌ {A = Result ReadText FeedFault} (Ok up) (Ok t)) × P) → IsTakenFor parts up.bytes taken
taken-up parts None up taken P is same = record {
  inside = let none = is.inside in omega arith;
  counted = is.counted;
  feeds = is.feeds;
  held = is.held;
  ahead = is.ahead;
  last = is.last;
}
taken-up parts (Some t) up taken P is same =
    let e : up ≡ t = cc (same.0) in
    subst (λ (part : ReadText). IsTakenFor parts part.bytes taken) (sym e) is

-- all records that are still to come are of the plant
unread-fit : (parts : FileParts) (first : Bool) (at before : ℕ) (entries : List Entry) → IsPlant parts →
    AllByRecursion (IsRecordFor parts) (cond first (read_text parts entries) (read_from parts at before entries)).records
unread-fit parts true at before entries plant = all-fit parts 0 (read_text parts entries).records (text-turn parts entries plant)
unread-fit parts false at before entries plant =
    all-fit parts before (read_from parts at before entries).records (from-turn parts at before entries plant)

front-fit : (parts : FileParts) (ahead : Option Record) (records : List Record) → IfSome ahead (IsRecordFor parts) →
    AllByRecursion (IsRecordFor parts) records → AllByRecursion (IsRecordFor parts) (as_list ahead ++ records)
front-fit parts None records fits all = all
front-fit parts (Some one) records fits all = (fits, all)

pending-fit : (parts : FileParts) (bytes : List ℕ) (up : ReadText) (taken : Taken) → IsPlant parts → IsTakenFor parts bytes taken →
    AllByRecursion (IsRecordFor parts) (pending parts up taken).records
pending-fit parts bytes up taken plant is = front-fit parts taken.ahead (unread parts up taken).records is.ahead
    (unread-fit parts (eqb taken.count 0) (taken.count + 1) taken.last (entries_at up taken.at) plant)

module _ (parts : FileParts) (plant : IsPlant parts) (first n : ℕ) (some : 1 ≤ n) (inside : first + n ≤ parts.ticks)
    (up : ReadText) (old read : Taken) (taken : IsTakenFor parts up.bytes old) where
  -- the tubes lie in the limits
  tubes-within : (answer : Result (List Tube) FeedFault) → AnswersWindow parts up first n old read answer →
      IfOk answer (AreFeedTubes parts n)
  tubes-within (Ok tubes) fills = subst (AreFeedTubes parts n) (sym fills.tubes_are)
      (fed-within parts (filled_bands parts old.held (pending parts up old).records) first n
      (filled-within parts old.held (pending parts up old).records plant
      (record { counted = taken.feeds; all = taken.held }) (pending-fit parts up.bytes up old plant taken)))
  tubes-within (Err fault) fills = tt

  -- and are those of the text
  by-text : (text : List ℕ) (asked : ℕ) (left : Option (List ℕ)) (answer : Result (List Tube) FeedFault) → asked ≤ first →
      IsRead parts text asked up left old → AnswersWindow parts up first n old read answer →
      AnswersText parts text first n (record { text = Some up; taken = read }) left answer
  by-text text asked left (Ok tubes) later is fills = (
    refusal-none parts plant text up first n asked some inside later old is.has read tubes fills,
    tubes-same parts plant text up first n asked some inside later old is.has tubes fills.tubes_are,
    (is.part, is.rest, has-taken parts plant text up first n asked some inside later old is.has read tubes fills),
    λ e. is.rest ∙ ap Some (nothing-left parts plant text up first n asked some inside later old is.has read tubes fills e),
  )
  by-text text asked left (Err fault) later is (inl refused) =
      inl (refusal-some parts plant text up first n asked some inside later old is.has fault refused)
  by-text text asked left (Err fault) later is (inr starved) = inr (inr starved)

  pub gives-in : {S : Type 0} (left : S → Option (List ℕ)) (before after : S) (kept : Option ReadText)
      (answer : Result (List Tube) FeedFault) →
      IfSome kept (λ t. (◌≡◌ {A = Result ReadText FeedFault} (Ok up) (Ok t)) × (after ≡ before)) →
      (kept ≡ None → IfSome (left before) (λ t. ReadsUp most_bytes t up (left after))) →
      AnswersWindow parts up first n old read answer →
      GivesIn parts first n (record { text = kept; taken = old }) (left before) (record { text = Some up; taken = read })
      (left after) answer
  gives-in left before after kept answer same reads answers = record {
    tubes = tubes-within answer answers;
    by = λ text asked later stands. by-text text asked (left after) answer later
        (is-read left before after parts text asked kept up old plant same reads stands) answers;
  }

-- What a window answers, by the records of the text that is stood in.
use Rattle.std.proofs.Common.{◌≡◌, ◌≢◌, ◌∙◌, ℕ, ◌+◌, ◌<◌, ◌≤◌, Bool, true, false, cond, leb, ltb, ◌&&◌, ◌||◌, List, [], ◌∷◌, ◌++◌, length, map, take, drop, Option, Some, None, Result, Ok, Err, refl, sym, ap, subst, arith, inl, inr, append_assoc, le-leb, le-ltb, lt-ltb, ltb-false}
use Rattle.std.specs.List.{AllByRecursion}
use Rattle.std.proofs.lemmas.Bool.{cases_eq, lt-leb}
use Rattle.std.proofs.lemmas.List.{drop_all}
use Rattle.std.proofs.lemmas.List.FromFn.{fill_by_all, length-map-range_with_len}
use Rattle.quant.specs.Interval.{Interval}
use Rattle.flow_edge.specs.ReadText.{ReadText}
use Rattle.relaxation.specs.Tube.{Tube, tube_of}
use Rattle.parts.specs.Parts.{FileParts}
use Rattle.parts.specs.Given.{given_bands}
use Rattle.plant.specs.Sound.{IsPlant}
use Rattle.feeds.specs.declared.record.Record.{Record}
use Rattle.feeds.specs.declared.taken.Taken.{Taken}
use Rattle.feeds.specs.declared.reader.FeedFault.{FeedFault}
use Rattle.feeds.specs.declared.reader.FeedFault.TheVariants.{BadRecord}
use Rattle.feeds.specs.Records.{ReadRecords, whole, cut_off, entries_of, record_entries, refused_by, judged, read_on, read_from, read_text, records_in, is_too_long, most_bytes, no_more}
use Rattle.feeds.specs.Given.{recorded, given_by, are_before, refusal_by, fed_tubes, tubes_by}
use Rattle.feeds.specs.Held.{nothing_held, held_after}
use Rattle.feeds.specs.Standing.{IsRecordFor, as_list, unread, with_front, pending, HasTaken}
use Rattle.feeds.specs.Filling.{filled_bands}
use Rattle.feeds.specs.Window.{FillsWindow, IsRefused}
use Rattle.feeds.proofs.Turns.{text-turn, all-fit}
use Rattle.feeds.proofs.Takings.{before-both, before-later, after-both}
use Rattle.feeds.proofs.Recorded.{filled-recorded}
use Rattle.feeds.proofs.Windows.{fed-is}
use Rattle.relaxation.proofs.Ticks.{at-tube_of, length-tube_of}

and-false : (b : Bool) → b && false ≡ false
and-false true = refl
and-false false = refl

or-true : (b : Bool) → b || true ≡ true
or-true true = refl
or-true false = refl

-- a text that is too long has a refused record
refused-on : (answer : Result Record FeedFault) (after : Record → ReadRecords) → ((one : Record) → (after one).refusal ≢ None) →
    (read_on answer after).refusal ≢ None
refused-on (Ok one) after refused = refused one
refused-on (Err fault) after refused = λ e. absurd (cc e)

refused-from : (parts : FileParts) (at before : ℕ) (lines : List (List ℕ)) →
    (read_from parts at before (map whole lines ++ cut_off ∷ [])).refusal ≢ None
refused-from parts at before [] = λ e. absurd (cc e)
refused-from parts at before (line ∷ lines) =
    refused-on (judged parts at before line) (λ one. read_from parts (at + 1) one.tick (map whole lines ++ cut_off ∷ []))
    (λ one. refused-from parts (at + 1) one.tick lines)

refused-header : (file : FileParts) (is : Bool) (lines : List (List ℕ)) →
    (cond is (read_from file 2 0 (map whole lines ++ cut_off ∷ [])) (refused_by (BadRecord 1))).refusal ≢ None
refused-header file true lines = refused-from file 2 0 lines
refused-header file false lines = λ e. absurd (cc e)

refused-text : (parts : FileParts) (lines : List (List ℕ)) → (read_text parts (map whole lines ++ cut_off ∷ [])).refusal ≢ None
refused-text parts [] = λ e. absurd (cc e)
refused-text parts (line ∷ lines) = refused-header parts _ lines

long-refused : (parts : FileParts) (long : Bool) (bytes : List ℕ) → (read_text parts (entries_of long bytes)).refusal ≡ None →
    long ≡ false
long-refused parts true bytes none = absurd (refused-text parts _ none)
long-refused parts false bytes none = refl

-- so where none is refused, nothing is left of it
pub left-nothing : (parts : FileParts) (text : List ℕ) → (records_in parts text).refusal ≡ None →
    drop (most_bytes + 1) text ≡ []
left-nothing parts text none =
    let short : is_too_long text ≡ false = long-refused parts (is_too_long text) (take most_bytes text) none in
    let within : length text ≤ most_bytes = ltb-false most_bytes (length text) short in
    drop_all (most_bytes + 1) text (omega arith)

-- records of which one is not before the end are not all before it
not-before : (end : ℕ) (xs ys : List Record) (one : Record) → end ≤ one.tick → are_before end (xs ++ one ∷ ys) ≡ false
not-before end [] ys one l = ap (λ b. b && are_before end ys) (le-ltb one.tick end l)
not-before end (x ∷ xs) ys one l = ap (λ b. ltb x.tick end && b) (not-before end xs ys one l) ∙ and-false (ltb x.tick end)

-- and such as are, are
all-before : (end : ℕ) (xs : List Record) → AllByRecursion (λ one. one.tick < end) xs → are_before end xs ≡ true
all-before end [] all = refl
all-before end (x ∷ xs) all = ap (λ b. b && are_before end xs) (lt-ltb x.tick end all.0) ∙ all-before end xs all.1

-- tubes of the same bands
fed-same : (parts : FileParts) (first n : ℕ) (one other : ℕ → ℕ → List Interval) →
    ((f t : ℕ) → f < length parts.feeds → t < n → one (first + t) f ≡ other (first + t) f) →
    fed_tubes parts one first n ≡ fed_tubes parts other first n
fed-same parts first n one other same =
    fill_by_all (λ f. tube_of (λ t. other (first + t) f) n) (fed_tubes parts one first n) (length parts.feeds) []
    (length-map-range_with_len (λ f. tube_of (λ t. one (first + t) f) n) 0 (length parts.feeds))
    (λ f l. fed-is parts one first n f l
    ∙ fill_by_all (λ t. other (first + t) f) (tube_of (λ t. one (first + t) f) n) n [] (length-tube_of (λ t. one (first + t) f) n)
    (λ t m. at-tube_of (λ t. one (first + t) f) n t m ∙ same f t l m))

none-if : (b : Bool) (refusal : Option FeedFault) → refusal ≡ None → cond b refusal None ≡ None
none-if true refusal e = e
none-if false refusal e = refl

module _ (parts : FileParts) (plant : IsPlant parts) (text : List ℕ) (up : ReadText) (first n asked : ℕ) (some : 1 ≤ n)
    (inside : first + n ≤ parts.ticks) (later : asked ≤ first) (old : Taken) (has : HasTaken parts text up asked old) where
  -- the records that were taken have ticks before the window
  before-window : AllByRecursion (λ one. one.tick < asked) has.records
  before-window = has.before (omega arith)

  all-records : AllByRecursion (IsRecordFor parts) (has.records ++ (pending parts up old).records)
  all-records = subst (λ (read : ReadRecords). AllByRecursion (IsRecordFor parts) read.records) has.split
      (all-fit parts 0 (records_in parts text).records (text-turn parts (record_entries text) plant))

  given-same : (f t : ℕ) → f < length parts.feeds → t < n →
      filled_bands parts old.held (pending parts up old).records (first + t) f ≡ given_by parts (Some text) (first + t) f
  given-same f t l m =
      filled-recorded parts old.held has.records (pending parts up old).records (first + t) f plant l has.held
      (before-later asked (first + t + 1) has.records (omega arith) before-window) all-records
      ∙ ap (λ (read : ReadRecords). recorded read.records (first + t) f (given_bands parts (first + t) f)) (sym has.split)

  pub tubes-same : (tubes : List Tube) →
      tubes ≡ fed_tubes parts (filled_bands parts old.held (pending parts up old).records) first n →
      tubes ≡ tubes_by parts (Some text) first n
  tubes-same tubes e = e
      ∙ fed-same parts first n (filled_bands parts old.held (pending parts up old).records) (given_by parts (Some text)) given-same

  -- a refused record that the window takes
  pub refusal-some : (fault : FeedFault) → IsRefused parts up first n old fault →
      refusal_by parts (Some text) (first + n) ≡ Some fault
  refusal-some fault refused =
      let is : (records_in parts text).refusal ≡ Some fault = ap (λ (read : ReadRecords). read.refusal) has.split ∙ refused.refusal in
      let end = first + n in
      elim (cases_eq end parts.ticks) [
        | inl e ↦ (
            let ends : leb parts.ticks end ≡ true = le-leb parts.ticks end (omega arith) in
            ap (λ b. cond (b || are_before end (records_in parts text).records) (records_in parts text).refusal None) ends ∙ is)
        | inr ne ↦ (
            let before : are_before end (records_in parts text).records ≡ true =
            ap (λ (read : ReadRecords). are_before end read.records) has.split
            ∙ all-before end (has.records ++ (pending parts up old).records)
            (before-both asked end has.records (pending parts up old).records (omega arith) before-window (refused.before ne)) in
            ap (λ b. cond (leb parts.ticks end || b) (records_in parts text).refusal None) before
            ∙ ap (λ b. cond b (records_in parts text).refusal None) (or-true (leb parts.ticks end)) ∙ is)
      ]

  module _ (read : Taken) (tubes : List Tube) (fills : FillsWindow parts up first n old read tubes) where
    both-taken : records_in parts text ≡ with_front (has.records ++ fills.takes.records) (pending parts up read)
    both-taken = has.split ∙ ap (with_front has.records) fills.takes.split
        ∙ ap (λ records. record { records = records; refusal = (pending parts up read).refusal })
        (sym (append_assoc has.records fills.takes.records (pending parts up read).records))

    refusal-left : (records_in parts text).refusal ≡ (pending parts up read).refusal
    refusal-left = ap (λ (all : ReadRecords). all.refusal) both-taken

    -- a record ahead is not before the end
    refusal-ahead : (ahead : Option Record) → read.ahead ≡ ahead → first + n ≢ parts.ticks →
        refusal_by parts (Some text) (first + n) ≡ None
    refusal-ahead None e ne =
        let no : (records_in parts text).refusal ≡ None = refusal-left
        ∙ ap (λ (all : ReadRecords). all.refusal) ((fills.goes_on ne).1.ends e) in
        none-if _ (records_in parts text).refusal no
    refusal-ahead (Some one) e ne =
        let end = first + n in
        let is : (pending parts up read).records ≡ one ∷ (unread parts up read).records =
        ap (λ ahead. as_list ahead ++ (unread parts up read).records) e in
        let come = (fills.goes_on ne) in
        let after : AllByRecursion (λ r. end ≤ r.tick) (one ∷ (unread parts up read).records) =
        subst (AllByRecursion (λ r. end ≤ r.tick)) is (subst (λ k. AllByRecursion (λ r. k ≤ r.tick) (pending parts up read).records)
        come.0 come.1.later) in
        let not : are_before end (records_in parts text).records ≡ false =
        ap (λ (all : ReadRecords). are_before end all.records) both-taken
        ∙ ap (λ records. are_before end ((has.records ++ fills.takes.records) ++ records)) is
        ∙ not-before end (has.records ++ fills.takes.records) (unread parts up read).records one after.0 in
        let goes : leb parts.ticks end ≡ false = lt-leb parts.ticks end (omega arith) in
        ap (λ b. cond (b || are_before end (records_in parts text).records) (records_in parts text).refusal None) goes
        ∙ ap (λ b. cond b (records_in parts text).refusal None) not

    pub refusal-none : refusal_by parts (Some text) (first + n) ≡ None
    refusal-none = elim (cases_eq (first + n) parts.ticks) [
      | inl e ↦ none-if _ (records_in parts text).refusal (refusal-left
          ∙ ap (λ (all : ReadRecords). all.refusal) (fills.ends e))
      | inr ne ↦ refusal-ahead read.ahead refl ne
    ]

    -- at the end of the run nothing is left
    pub nothing-left : first + n ≡ parts.ticks → drop (most_bytes + 1) text ≡ []
    nothing-left e = left-nothing parts text (refusal-left ∙ ap (λ (all : ReadRecords). all.refusal) (fills.ends e))

    -- what is still to come then
    come-later : AllByRecursion (λ one. first + n ≤ one.tick) (pending parts up read).records
    come-later = elim (cases_eq (first + n) parts.ticks) [
      | inl e ↦ subst (λ (left : ReadRecords). AllByRecursion (λ one. first + n ≤ one.tick) left.records) (sym (fills.ends e)) tt
      | inr ne ↦ (
          let come = fills.goes_on ne in
          subst (λ k. AllByRecursion (λ one. k ≤ one.tick) (pending parts up read).records) come.0 come.1.later)
    ]

    come-none : read.ahead ≡ None → pending parts up read ≡ no_more
    come-none none = elim (cases_eq (first + n) parts.ticks) [
      | inl e ↦ fills.ends e
      | inr ne ↦ (fills.goes_on ne).1.ends none
    ]

    pub has-taken : HasTaken parts text up (first + n) read
    has-taken = record {
      records = has.records ++ fills.takes.records;
      split = both-taken;
      before = λ goes. (
          let end = (fills.goes_on (omega arith)).0 in
          before-both asked (first + n) has.records fills.takes.records (omega arith) before-window
          (subst (λ k. AllByRecursion (λ one. one.tick < k) fills.takes.records) end fills.takes.before));
      later = come-later;
      ends = λ ended. fills.ends (omega arith);
      ahead = λ asked. come-none;
      held = fills.takes.held ∙ ap (λ held. held_after held fills.takes.records) has.held
          ∙ sym (after-both (nothing_held parts) has.records fills.takes.records);
    }

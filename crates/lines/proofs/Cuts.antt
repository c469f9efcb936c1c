-- Texts that are cut at their first separator, and the line that begins at a place.
use Rattle.std.proofs.Common.{◌≡◌, ◌≢◌, ◌⊎◌, ℕ, suc, inl, inr, ◌+◌, ◌-◌, ◌<◌, ◌≤◌, false, eqb, List, [], ◌∷◌, length, get_or, take, drop, Some, None, refl, ◌∙◌, ap, arith, length-drop, length-take}
use Rattle.std.specs.List.{position_or_len, slice_range, slice_index, All, Contains}
use Rattle.std.specs.Str.Lines.{strip_carriage_return}
use Rattle.std.proofs.lemmas.List.{drop-drop, take-take, take_rest, take_all, drop_all, get_or-drop, get_or-take}
use Rattle.std.proofs.lemmas.List.Edits.{length-between}
use Rattle.std.proofs.lemmas.List.Splits.{slice_split_none, slice_split_first, length-slice_split}
use Rattle.std.proofs.lemmas.List.Sums.{fails_before_first}
use Rattle.std.proofs.lemmas.List.Quantifiers.{position-Some}
use Rattle.std.proofs.lemmas.Bool.{cases_eq}
use Rattle.lines.specs.declared.cutting.Line.{Line}
use Rattle.lines.specs.Lines.{line_feed, comma, pieces_of, fields_of, lines_in, lines_of, all_but_last, ended_lines_of, IsLineAt}
use Rattle.lines.specs.Pieces.{place_of, before_lines, BeginsLine, PassesEmpty}
use Rattle.lines.proofs.Joins.{none_before}

place_is : (separator : ℕ) (text : List ℕ) (i : ℕ) → place_of separator text ≡ Some i →
    position_or_len (λ byte. eqb byte separator) text ≡ i
place_is separator text i found = grind arith

unfound : (separator : ℕ) (text : List ℕ) → place_of separator text ≡ None →
    length text ≤ position_or_len (λ byte. eqb byte separator) text
unfound separator text none = grind arith

pub none_within : (separator : ℕ) (text : List ℕ) → place_of separator text ≡ None →
    All (λ byte. eqb byte separator ≡ false) text
none_within separator text none =
    let long = unfound separator text none in
    λ k d below. fails_before_first (λ byte. eqb byte separator) text k d (omega arith)

-- where the separator is found, the pieces are what stands before it and the pieces of what follows it
pub pieces_at : (separator : ℕ) (text : List ℕ) (i : ℕ) → place_of separator text ≡ Some i →
    pieces_of separator text ≡ take i text ∷ pieces_of separator (drop (i + 1) text)
pieces_at separator text i found =
    let at = place_is separator text i found in
    let within : i < length text = (position-Some _ text i 0 found).0 in
    let e = slice_split_first (λ byte. eqb byte separator) text 0 (omega arith) in
    rw at at e

pub pieces_none : (separator : ℕ) (text : List ℕ) → place_of separator text ≡ None →
    pieces_of separator text ≡ text ∷ []
pieces_none separator text none = slice_split_none (λ byte. eqb byte separator) text (none_within separator text none)

pub fields_at : (line : List ℕ) (i n : ℕ) → place_of comma line ≡ Some i → n ≡ length line - (i + 1) →
    fields_of line ≡ take i line ∷ fields_of (take n (drop (i + 1) line))
fields_at line i n found e = rw (e, take_rest) (pieces_at comma line i found)

-- what is cut off is a line, where it is not empty, before the lines of the other pieces
pub lines-cons : (piece : List ℕ) (pieces : List (List ℕ)) →
    lines_in (piece ∷ pieces) ≡ before_lines (strip_carriage_return piece) (lines_in pieces)
lines-cons piece pieces = grind arith

some_pieces : (separator : ℕ) (text : List ℕ) → 0 < length (pieces_of separator text)
some_pieces separator text = omega (arith, length-slice_split (λ byte. eqb byte separator) text)

last-cons : (piece : List ℕ) (pieces : List (List ℕ)) → 0 < length pieces →
    all_but_last (piece ∷ pieces) ≡ piece ∷ all_but_last pieces
last-cons piece [] some = absurd (omega arith)
last-cons piece (next ∷ pieces) some =
    let e : suc (suc (length pieces)) - 1 ≡ suc (length pieces) = omega arith in
    let f : suc (length pieces) - 1 ≡ length pieces = omega arith in
    rw (e, f)

pub stripped_front : (piece : List ℕ) → take (length (strip_carriage_return piece)) piece ≡ strip_carriage_return piece
stripped_front piece = grind (arith, take_all, length-take)

stripped_le : (piece : List ℕ) → length (strip_carriage_return piece) ≤ length piece
stripped_le piece = grind (arith, length-take)

record Keeps (bytes : List ℕ) (start n : ℕ) (kept : List ℕ) : Type 0 where
  least : length kept ≤ n
  range : slice_range bytes start (start + length kept) ≡ kept

keeps : (bytes : List ℕ) (start n : ℕ) (kept : List ℕ) → n ≤ length (drop start bytes) →
    kept ≡ strip_carriage_return (take n (drop start bytes)) → Keeps bytes start n kept
keeps bytes start n kept within e =
    let piece = take n (drop start bytes) in
    let least : length kept ≤ n = omega (arith, stripped_le piece, length-take n (drop start bytes), ap length e) in
    let size : start + length kept - start ≡ length kept = omega arith in
    let front = take-take (length kept) n (drop start bytes) least in
    record { least = least; range = rw (size, ← front, e) (stripped_front piece) }

-- a piece before the pieces of a text is a line before its lines, where it is not empty
pub lines_before : (text piece rest : List ℕ) → pieces_of line_feed text ≡ piece ∷ pieces_of line_feed rest →
    lines_of text ≡ before_lines (strip_carriage_return piece) (lines_of rest)
lines_before text piece rest cut = ap lines_in cut ∙ lines-cons piece (pieces_of line_feed rest)

pub ended_before : (text piece rest : List ℕ) → pieces_of line_feed text ≡ piece ∷ pieces_of line_feed rest →
    ended_lines_of text ≡ before_lines (strip_carriage_return piece) (ended_lines_of rest)
ended_before text piece rest cut =
    ap (λ pieces. lines_in (all_but_last pieces)) cut
    ∙ ap lines_in (last-cons piece (pieces_of line_feed rest) (some_pieces line_feed rest))
    ∙ lines-cons piece (all_but_last (pieces_of line_feed rest))

feed_at : (bytes : List ℕ) (start at after : ℕ) → place_of line_feed (drop start bytes) ≡ Some at →
    after ≡ start + at + 1 → slice_index bytes (after - 1) ≡ line_feed
feed_at bytes start at after found e =
    let passes = (position-Some _ (drop start bytes) at 0 found).1 in
    let here : start + at + 1 - 1 ≡ start + at = omega arith in
    rw (e, here, ← get_or-drop start bytes at 0) (grind (arith, passes))

no_feed : (bytes : List ℕ) (start after : ℕ) → place_of line_feed (drop start bytes) ≡ None →
    start < after → after ≤ length bytes → slice_index bytes (after - 1) ≢ line_feed
no_feed bytes start after none more within feed =
    let size = length-drop start bytes in
    let fails = none_within line_feed (drop start bytes) none (after - 1 - start) 0 (omega arith) in
    let here : start + (after - 1 - start) ≡ after - 1 = omega arith in
    let same = get_or-drop start bytes (after - 1 - start) 0 in
    absurd (grind (arith, fails, same, here))

-- no line feed is among bytes of which none is one
apart_front : (text : List ℕ) (n : ℕ) → ((k : ℕ) → k < n → k < length text → eqb (get_or text k line_feed) line_feed ≡ false) →
    ¬ Contains (take n text) line_feed
apart_front text n fails there =
    let k = there.0 in
    let size = length-take n text in
    let same = get_or-take n text k line_feed (omega (arith, there.1, size)) in
    let no = fails k (omega (arith, there.1, size)) (omega (arith, there.1, size)) in
    absurd (grind (arith, no, same, there.2))

-- what is kept of the first bytes from a place on begins there, before the lines behind it
begins : (bytes : List ℕ) (start n after : ℕ) (kept : List ℕ) → n ≤ length (drop start bytes) →
    kept ≡ strip_carriage_return (take n (drop start bytes)) → start + n ≤ after → start < after → after ≤ length bytes →
    lines_of (drop start bytes) ≡ before_lines kept (lines_of (drop after bytes)) →
    (slice_index bytes (after - 1) ≡ line_feed →
    ended_lines_of (drop start bytes) ≡ before_lines kept (ended_lines_of (drop after bytes))) →
    (slice_index bytes (after - 1) ≢ line_feed → (ended_lines_of (drop start bytes) ≡ []) × (after ≡ length bytes)) →
    ¬ Contains (take (after - 1 - start) (drop start bytes)) line_feed →
    BeginsLine bytes start (record { start = start; stop = start + length kept; after = after })
begins bytes start n after kept within e behind further inside lines ended unended whole =
    let kept_of = keeps bytes start n kept within e in
    record {
      start = refl;
      stop = omega arith;
      after = omega (arith, kept_of.least);
      further = further;
      inside = inside;
      whole = whole;
      lines = rw kept_of.range lines;
      ended = λ feed. rw kept_of.range (ended feed);
      unended = unended;
    }

pub begins_ended : (bytes : List ℕ) (start at : ℕ) (kept : List ℕ) → place_of line_feed (drop start bytes) ≡ Some at →
    kept ≡ strip_carriage_return (take at (drop start bytes)) →
    BeginsLine bytes start (record { start = start; stop = start + length kept; after = start + at + 1 })
begins_ended bytes start at kept found e =
    let rest = drop start bytes in
    let within : at < length rest = (position-Some _ rest at 0 found).0 in
    let behind : drop (at + 1) rest ≡ drop (start + at + 1) bytes =
    drop-drop (at + 1) start bytes ∙ ap (λ n. drop n bytes) (omega arith) in
    let cut : pieces_of line_feed rest ≡ take at rest ∷ pieces_of line_feed (drop (start + at + 1) bytes) =
    rw (← behind) (pieces_at line_feed rest at found) in
    let size = length-drop start bytes in
    let apart : start + at + 1 - 1 - start ≡ at = omega arith in
    begins bytes start at (start + at + 1) kept (omega arith) e (omega arith) (omega arith) (omega arith)
    (rw e (lines_before rest (take at rest) (drop (start + at + 1) bytes) cut))
    (λ _. rw e (ended_before rest (take at rest) (drop (start + at + 1) bytes) cut))
    (λ other. absurd (other (feed_at bytes start at _ found refl)))
    (rw (apart) (apart_front rest at (λ k before short. (position-Some _ rest at line_feed found).2 k before)))

pub begins_unended : (bytes : List ℕ) (start : ℕ) (kept : List ℕ) → place_of line_feed (drop start bytes) ≡ None →
    kept ≡ strip_carriage_return (drop start bytes) → start < length bytes →
    BeginsLine bytes start (record { start = start; stop = start + length kept; after = length bytes })
begins_unended bytes start kept none e more =
    let rest = drop start bytes in
    let size = length-drop start bytes in
    let whole : take (length rest) rest ≡ rest = take_all (length rest) rest (omega arith) in
    let end : length bytes ≤ length bytes = omega arith in
    let cut = pieces_none line_feed rest none in
    begins bytes start (length rest) (length bytes) kept (omega arith) (rw whole e) (omega arith) more (omega arith)
    (rw (e, drop_all (length bytes) bytes end) (ap lines_in cut ∙ lines-cons rest []))
    (λ feed. absurd (no_feed bytes start _ none (omega arith) (omega arith) feed))
    (λ _. (ap (λ pieces. lines_in (all_but_last pieces)) cut, omega arith))
    (apart_front rest (length bytes - 1 - start) (λ k before short. none_within line_feed rest none k line_feed short))

pub full : (line : List ℕ) (lines : List (List ℕ)) → 0 < length line → before_lines line lines ≡ line ∷ lines
full line lines some = grind arith

empty : (line : List ℕ) (lines : List (List ℕ)) → length line ≡ 0 → before_lines line lines ≡ lines
empty line lines none = grind arith

pub line_found : (bytes : List ℕ) (from start : ℕ) (line : Line) → PassesEmpty bytes from start →
    BeginsLine bytes start line → line.start < line.stop → IsLineAt bytes from line
line_found bytes from start line passed begun some =
    let size : 0 < length (slice_range bytes line.start line.stop) =
    omega (arith, length-between bytes line.start line.stop (omega arith)) in
    let begins : (line.start ≡ from) ⊎ (slice_index bytes (line.start - 1) ≡ line_feed) =
    rw begun.start (passed.begins (omega arith)) in
    let passed_lines : lines_of (drop from bytes) ≡ lines_of (drop line.start bytes) = rw begun.start passed.lines in
    record {
      start = omega arith;
      stop = begun.stop;
      after = begun.after;
      inside = begun.inside;
      begins = begins;
      before = none_before bytes from line.start (omega arith) (omega arith) begins passed_lines;
      whole = begun.whole;
      lines = passed.lines ∙ begun.lines ∙ full _ _ size;
      ended = λ feed. passed.ended ∙ begun.ended feed ∙ full _ _ size;
      unended = λ other. (passed.ended ∙ (begun.unended other).0, (begun.unended other).1);
    }

pub line_passed : (bytes : List ℕ) (from start : ℕ) (line : Line) → PassesEmpty bytes from start →
    BeginsLine bytes start line → line.stop ≤ line.start → PassesEmpty bytes from line.after
line_passed bytes from start line passed begun none =
    let size : length (slice_range bytes line.start line.stop) ≡ 0 =
    omega (arith, length-between bytes line.start line.stop (omega arith)) in
    record {
      forward = omega arith;
      inside = begun.inside;
      begins = λ more. elim (cases_eq (slice_index bytes (line.after - 1)) line_feed) [
        | inl feed ↦ inr feed
        | inr other ↦ absurd (let last = (begun.unended other).1 in omega arith)
      ];
      lines = passed.lines ∙ begun.lines ∙ empty _ _ size;
      ended = passed.ended ∙ elim (cases_eq (slice_index bytes (line.after - 1)) line_feed) [
        | inl feed ↦ begun.ended feed ∙ empty _ _ size
        | inr other ↦
            let last = begun.unended other in
            last.0 ∙ rw (drop_all line.after bytes (omega (arith, last.1))) refl
      ];
    }

pub no_line : (bytes : List ℕ) (from place : ℕ) → PassesEmpty bytes from place → length bytes ≤ place →
    lines_of (drop from bytes) ≡ []
no_line bytes from place passed all = passed.lines ∙ rw (drop_all place bytes all) refl

-- What lines and fields are, in terms of the text that they are cut from.
use Rattle.std.proofs.Common.{◌≡◌, ◌≢◌, ℕ, zero, suc, inl, inr, ◌-◌, ◌<◌, false, not, eqb, List, [], ◌∷◌, ◌++◌, length, get_or, map, take, refl, sym, ◌∙◌, ap, subst, arith, length-take}
use Rattle.std.specs.List.{All, AllByRecursion, Contains, onto_first, slice_index}
use Rattle.std.specs.Str.Lines.{strip_carriage_return}
use Rattle.std.proofs.lemmas.List.{get_or_default, get_or-take, get_or_push, length_push, take_at}
use Rattle.std.proofs.lemmas.List.Splits.{slice_split_none, slice_split_at, slice_split-cons_yes, slice_split-cons_no}
use Rattle.std.proofs.lemmas.List.Elements.{All-map, All-filter, All-weaker, All-from_recursion, filter_passes}
use Rattle.std.proofs.lemmas.Bool.{cases_eq}
use Rattle.lines.specs.Lines.{line_feed, pieces_of, lines_in, lines_of, all_but_last, ended_lines_of}
use Rattle.lines.specs.Pieces.{before_lines}
use Rattle.lines.proofs.Cuts.{lines_before, ended_before, stripped_front, lines-cons, full}

apart : (byte : ℕ) (text : List ℕ) → ¬ Contains text byte → All (λ x. eqb x byte ≡ false) text
apart byte text none = λ k d below. elim (cases_eq (get_or text k d) byte) [
  | inl same ↦ absurd (none (k, below, get_or_default text k byte d below ∙ same))
  | inr other ↦ grind arith
]

pub pieces_cut : (byte : ℕ) (piece rest : List ℕ) → ¬ Contains piece byte →
    pieces_of byte (piece ++ byte ∷ rest) ≡ piece ∷ pieces_of byte rest
pieces_cut byte piece rest none =
    slice_split_at (λ x. eqb x byte) piece byte rest (apart byte piece none) (grind arith)

pub pieces_whole : (byte : ℕ) (piece : List ℕ) → ¬ Contains piece byte → pieces_of byte piece ≡ piece ∷ []
pieces_whole byte piece none = slice_split_none (λ x. eqb x byte) piece (apart byte piece none)

before_is : (piece : List ℕ) (lines : List (List ℕ)) →
    before_lines (strip_carriage_return piece) lines ≡ lines_in (piece ∷ []) ++ lines
before_is piece lines = grind arith

pub lines_cut : (line rest : List ℕ) → ¬ Contains line line_feed →
    lines_of (line ++ line_feed ∷ rest) ≡ lines_in (line ∷ []) ++ lines_of rest
lines_cut line rest none =
    lines_before (line ++ line_feed ∷ rest) line rest (pieces_cut line_feed line rest none)
    ∙ before_is line (lines_of rest)

pub ended_cut : (line rest : List ℕ) → ¬ Contains line line_feed →
    ended_lines_of (line ++ line_feed ∷ rest) ≡ lines_in (line ∷ []) ++ ended_lines_of rest
ended_cut line rest none =
    ended_before (line ++ line_feed ∷ rest) line rest (pieces_cut line_feed line rest none)
    ∙ before_is line (ended_lines_of rest)

pub last_line : (line : List ℕ) → ¬ Contains line line_feed →
    (lines_of line ≡ lines_in (line ∷ [])) × (ended_lines_of line ≡ [])
last_line line none =
    let whole = pieces_whole line_feed line none in
    (ap lines_in whole, ap (λ pieces. lines_in (all_but_last pieces)) whole)

last_byte : (line : List ℕ) (byte : ℕ) → slice_index (line ++ byte ∷ []) (length (line ++ byte ∷ []) - 1) ≡ byte
last_byte line byte = get_or_push line byte 0 _ (omega (arith, length_push line byte))

alone : (piece line : List ℕ) → strip_carriage_return piece ≡ line → 0 < length line → lines_in (piece ∷ []) ≡ line ∷ []
alone piece line kept some =
    lines-cons piece [] ∙ ap (λ stripped. before_lines stripped []) kept ∙ full line [] some

some_bytes : (line : List ℕ) → line ≢ [] → 0 < length line
some_bytes [] some = absurd (some refl)
some_bytes (byte ∷ line) some = omega arith

pub plain_line : (line : List ℕ) (byte : ℕ) → byte ≢ 13 → lines_in ((line ++ byte ∷ []) ∷ []) ≡ (line ++ byte ∷ []) ∷ []
plain_line line byte other =
    let last = last_byte line byte in
    let kept : strip_carriage_return (line ++ byte ∷ []) ≡ line ++ byte ∷ [] = grind (arith, last) in
    alone (line ++ byte ∷ []) _ kept (omega (arith, length_push line byte))

pub returned_line : (line : List ℕ) → line ≢ [] → lines_in ((line ++ 13 ∷ []) ∷ []) ≡ line ∷ []
returned_line line some =
    let last = last_byte line 13 in
    let front : take (length (line ++ 13 ∷ []) - 1) (line ++ 13 ∷ []) ≡ line =
    take_at line (13 ∷ []) _ (omega (arith, length_push line 13)) in
    let kept : strip_carriage_return (line ++ 13 ∷ []) ≡ line = grind (arith, last, front) in
    alone (line ++ 13 ∷ []) _ kept (some_bytes line some)

-- no piece holds the separator
apart-cons : (byte x : ℕ) (piece : List ℕ) → x ≢ byte → ¬ Contains piece byte → ¬ Contains (x ∷ piece) byte
apart-cons byte x piece other none (zero, below, same) = other same
apart-cons byte x piece other none (suc k, below, same) = none (k, omega arith, same)

onto_apart : (byte x : ℕ) (parts : List (List ℕ)) → x ≢ byte → AllByRecursion (λ piece. ¬ Contains piece byte) parts →
    AllByRecursion (λ piece. ¬ Contains piece byte) (onto_first x parts)
onto_apart byte x [] other all = (apart-cons byte x [] other (λ there. omega arith), tt)
onto_apart byte x (part ∷ parts) other all = (apart-cons byte x part other all.0, all.1)

each_apart : (byte : ℕ) (text : List ℕ) → AllByRecursion (λ piece. ¬ Contains piece byte) (pieces_of byte text)
each_apart byte [] = (λ there. omega arith, tt)
each_apart byte (x ∷ text) =
    let P = AllByRecursion (λ (piece : List ℕ). ¬ Contains piece byte) in
    elim (cases_eq x byte) [
      | inl same ↦
          let cut = slice_split-cons_yes (λ y. eqb y byte) x text (grind arith) in
          subst P (sym cut) (λ there. omega arith, each_apart byte text)
      | inr other ↦
          let kept = slice_split-cons_no (λ y. eqb y byte) x text (grind arith) in
          subst P (sym kept) (onto_apart byte x (pieces_of byte text) other (each_apart byte text))
    ]

pub pieces_apart : (byte : ℕ) (text : List ℕ) → All (λ piece. ¬ Contains piece byte) (pieces_of byte text)
pieces_apart byte text =
    All-from_recursion (λ piece. ¬ Contains piece byte) (pieces_of byte text) (each_apart byte text)

stripped_apart : (byte : ℕ) (piece : List ℕ) → ¬ Contains piece byte → ¬ Contains (strip_carriage_return piece) byte
stripped_apart byte piece none there =
    let n = length (strip_carriage_return piece) in
    let front = stripped_front piece in
    let within : Contains (take n piece) byte = rw front there in
    let size = length-take n piece in
    let same = get_or-take n piece within.0 byte (omega (arith, within.1, size)) in
    none (within.0, omega (arith, within.1, size), sym same ∙ within.2)

pub lines_apart : (text : List ℕ) → All (λ line. (line ≢ []) × ¬ Contains line line_feed) (lines_of text)
lines_apart text =
    let pieces = pieces_of line_feed text in
    let P : List ℕ → Type 0 = λ line. ¬ Contains line line_feed in
    let apart = All-filter (λ line. not (eqb (length line) 0)) P (map strip_carriage_return pieces)
    (All-map P strip_carriage_return pieces
    (All-weaker P (λ piece. P (strip_carriage_return piece)) (stripped_apart line_feed) pieces (pieces_apart line_feed text))) in
    let some = filter_passes (λ line. not (eqb (length line) 0)) (map strip_carriage_return pieces) in
    λ k d below. (
      λ none.
          let fails : not (eqb (length (get_or (lines_of text) k d)) 0) ≡ false = ap (λ line. not (eqb (length line) 0)) none in
          cc (fails, some k d below),
      apart k d below,
    )

-- The lines of a text that a line feed ends, before those of another.
use Rattle.std.proofs.Common.{◌≡◌, ◌⊎◌, ℕ, inl, inr, ◌+◌, ◌-◌, ◌<◌, ◌≤◌, false, true, not, eqb, List, [], ◌∷◌, ◌++◌, length, get_or, filter, map, take, drop, refl, sym, ◌∙◌, ap, arith, append_assoc, append-nil, length-append, length-drop, get_or-drop}
use Rattle.std.specs.List.{onto_first, slice_index, slice_range}
use Rattle.std.specs.Str.Lines.{strip_carriage_return}
use Rattle.std.proofs.lemmas.List.{map-append, nil_from_length, take_more}
use Rattle.std.proofs.lemmas.List.Elements.{filter-append}
use Rattle.std.proofs.lemmas.List.Folds.{drop_split}
use Rattle.std.proofs.lemmas.List.Splits.{slice_split-cons_yes, slice_split-cons_no, length-slice_split}
use Rattle.std.proofs.lemmas.Bool.{cases_eq}
use Rattle.lines.specs.Lines.{line_feed, pieces_of, lines_in, lines_of}

onto-append : (x : ℕ) (parts others : List (List ℕ)) → 0 < length parts →
    onto_first x (parts ++ others) ≡ onto_first x parts ++ others
onto-append x [] others some = absurd (omega arith)
onto-append x (part ∷ parts) others some = refl

pieces_joined : (byte : ℕ) (text rest : List ℕ) →
    pieces_of byte (text ++ byte ∷ rest) ≡ pieces_of byte text ++ pieces_of byte rest
pieces_joined byte [] rest = slice_split-cons_yes (λ y. eqb y byte) byte rest (grind arith)
pieces_joined byte (x ∷ text) rest =
    let is = λ (y : ℕ). eqb y byte in
    let after = pieces_of byte rest in
    let on = pieces_joined byte text rest in
    elim (cases_eq x byte) [
      | inl same ↦
          let cut : is x ≡ true = grind arith in
          slice_split-cons_yes is x (text ++ byte ∷ rest) cut ∙ ap (λ parts. [] ∷ parts) on
          ∙ ap (λ parts. parts ++ after) (sym (slice_split-cons_yes is x text cut))
      | inr other ↦
          let kept : is x ≡ false = grind arith in
          let some : 0 < length (pieces_of byte text) = omega (arith, length-slice_split is text) in
          slice_split-cons_no is x (text ++ byte ∷ rest) kept ∙ ap (onto_first x) on
          ∙ onto-append x (pieces_of byte text) after some
          ∙ ap (λ parts. parts ++ after) (sym (slice_split-cons_no is x text kept))
    ]

lines_joined : (text rest : List ℕ) → lines_of (text ++ line_feed ∷ rest) ≡ lines_of text ++ lines_of rest
lines_joined text rest =
    let some = λ (line : List ℕ). not (eqb (length line) 0) in
    let pieces = pieces_of line_feed text in
    let others = pieces_of line_feed rest in
    ap lines_in (pieces_joined line_feed text rest)
    ∙ ap (filter some) (map-append strip_carriage_return pieces others)
    ∙ filter-append some (map strip_carriage_return pieces) (map strip_carriage_return others)

-- where the lines from a place on are those from a later one on, at which a line may begin, there is none between the two
pub none_before : (bytes : List ℕ) (from place : ℕ) → from ≤ place → place ≤ length bytes →
    (place ≡ from) ⊎ (slice_index bytes (place - 1) ≡ line_feed) → lines_of (drop from bytes) ≡ lines_of (drop place bytes) →
    lines_of (slice_range bytes from place) ≡ []
none_before bytes from place forward inside (inl same) lines =
    let none : place - from ≡ 0 = omega arith in
    rw none refl
none_before bytes from place forward inside (inr feed) lines = elim (cases_eq place from) [
  | inl same ↦
      let none : place - from ≡ 0 = omega arith in
      rw none refl
  | inr further ↦
      let rest = drop from bytes in
      let n = place - from - 1 in
      let front = take n rest in
      let size = length-drop from bytes in
      let here : from + n ≡ place - 1 = omega arith in
      let next : n + 1 ≡ place - from = omega arith in
      let last : get_or rest n 0 ≡ line_feed = get_or-drop from bytes n 0 ∙ ap (λ k. get_or bytes k 0) here ∙ feed in
      let between : slice_range bytes from place ≡ front ++ line_feed ∷ [] =
      ap (λ k. take k rest) (sym next) ∙ take_more rest n 0 (omega arith) ∙ ap (λ byte. front ++ byte ∷ []) last in
      let cut : rest ≡ front ++ line_feed ∷ drop place bytes =
      drop_split bytes from place forward ∙ ap (λ text. text ++ drop place bytes) between
      ∙ append_assoc front (line_feed ∷ []) (drop place bytes) in
      let both : lines_of front ++ lines_of (drop place bytes) ≡ lines_of (drop place bytes) =
      sym (lines_joined front (drop place bytes)) ∙ ap lines_of (sym cut) ∙ lines in
      let none : length (lines_of front) ≡ 0 =
      omega (arith, length-append (lines_of front) (lines_of (drop place bytes)), ap length both) in
      ap lines_of between ∙ lines_joined front [] ∙ append-nil (lines_of front) ∙ nil_from_length (lines_of front) none
]

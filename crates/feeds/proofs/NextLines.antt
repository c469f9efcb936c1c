-- The lines that are left of a text, by the first of them.
use Rattle.std.proofs.Common.{◌≡◌, ◌∙◌, ℕ, ◌-◌, ◌<◌, Bool, true, false, cond, List, [], ◌∷◌, ◌++◌, length, map, take, drop, get_or, zero, suc, subst, refl, ap, sym, arith}
use Rattle.std.proofs.lemmas.Bool.Decides.{nat_tests}
use Rattle.std.proofs.lemmas.List.{take-map}
use Rattle.std.proofs.lemmas.List.Elements.{filter_passes}
use Rattle.std.proofs.lemmas.List.Edits.{length-between}
use Rattle.std.specs.Prelude.{slice_index, slice_range, not, ◌==◌}
use Rattle.std.specs.List.{filter}
use Rattle.std.specs.Str.Lines.{strip_carriage_return}
use Rattle.lines.specs.declared.cutting.Line.{Line}
use Rattle.lines.specs.Lines.{lines_of, ended_lines_of, pieces_of, line_feed, IsLineAt}
use Rattle.flow_edge.specs.ReadText.{ReadText}
use Rattle.feeds.specs.Records.{whole, cut_off, entries_of}
use Rattle.feeds.specs.Taking.{entries_at}

-- a filter that keeps nothing keeps nothing of a first part
filter-front : {A : Type 0} (p : A → Bool) (n : ℕ) (xs : List A) → filter p xs ≡ [] → filter p (take n xs) ≡ []
filter-front p zero xs none = refl
filter-front p (suc n) [] none = refl
filter-front p (suc n) (x ∷ xs) none =
    elim (p x) as (λ b. cond b (x ∷ filter p xs) (filter p xs) ≡ [] →
    cond b (x ∷ filter p (take n xs)) (filter p (take n xs)) ≡ []) [
      | true ↦ λ e. cc
      | false ↦ filter-front p n xs
    ] none

abbrev has-bytes : List ℕ → Bool
has-bytes line = not (length line == 0)

-- where a text has no line, it has none that is ended
pub none_ended : (text : List ℕ) → lines_of text ≡ [] → ended_lines_of text ≡ []
none_ended text none =
    let pieces = pieces_of line_feed text in
    ap (filter has-bytes) (sym (take-map strip_carriage_return (length pieces - 1) pieces))
    ∙ filter-front has-bytes (length pieces - 1) (map strip_carriage_return pieces) none

-- each line has a byte
line-some : (text line : List ℕ) (rest : List (List ℕ)) → lines_of text ≡ line ∷ rest → 0 < length line
line-some text line rest e =
    let passes = filter_passes has-bytes (map strip_carriage_return (pieces_of line_feed text)) in
    let some : 0 < length (lines_of text) = omega (arith, ap length e) in
    let first : has-bytes line ≡ true =
    subst (λ (lines : List (List ℕ)). has-bytes (get_or lines 0 []) ≡ true) e (passes 0 [] some) in
    grind (arith, nat_tests)

-- so the text goes on behind it
pub further : (bytes : List ℕ) (from : ℕ) (line : Line) → IsLineAt bytes from line → from < line.after
further bytes from line at =
    let some = line-some (drop from bytes) (slice_range bytes line.start line.stop) (lines_of (drop line.after bytes)) at.lines in
    omega (arith, length-between bytes line.start line.stop (omega arith))

-- what the greatest length cuts off is left
pub cut-left : (text : ReadText) (from : ℕ) → ended_lines_of (drop from text.bytes) ≡ [] → text.more ≡ true →
    entries_at text from ≡ cut_off ∷ []
cut-left text from none more =
    ap (λ longer. entries_of longer (drop from text.bytes)) more
    ∙ ap (λ (lines : List (List ℕ)). map whole lines ++ cut_off ∷ []) none

-- a line is left, and what is left behind it
pub line-left : (text : ReadText) (from : ℕ) (line : Line) → IsLineAt text.bytes from line →
    (text.more ≡ true → slice_index text.bytes (line.after - 1) ≡ line_feed) →
    entries_at text from ≡ whole (slice_range text.bytes line.start line.stop) ∷ entries_at text line.after
line-left text from line at ended =
    elim text.more as (λ more. (more ≡ true → slice_index text.bytes (line.after - 1) ≡ line_feed) →
    entries_of more (drop from text.bytes)
    ≡ whole (slice_range text.bytes line.start line.stop) ∷ entries_of more (drop line.after text.bytes)) [
      | true ↦ λ feed. ap (λ (lines : List (List ℕ)). map whole lines ++ cut_off ∷ []) (at.ended (feed refl))
      | false ↦ λ feed. ap (map whole) at.lines
    ] ended

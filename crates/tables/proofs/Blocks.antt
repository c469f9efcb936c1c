-- Blocks of which the first bytes count.
use Rattle.std.proofs.Common.{◌≡◌, ◌∙◌, ap, ℕ, ◌+◌, ◌≤◌, arith, List, ◌++◌, length, take}
use Rattle.std.proofs.Math.Seq.{take-append-add}
use Rattle.std.proofs.lemmas.List.{take-take, take_all}

-- a block was put behind a text, and then all but its first bytes were let go
pub front : (n m : ℕ) (text block with after : List ℕ) → n ≡ length text → with ≡ take n text ++ block →
    after ≡ take (n + m) with → after ≡ text ++ take m block
front n m text block with after counted put cut =
    let whole : take n text ≡ text = take_all n text (omega arith) in
    cut ∙ ap (take (n + m)) (put ∙ ap (λ l. l ++ block) whole)
    ∙ ap (λ k. take (k + m) (text ++ block)) counted ∙ take-append-add text block m

-- the first bytes of a block are those of what it is the front of
pub fronts : (n m : ℕ) (bytes text before : List ℕ) → n ≤ m → take n bytes ≡ text →
    before ++ take n (take m bytes) ≡ before ++ text
fronts n m bytes text before below is = ap (λ l. before ++ l) (take-take n m bytes below ∙ is)

-- Texts that are added one after another.
use Rattle.std.proofs.Common.{◌≡◌, ◌∙◌, ℕ, List, [], ◌++◌, ap, append-nil}

-- five texts, the first with each of the others added to it
pub five : (a b c d e first one two three all : List ℕ) → first ≡ a → one ≡ first ++ b → two ≡ one ++ c → three ≡ two ++ d →
    all ≡ three ++ e → all ++ [] ≡ a ++ b ++ c ++ d ++ e
five a b c d e first one two three all g h i j k =
    append-nil all ∙ k
    ∙ ap (λ text. text ++ e) (j ∙ ap (λ text. text ++ d) (i ∙ ap (λ text. text ++ c) (h ∙ ap (λ text. text ++ b) g)))

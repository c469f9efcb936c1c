-- One number more, behind a space.
use Rattle.std.proofs.Common.{◌≡◌, ℕ, ◌+◌, ◌<◌, ◌≤◌, List, [], ◌∷◌, ◌++◌, length, take, get_or, refl, sym, ap, ◌∙◌}
use Rattle.std.proofs.Common.{append_assoc, arith, length-take}
use Rattle.std.proofs.lemmas.List.{take_more}
use Rattle.std.specs.Prelude.{decimal}
use Rattle.tables.specs.Steps.{spaced}

spaced-push : (numbers : List ℕ) (n : ℕ) → 1 ≤ length numbers →
    spaced (numbers ++ n ∷ []) ≡ spaced numbers ++ 32 ∷ decimal n
spaced-push [] n some = absurd (omega arith)
spaced-push (a ∷ []) n some = refl
spaced-push (a ∷ b ∷ rest) n some =
    ap (λ text. decimal a ++ 32 ∷ text) (spaced-push (b ∷ rest) n (omega arith))
    ∙ sym (append_assoc (decimal a) (32 ∷ spaced (b ∷ rest)) (32 ∷ decimal n))

-- the space and the digits of the next number were added to the text of those before it
pub spaced_more : (numbers : List ℕ) (i d : ℕ) (before between after : List ℕ) →
    i + 1 < length numbers → before ≡ spaced (take (i + 1) numbers) → between ≡ before ++ 32 ∷ [] →
    after ≡ between ++ decimal (get_or numbers (i + 1) d) → after ≡ spaced (take (i + 1 + 1) numbers)
spaced_more numbers i d before between after below so_far space digits =
    digits ∙ ap (λ text. text ++ decimal (get_or numbers (i + 1) d)) (space ∙ ap (λ text. text ++ 32 ∷ []) so_far)
    ∙ append_assoc (spaced (take (i + 1) numbers)) (32 ∷ []) (decimal (get_or numbers (i + 1) d))
    ∙ sym (spaced-push (take (i + 1) numbers) (get_or numbers (i + 1) d) (omega (arith, length-take (i + 1) numbers)))
    ∙ ap spaced (sym (take_more numbers (i + 1) d below))

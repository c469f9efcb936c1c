-- Passes of a history, and of one with one version more.
use Rattle.std.proofs.Common.{◌≡◌, ◌≢◌, ◌&&◌, ℕ, ◌+◌, ◌<◌, Bool, true, false, cond, List, [], ◌∷◌, ◌++◌, map, filter, length, length-append, nat_eq, nat_lt, lt-ltb, eq-eqb, ne_eqb, append_assoc, append-nil, refl, sym, ap, ap₂, ◌∙◌, arith}
use Rattle.std.proofs.lemmas.List.{get_or_append_left, map-append}
use Rattle.std.proofs.lemmas.List.Elements.{filter-append}
use Rattle.relaxation.specs.History.{Version, History, Begins, no_version, numbered}
use Rattle.stream_cell.specs.declared.view.PassView.{PassView}
use Rattle.stream_cell.specs.declared.view.Turn.{Turn}
use Rattle.stream_cell.specs.Passes.{IsOf, made_by}
use Rattle.stream_cell.specs.Kinds.{reading, appending}
use Rattle.stream_cell.proofs.Flats.{newest_pushed}

pub begins_itself : (history : History) → Begins history history
begins_itself history = ([], sym (append-nil history))

pub begins_more : (seen history : History) (version : Version) → Begins seen history → Begins seen (history ++ version ∷ [])
begins_more seen history version begins =
    (begins.0 ++ version ∷ [], ap (λ (all : History). all ++ version ∷ []) begins.1 ∙ append_assoc seen begins.0 (version ∷ []))

-- what begins a history has its first version
pub first_stays : (seen history : History) → Begins seen history → 0 < length seen → numbered seen 0 ≡ numbered history 0
first_stays seen history begins some =
    sym (ap (λ (all : History). numbered all 0) begins.1 ∙ get_or_append_left seen begins.0 no_version 0 some)

-- what a pass made of one version more
is-made : ℕ → Version → Bool
is-made pass version = nat_lt 0 version.number && nat_eq version.maker pass

made-more : (pass : ℕ) (history : History) (version : Version) →
    made_by pass (history ++ version ∷ []) ≡ made_by pass history ++ made_by pass (version ∷ [])
made-more pass history version =
    ap (map (λ (v : Version). v.number)) (filter-append (λ (v : Version). nat_lt 0 v.number && nat_eq v.maker pass) history (version ∷ []))
    ∙ map-append (λ (v : Version). v.number) (filter (λ (v : Version). nat_lt 0 v.number && nat_eq v.maker pass) history)
    (filter (λ (v : Version). nat_lt 0 v.number && nat_eq v.maker pass) (version ∷ []))

pub made_own : (pass : ℕ) (version : Version) → 0 < version.number → version.maker ≡ pass → made_by pass (version ∷ []) ≡ version.number ∷ []
made_own pass version some own =
    ap (λ b. map (λ (v : Version). v.number) (cond b (version ∷ []) [])) (ap₂ (λ a b. a && b) (lt-ltb 0 version.number some) (eq-eqb version.maker pass own))

and-no : (a : Bool) → a && false ≡ false
and-no true = refl
and-no false = refl

made-else : (pass : ℕ) (version : Version) → version.maker ≢ pass → made_by pass (version ∷ []) ≡ []
made-else pass version else =
    ap (λ b. map (λ (v : Version). v.number) (cond b (version ∷ []) []))
    (ap (λ b. nat_lt 0 version.number && b) (ne_eqb version.maker pass else) ∙ and-no (nat_lt 0 version.number))

-- who did not make it is of the longer history too
pub of_more : (history : History) (version : Version) (v : PassView) → version.maker ≢ v.number → IsOf history v → IsOf (history ++ version ∷ []) v
of_more history version v else of = record {
  begins = begins_more v.seen history version of.begins;
  some = of.some;
  made = made-more v.number history version
      ∙ (ap (λ numbers. made_by v.number history ++ numbers) (made-else v.number version else)
      ∙ (append-nil (made_by v.number history) ∙ of.made));
  knows = of.knows;
}

-- what a pass counts of its steps, and whether it has the turn, changes nothing of it
pub of_turning : (history : History) (v : PassView) (turn : Turn) (looks misses : ℕ) → IsOf history v →
    IsOf history (record { number = v.number; passes = v.passes; seen = v.seen; made = v.made; turn = turn; looks = looks; misses = misses })
of_turning history v turn looks misses of = record { begins = of.begins; some = of.some; made = of.made; knows = of.knows }

-- who read the whole is of it
pub of_whole : (history : History) (v : PassView) → IsOf history v → IsOf history (reading v history)
of_whole history v of = record {
  begins = begins_itself history;
  some = let some = of.some in let e : length history ≡ length v.seen + length of.begins.0 = ap length of.begins.1 ∙ length-append v.seen of.begins.0 in omega arith;
  made = of.made;
  knows = of.made;
}

-- and so is who made it
pub of_own : (history : History) (version : Version) (v : PassView) → IsOf history v → version.maker ≡ v.number → 0 < version.number →
    IsOf (history ++ version ∷ []) (appending v (history ++ version ∷ []))
of_own history version v of own some =
    let made = made-more v.number history version
    ∙ ap₂ (λ (a b : List ℕ). a ++ b) of.made (made_own v.number version some own ∙ ap (λ (one : Version). one.number ∷ []) (sym (newest_pushed history version))) in
    record {
      begins = begins_itself (history ++ version ∷ []);
      some = omega (arith, length-append history (version ∷ []));
      made = made;
      knows = made;
    }

use Rattle.std.proofs.Common.{◌≡◌, ◌∙◌, ℕ, ℤ, Vec, Global, List, ◌++◌, codes, decimal, append_assoc, ap, subst, rules, SFits, w64, to_z, of_z}
use Rattle.std.proofs.lemmas.Int.{to_z-of_z}
use Rattle.std.specs.Fmt.{signed_decimal}
use Rattle.plant_gen.specs.Generated.{generated_parts}
use Rattle.demo.specs.Summary.{summary, sum_of_rows, width_of, ends_of}
use Rattle.demo.specs.Sizes.{size_lines}
use Rattle.demo.specs.Following.{IsWindowCount}
use Rattle.demo.proofs.Trains.{three-windows}
use Rattle.demo.proofs.texts.summary_text.Goals as goal

-- the text that is written of these numbers
written : List ℕ → ℕ → ℤ → ℤ → List ℕ
written sizes windows width ends =
    sizes ++ (codes "windows " ++ (decimal windows ++ (codes "\nwidth " ++ (signed_decimal width
    ++ (codes "\nends " ++ (signed_decimal ends ++ codes "\n"))))))

whole : (stages : ℕ) → written (size_lines stages (generated_parts stages)) 3 (sum_of_rows width_of (generated_parts stages))
    (sum_of_rows ends_of (generated_parts stages)) ≡ summary stages
unfolding summary written
whole stages = simp append_assoc

is-summary : (stages : ℕ) (sizes : List ℕ) (windows : ℕ) (width ends : ℤ) → sizes ≡ size_lines stages (generated_parts stages) →
    windows ≡ 3 → width ≡ sum_of_rows width_of (generated_parts stages) → ends ≡ sum_of_rows ends_of (generated_parts stages) →
    written sizes windows width ends ≡ summary stages
is-summary stages sizes windows width ends s w x y = cc (whole stages)

pub returns : goal.returns
unfolding written
returns c =
    let sums = c.args.sums in
    let width_fits : SFits w64 sums.width = search rules in
    let ends_fits : SFits w64 sums.ends = search rules in
    c.new.ensures ∙ (ap (λ (bytes : Vec ℕ Global). bytes.items) c.into_bytes.ensures.value ∙ (c.in_ok-text.ensures.ok
    ∙ is-summary c.args.stages _ c.window_count-windows.result (to_z w64 (of_z w64 sums.width)) (to_z w64 (of_z w64 sums.ends))
    (c.in_ok-sizes.ensures ∙ ap (size_lines c.args.stages) c.requires.plant)
    (three-windows c.args.stages c.window_count-windows.result
    (subst (λ parts. IsWindowCount parts c.window_count-windows.result) (c.parts.ensures.parts ∙ c.requires.plant)
    c.window_count-windows.ensures)) (to_z-of_z w64 sums.width width_fits ∙ c.requires.sums.width)
    (to_z-of_z w64 sums.ends ends_fits ∙ c.requires.sums.ends)))

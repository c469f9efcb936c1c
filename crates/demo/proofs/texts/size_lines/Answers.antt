use Rattle.std.proofs.Common.{◌≡◌, ◌∙◌, ℕ, List, ◌++◌, codes, decimal, append_assoc, length, ap}
use Rattle.parts.specs.Parts.{FileParts}
use Rattle.plant_streams.specs.Streams.{streams_of}
use Rattle.plant.proofs.Sources.{length-units_of}
use Rattle.demo.specs.Sizes.{size_lines}
use Rattle.demo.proofs.texts.size_lines.Goals as goal

-- the text that is written of these numbers
abbrev written : ℕ → ℕ → ℕ → ℕ → List ℕ
written stages units streams ticks =
    codes "demo " ++ (decimal stages ++ (codes "\nunits " ++ (decimal units
    ++ (codes "\nstreams " ++ (decimal streams ++ (codes "\nticks " ++ (decimal ticks ++ codes "\n")))))))

are-lines : (stages units streams ticks : ℕ) (parts : FileParts) → units ≡ length parts.units → streams ≡ length (streams_of parts) →
    ticks ≡ parts.ticks → written stages units streams ticks ≡ size_lines stages parts
are-lines stages units streams ticks parts u s t =
    ap (λ n. written stages n streams ticks) u
    ∙ (ap (λ n. written stages (length parts.units) n ticks) s
    ∙ (ap (λ n. written stages (length parts.units) (length (streams_of parts)) n) t ∙ simp append_assoc))

pub returns : goal.returns
returns c = c.in_ok-text.ensures.ok ∙ are-lines c.args.stages (length c.units.result.now) (length c.streams.result.now)
    c.behind-plant.inside.ticks c.args.plant.now (ap length c.units.ensures ∙ length-units_of c.args.plant.now)
    (ap length c.streams.ensures) (ap (λ (p : FileParts). p.ticks) (c.behind-plant.view_is ∙ c.parts.ensures.parts))

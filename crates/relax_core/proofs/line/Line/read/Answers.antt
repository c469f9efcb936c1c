-- Each change leads one version back.
use Rattle.std.proofs.Common.{◌≡◌, ◌∙◌, ℕ, ◌-◌, ◌<◌, List, length, drop, sym, ap, subst, arith, slice_index_or}
use Rattle.relax_core.specs.Versions.{bands_from, oldest, IsReplaced}
use Rattle.relax_core.specs.declared.line.Change.{Change}
use Rattle.relax_core.proofs.Replaced.{all-at, all-drop, next-there, rest-whole, version-is}
use Rattle.relax_core.proofs.line.Line.read.Goals as goal

pub restore-requires : goal.restore-requires
restore-requires c =
    let replaced = c.args.replaced.now in
    let newest = c.args.self.now.newest in
    let changes = c.args.self.now.changes.items in
    let place = c.loop-place.place in
    let change : Change = slice_index_or c.as_slice-changes.result.now (place - 1) (record { tick = 0; start = 0 }) in
    let found : slice_index_or changes (place - 1) (record { tick = 0; start = 0 }) ≡ change =
    ap (λ (list : List Change). slice_index_or list (place - 1) (record { tick = 0; start = 0 })) (sym c.as_slice-changes.ensures.value) in
    let there : place - 1 < length changes =
    omega (arith, c.loop-place-test.true, c.loop-place.auto.place, ap length c.as_slice-changes.ensures.value) in
    let is : IsReplaced replaced newest change =
    subst (IsReplaced replaced newest) found
    (all-at (IsReplaced replaced newest) changes (place - 1) (record { tick = 0; start = 0 }) c.requires.line there) in
    omega (
      arith,
      next-there replaced newest (drop place changes) change
          (all-drop (IsReplaced replaced newest) place changes c.requires.line) is,
      ap length (ap (bands_from change.tick) c.loop-place.invariant.1),
      ap length (rest-whole change.start replaced),
    )

pub returns : goal.returns
returns c =
    let replaced = c.args.replaced.now in
    let newest = c.args.self.now.newest in
    let changes = c.args.self.now.changes.items in
    let here : c.loop-place.place ≡ c.args.number = omega (arith, c.loop-place-test.false, c.loop-place.invariant.0) in
    c.loop-place.invariant.1 ∙ ap (λ (n : ℕ). oldest replaced newest (drop n changes)) here
    ∙ sym (version-is replaced newest changes c.args.number c.requires.number)

use Rattle.std.proofs.Common.{◌*◌, ◌/◌, ◌∙◌, length, drop, ap, ap₂, arith}
use Rattle.stream_cell.proofs.Reading.{start_there, copy_room, copy_is}
use Rattle.stream_cell.proofs.history.History.copy_tube.Goals as goal

pub overflow_mul-version : goal.overflow_mul-version
overflow_mul-version c =
    let size = c.len.result / c.len-2.result in
    let parts = ap₂ (λ a b. a / b) (c.len.ensures ∙ c.self.inside.bands.ok.0) (c.len-2.ensures ∙ c.self.inside.heads.ok.0) in
    let there = start_there c.self.invariant c.args.self.now c.self.view_is c.args.version c.requires.version size parts in
    omega (arith, c.self.inside.bands.ok.0, c.deref.ensures.len, c.deref.type_inv.0)

pub split_at-requires : goal.split_at-requires
split_at-requires c =
    let size = c.len.result / c.len-2.result in
    let parts = ap₂ (λ a b. a / b) (c.len.ensures ∙ c.self.inside.bands.ok.0) (c.len-2.ensures ∙ c.self.inside.heads.ok.0) in
    let there = start_there c.self.invariant c.args.self.now c.self.view_is c.args.version c.requires.version size parts in
    omega (arith, ap length c.deref.ensures.value)

pub copy_rows-requires : goal.copy_rows-requires
copy_rows-requires c =
    let size = c.len.result / c.len-2.result in
    let parts = ap₂ (λ a b. a / b) (c.len.ensures ∙ c.self.inside.bands.ok.0) (c.len-2.ensures ∙ c.self.inside.heads.ok.0) in
    copy_room c.self.invariant c.args.self.now c.self.view_is c.args.version c.requires.version c.args.into.now c.split_at.result.1.now size c.requires.shape parts
    (c.split_at.ensures.back ∙ ap (drop (c.args.version * size)) c.deref.ensures.value)

pub returns : goal.returns
returns c =
    let size = c.len.result / c.len-2.result in
    let parts = ap₂ (λ a b. a / b) (c.len.ensures ∙ c.self.inside.bands.ok.0) (c.len-2.ensures ∙ c.self.inside.heads.ok.0) in
    copy_is c.self.invariant c.args.self.now c.self.view_is c.args.version c.requires.version c.args.into.now c.copy_rows.new.into c.split_at.result.1.now size c.requires.shape parts
    (c.split_at.ensures.back ∙ ap (drop (c.args.version * size)) c.deref.ensures.value) c.copy_rows.ensures

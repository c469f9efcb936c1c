-- Behind the header the next record is read.
use Rattle.std.proofs.Common.{◌∙◌}
use Rattle.std.proofs.lemmas.Result.{err_from_is_err_and}
use Rattle.feeds.proofs.Steps.{still-taken, header-refused, behind-header}
use Rattle.feeds.proofs.taken.Taken.read_next.Goals as goal

pub returns-in_err-read_header : goal.returns-in_err-read_header
returns-in_err-read_header c =
    let p = err_from_is_err_and c.from_residual.result c.from_residual.ensures.1 in
    rw (p.1, p.2) (header-refused c.args.plant.now c.args.text.now c.args.self.now c.read_header.new.self
    c.in_err-read_header.field-0.0 c.requires.taken c.requires.ahead (c.in_err-read_header.ensures.passes c.args.plant.now))

pub read_behind-requires-clause-taken : goal.read_behind-requires-clause-taken
read_behind-requires-clause-taken c =
    let passes = c.in_ok-read_header.ensures.passes c.args.plant.now in
    still-taken c.args.plant.now c.args.text.now.bytes c.args.self.now c.read_header.new.self c.requires.taken
    c.read_header.ensures.held (c.read_header.ensures.ahead ∙ c.requires.ahead) passes.inside passes.counted

pub read_behind-requires-clause-begun : goal.read_behind-requires-clause-begun
read_behind-requires-clause-begun c = (c.in_ok-read_header.ensures.passes c.args.plant.now).some

pub returns : goal.returns
returns c =
    behind-header c.args.plant.now c.args.text.now c.args.self.now c.read_header.new.self c.read_behind.new.self
    c.read_behind.result (c.in_ok-read_header.ensures.passes c.args.plant.now) c.read_header.ensures.held
    c.read_behind.ensures

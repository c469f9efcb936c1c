use Rattle.std.proofs.Common.{arith, ◌≡◌, ◌∙◌, ap, sym, ◌+◌, true, Option, Some, None}
use Rattle.flow_top.specs.Words.{takes, with_value}
use Rattle.flow_top.specs.declared.words.Request.{Request}
use Rattle.flow_top.proofs.Options.{value-so, next-so, options-so, rest-shorter}
use Rattle.flow_top.proofs.words.+options_in.Goals as goal

pub options_in-requires : goal.options_in-requires
options_in-requires t c =
    let taken : takes c.args.request c.name-item.result ≡ true =
    ap (takes c.args.request) (sym c.as_bytes.ensures) ∙ sym c.takes.ensures ∙ c.if-not-takes.false in
    let valued : Some c.in-Some.more ≡ with_value c.name-item-2.result (c.args.at + 1) c.value-item.result c.args.request =
    value-so _ _ _ _ (c.args.at + 1) c.args.request c.with_value.result (Some c.in-Some.more) c.in-Some.is c.with_value.ensures
    c.as_bytes-in-len2-up.ensures c.as_bytes-in-len2-up-2.ensures in (
      omega (arith, rest-shorter c.args.options.now c.in-len2-up.len_at_least, c.decreases),
      next-so c.args.options.now c.name-item.result c.name-item-2.result c.value-item.result c.args.at c.args.request c.in-Some.more taken
          c.in-len2-up.len_at_least c.name-item.is c.name-item-2.is valued c.requires,
    )

pub returns-in-None : goal.returns-in-None
returns-in-None t c =
    let taken : takes c.args.request c.name-item.result ≡ true =
    ap (takes c.args.request) (sym c.as_bytes.ensures) ∙ sym c.takes.ensures ∙ c.if-not-takes.false in
    let none : Option Request = None in
    options-so c.args.options.now c.name-item.result c.name-item-2.result c.value-item.result c.args.at c.args.request none taken
    c.in-len2-up.len_at_least c.name-item.is c.name-item-2.is c.value-item.is
    (value-so _ _ _ _ (c.args.at + 1) c.args.request c.with_value.result none c.in-None.is c.with_value.ensures
    c.as_bytes-in-len2-up.ensures c.as_bytes-in-len2-up-2.ensures)

pub returns-in-Some : goal.returns-in-Some
returns-in-Some t c =
    let taken : takes c.args.request c.name-item.result ≡ true =
    ap (takes c.args.request) (sym c.as_bytes.ensures) ∙ sym c.takes.ensures ∙ c.if-not-takes.false in
    c.options_in.ensures
    ∙ options-so c.args.options.now c.name-item.result c.name-item-2.result c.value-item.result c.args.at c.args.request
    (Some c.in-Some.more) taken c.in-len2-up.len_at_least c.name-item.is c.name-item-2.is c.value-item.is
    (value-so _ _ _ _ (c.args.at + 1) c.args.request c.with_value.result (Some c.in-Some.more) c.in-Some.is c.with_value.ensures
    c.as_bytes-in-len2-up.ensures c.as_bytes-in-len2-up-2.ensures)

-- `lines::text::decimal` meets its contract. Assumes nothing.
use Rattle.std.proofs.Common.{refl, ◌∙◌, arith, rules}
use Rattle.lines.proofs.Decimal.{decimal_fewest, decimal_fits}
use Rattle.lines.proofs.Texts.{recast}
use Rattle.lines.proofs.text.decimal.Goals as goal

pub word-requires : goal.word-requires
word-requires c =
    let d = c.decimal-k in
    let few = decimal_fits c.args.n d.result (search rules) d.ensures.len.2 in
    omega (arith, d.ensures.in_bounds)

pub returns : goal.returns
returns c =
    let d = c.decimal-k in
    let w = c.word in
    let n = c.args.n in
    let few = decimal_fits n d.result (search rules) d.ensures.len.2 in
    (recast (d.ensures.digits ∙ decimal_fewest 20 d.result n few d.ensures.len) refl w.ensures, omega (arith, w.ensures.place, d.ensures.in_bounds))

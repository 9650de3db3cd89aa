-- `code::digit::by_doubles` meets its contract.
use mathlib.Core.Path.{ap₂, ◌∙◌}
use Rattle.field.specs.Field.{plus}
use Rattle.code.proofs.Digits.{eight}
use Rattle.code.proofs.digit.by_doubles.Goals as goal

pub returns : goal.returns
returns c =
    let a = c.args in
    ap₂ plus (ap₂ plus (ap₂ plus (ap₂ plus (ap₂ plus (ap₂ plus (ap₂ plus c.masked.ensures c.masked-2.ensures) c.masked-3.ensures) c.masked-4.ensures) c.masked-5.ensures) c.masked-6.ensures) c.masked-7.ensures) c.masked-8.ensures
    ∙ eight a.x a.c a.c1 a.c2 a.c3 a.c4 a.c5 a.c6 a.c7 c.requires

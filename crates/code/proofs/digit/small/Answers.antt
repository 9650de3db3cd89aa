-- `code::digit::small` meets its contract.
use mathlib.Core.Path.{ap₂, ◌∙◌}
use Rattle.field.specs.Field.{plus}
use Rattle.code.proofs.Digits.{five}
use borrow.Author.Rules.{rules}
use Rattle.code.proofs.digit.small.Goals as goal

pub returns : goal.returns
returns c =
    let a = c.args in
    ap₂ plus (ap₂ plus (ap₂ plus (ap₂ plus c.masked.ensures c.masked-2.ensures) c.masked-3.ensures) c.masked-4.ensures) c.masked-5.ensures
    ∙ five a.s a.x _ _ _ _ c.requires (search rules) c.double-x1.ensures c.double-x2.ensures c.double-x3.ensures c.double-x4.ensures

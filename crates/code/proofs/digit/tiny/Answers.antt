-- `code::digit::tiny` meets its contract.
use mathlib.Core.Path.{ap₂, ◌∙◌}
use Rattle.field.specs.Field.{plus}
use Rattle.code.proofs.Digits.{three}
use borrow.Author.Rules.{rules}
use Rattle.code.proofs.digit.tiny.Goals as goal

pub returns : goal.returns
returns c =
    let a = c.args in
    ap₂ plus (ap₂ plus c.masked.ensures c.masked-2.ensures) c.masked-3.ensures
    ∙ three a.s a.x _ _ c.requires (search rules) c.double-x1.ensures c.double-x2.ensures

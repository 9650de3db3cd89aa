-- `code::digit::next` meets its contract.
use mathlib.Core.Path.{ap, ap₂, ◌∙◌}
use borrow.Author.Rules.{rules}
use lib.Bits.{bit_xor}
use Rattle.field.specs.Field.{double}
use Rattle.code.proofs.Digits.{last_digit}
use Rattle.code.proofs.digit.next.Goals as goal

pub returns : goal.returns
returns c =
    let s = c in
    ap₂ bit_xor (c.double.ensures ∙ ap double s.requires) c.masked.ensures
    ∙ last_digit s.args.x s.args.c (search rules) (search rules)

-- `code::digit::masked` meets its contract: a mask of a digit's ones keeps x or nothing.
use Prim.Native.Nat.{◌%◌}
use borrow.Author.Rules.{rules}
use Rattle.code.proofs.Digits.{masked}
use Rattle.code.proofs.digit.masked.Goals as goal

pub returns : goal.returns
returns c = masked c.args.x (c.args.d % 2) (search rules) (search rules)

-- `code::digit::by_server` meets its contract: the highest digit of s is 1, and each further one is a step.
use mathlib.Core.Path.{ap, ◌∙◌}
use borrow.Author.Rules.{rules}
use native.Mathlib.Omega.{arith}
use Prim.Native.Nat.{◌/◌}
use Rattle.field.specs.Field.{times}
use Rattle.code.proofs.Digits.{by_one, swapped}
use Rattle.code.proofs.digit.by_server.Goals as goal

pub returns-then-s-lt2 : goal.returns-then-s-lt2
returns-then-s-lt2 c =
    let a = c.args in
    swapped a.x a.s a.x (search rules) (search rules) (by_one a.x a.s (search rules) (omega arith))

pub next-requires : goal.next-requires
next-requires c = let a = c.args in by_one a.x (a.s / 2) (search rules) (omega arith)

pub returns-then-s-lt4 : goal.returns-then-s-lt4
returns-then-s-lt4 c =
    let a = c.args in
    swapped a.x a.s c.next.result (search rules) (search rules) c.next.ensures

pub next-requires-then-s-lt8 : goal.next-requires-then-s-lt8
next-requires-then-s-lt8 c = let a = c.args in by_one a.x (a.s / 2 / 2) (search rules) (omega arith)

pub returns-then-s-lt8 : goal.returns-then-s-lt8
returns-then-s-lt8 c =
    let a = c.args in
    swapped a.x a.s c.next-then-s-lt8-2.result (search rules) (search rules) c.next-then-s-lt8-2.ensures

pub next-requires-then-s-lt16 : goal.next-requires-then-s-lt16
next-requires-then-s-lt16 c = let a = c.args in by_one a.x (a.s / 2 / 2 / 2) (search rules) (omega arith)

pub returns-then-s-lt16 : goal.returns-then-s-lt16
returns-then-s-lt16 c =
    let a = c.args in
    swapped a.x a.s c.next-then-s-lt16-3.result (search rules) (search rules) c.next-then-s-lt16-3.ensures

pub next-requires-2 : goal.next-requires-2
next-requires-2 c = by_one c.args.x 1 (search rules) (omega arith)

pub returns : goal.returns
returns c =
    let a = c.args in
    swapped a.x a.s c.next-5.result (search rules) (search rules)
    (c.next-5.ensures ∙ ap (times a.x) (omega arith))

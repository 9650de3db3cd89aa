-- `field::inverse` meets its contract: a power of 2 times the one that makes its exponent 255 is 1. Assumes nothing.
use mathlib.Core.Path.{◌≡◌, sym, ap, ◌∙◌}
use Prim.Native.Nat.{ℕ, ◌-◌}
use native.Mathlib.Omega.{arith}
use lib.Dec.{lit<}
use Rattle.field.specs.Field.{times, power, inverse_of}
use Rattle.field.proofs.Laws.{inverse_zero, inverse_only, power_add, power_lt, power_period}
use Rattle.field.proofs.inverse.Goals as goal

pub returns-then-a-eq0 : goal.returns-then-a-eq0
returns-then-a-eq0 c = sym (ap inverse_of c.if-a-eq0.true ∙ inverse_zero)

pub returns : goal.returns
returns c =
    let a = c.args.a in
    let log = c.logarithm.result in
    let one : times a (power 2 (255 - log)) ≡ 1 =
    ap (λ (x : ℕ). times x (power 2 (255 - log))) (sym (c.logarithm.ensures.exponent c.if-a-eq0.false))
    ∙ sym (power_add 2 log (255 - log) (lit< tt))
    ∙ ap (power 2) (omega arith)
    ∙ power_period in
    c.power_of_two.ensures ∙ sym (inverse_only a (power 2 (255 - log)) (omega arith) (power_lt 2 (255 - log) (lit< tt)) one)

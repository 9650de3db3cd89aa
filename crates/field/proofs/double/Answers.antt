-- `field::double` meets its contract: by the seven low bits and the highest alone. Assumes nothing.
use mathlib.Core.Path.{◌≡◌, sym, ap, ◌∙◌}
use Prim.Native.Nat.{ℕ, ◌*◌, ◌/◌, ◌%◌}
use native.Mathlib.Omega.{arith}
use Rattle.field.specs.Field.{bit, plus}
use Rattle.field.proofs.Linear.{double_byte}
use Rattle.field.proofs.double.Goals as goal

pub returns : goal.returns
returns c =
    let a = c.args.a in
    let top : bit 7 a ≡ a / 128 = omega arith in
    sym (double_byte a ∙ ap (λ (x : ℕ). plus (a % 128 * 2) (x * 29)) top)

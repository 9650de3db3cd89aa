use mathlib.Core.Path.{◌≡◌}
use Prim.Native.Nat.{ℕ, ◌+◌, ◌/◌, ◌%◌, ◌^◌, ◌≤◌}
use native.Mathlib.Nat.{div-eq_of_lt, le-div_iff_mul-le}
use native.Mathlib.Decide.{dec_lt}
use native.Mathlib.Omega.{arith}
use borrow.Author.Tests.{eq-eqb, ne_eqb, lt-ltb, le-ltb}
use lib.Dec.{eqb, ltb}
use lib.Pow.{pow_pos}
use Rattle.client.proofs.servers.within.Goals as goal

-- nothing is left of a number shifted past its bits, and of no other
shifted : (x k : ℕ) → eqb (x / 2 ^ k) 0 ≡ ltb x (2 ^ k)
shifted x k = elim (dec_lt x (2 ^ k)) as (λ _. eqb (x / 2 ^ k) 0 ≡ ltb x (2 ^ k)) [
  | yes l ↦ rw (lt-ltb x (2 ^ k) l) (eq-eqb (x / 2 ^ k) 0 (div-eq_of_lt l))
  | no n ↦
      let some : 1 ≤ x / 2 ^ k = (le-div_iff_mul-le (pow_pos k)).1 (omega arith) in
      rw (le-ltb x (2 ^ k) (omega arith)) (ne_eqb (x / 2 ^ k) 0 (λ e. omega arith))
]

pub returns-then-set-ne0 : goal.returns-then-set-ne0
returns-then-set-ne0 c = let a = c.args in rw (ne_eqb (a.set % 2) 0 c.if-set-ne0.true)

pub returns : goal.returns
returns c = let a = c.args in rw (eq-eqb (a.set % 2) 0 c.if-set-ne0.false) (shifted a.set (a.n + 1))

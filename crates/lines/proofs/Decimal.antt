-- The fewest decimal digits that hold a number are its digits.
use Rattle.std.proofs.Common.{◌≡◌, ℕ, zero, suc, ◌+◌, ◌-◌, ◌/◌, ◌%◌, ◌^◌, ◌<◌, ◌≤◌, List, [], ◌∷◌, ◌++◌, ap, mod-eq_of_lt, sub-one, arith, lit<, le-ltb, lt-ltb}
use native.Mathlib.Nat.{one-le-pow, pow-le-pow_right, pow-succ', pow-zero}
use native.Mathlib.Decide.{dec_le}
use Rattle.io.specs.Digits.{IsDigitCount, last_digits, hex_digit_ascii}
use Rattle.lines.specs.Line.{decimal_within}

pub decimal_fewest : (most k n : ℕ) → k ≤ most → IsDigitCount 10 1 n k → last_digits 10 k n ≡ decimal_within most n
unfolding decimal_within
decimal_fewest most zero n h f = absurd (omega (arith, f.0))
decimal_fewest zero (suc k) n h f = absurd (omega (arith, h))
decimal_fewest (suc most) (suc zero) n h f =
    let low : n < 10 = omega (arith, f.1, pow-succ' 10 zero, pow-zero 10) in
    rw (lt-ltb n 10 low, mod-eq_of_lt low, lt-ltb n 10 low)
decimal_fewest (suc most) (suc (suc k)) n h f =
    let least : 10 ^ suc k ≤ n = rw sub-one at (f.2 (omega arith)) in
    let some : 1 ≤ 10 ^ k = one-le-pow k 10 (lit< tt) in
    rw (le-ltb n 10 (omega (arith, pow-succ' 10 k)))
    (ap (λ (l : List ℕ). l ++ (hex_digit_ascii (n % 10) ∷ []))
    (decimal_fewest most (suc k) (n / 10) (omega (arith, h)) (omega arith, omega (arith, f.1, pow-succ' 10 (suc k)), above)))
  where
    above : 1 < suc k → 10 ^ (suc k - 1) ≤ n / 10
    above _ = rw sub-one (omega (arith, pow-succ' 10 k, rw sub-one at (f.2 (omega arith))))

-- a number of 64 bits has at most 20
pub decimal_fits : (n k : ℕ) → n < 2 ^ 64 → (1 < k → 10 ^ (k - 1) ≤ n) → k ≤ 20
decimal_fits n k h f =
    elim (dec_le k 20) as (λ _. k ≤ 20) [
      | yes e ↦ e
      | no far ↦ absurd (omega (arith, pow-le-pow_right {n = 10} (lit< tt) {i = 20} {j = k - 1} (omega (arith, far)), f (omega (arith, far))))
    ]

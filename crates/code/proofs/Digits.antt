-- A product, digit by digit of one factor.
use Prim.Native.Nat.{ℕ, suc, ◌*◌, ◌/◌, ◌%◌, ◌^◌, ◌<◌}
use mathlib.Core.Path.{◌≡◌, sym, ap, ap₂, ◌∙◌}
use native.Mathlib.Omega.{arith}
use native.Mathlib.Nat.{zero-mul, one-mul, div-one, div-div-eq-div-mul, pow-suc}
use lib.Bits.{bit_and, and_zero_r, and_mask, xor_shifted, xor_zero_r, xor_zero_l}
use Rattle.field.specs.Field.{plus, times, double, doubled, bit, partial_product}
use Rattle.field.proofs.Laws.{times_plus_right, times_double, times_comm, times_one, times_zero_right, double_lt}
use Rattle.field.proofs.Linear.{double_byte}
use Rattle.laws.proofs.Xor.{by_digit}
use Rattle.code.specs.inner.Doubles.{ByDoublesPre}

-- ---- a digit

-- a mask of a digit's ones keeps a byte or nothing
pub masked : (x d : ℕ) → x < 256 → d < 2 → bit_and x (d * 255) ≡ d * x
masked x d lx ld =
    by_digit (λ n. bit_and x (n * 255) ≡ n * x) (and_zero_r x ∙ sym (zero-mul x)) (and_mask x 8 ∙ omega arith) d ld

digit_times : (x d : ℕ) → x < 256 → d < 2 → d * x ≡ times x d
digit_times x d lx ld =
    by_digit (λ n. n * x ≡ times x n) (zero-mul x ∙ sym (times_zero_right x)) (one-mul x ∙ sym (times_one x lx)) d ld

-- ---- the last digit of a factor: a product from that by the factor without it

-- below 128 doubling is twice the number
double_small : (h : ℕ) → h < 128 → double h ≡ h * 2
double_small h l =
    let low : h % 128 * 2 ≡ h * 2 = omega arith in
    let high : bit 7 h * 29 ≡ 0 = omega arith in
    double_byte h ∙ ap₂ plus low high ∙ xor_zero_r (h * 2)

digits : (c : ℕ) → c < 256 → c ≡ plus (double (c / 2)) (c % 2)
digits c l =
    sym
    (ap (λ n. plus n (c % 2)) (double_small (c / 2) (omega arith))
    ∙ xor_shifted (c / 2) 1 (c % 2) (omega arith)
    ∙ omega arith)

times_double_right : (x h : ℕ) → x < 256 → h < 256 → times x (double h) ≡ double (times x h)
times_double_right x h lx lh =
    times_comm x (double h) lx (double_lt h) ∙ times_double h x ∙ ap double (times_comm h x lh lx)

pub last_digit : (x c : ℕ) → x < 256 → c < 256 → plus (double (times x (c / 2))) (c % 2 * x) ≡ times x c
last_digit x c lx lc =
    ap₂ plus (sym (times_double_right x (c / 2) lx (omega arith))) (digit_times x (c % 2) lx (omega arith))
    ∙ sym (times_plus_right x (double (c / 2)) (c % 2))
    ∙ ap (times x) (sym (digits c lc))

-- one digit more is left out
pub halves : (a b : ℕ) → a / 2 ^ b / 2 ≡ a / 2 ^ suc b
halves a b = div-div-eq-div-mul a (2 ^ b) 2 ∙ ap (λ n. a / n) (sym (pow-suc 2 b))

-- the first digit is 1
pub by_one : (x h : ℕ) → x < 256 → h ≡ 1 → x ≡ times x h
by_one x h lx e = sym (times_one x lx) ∙ ap (times x) (sym e)

pub swapped : (x s r : ℕ) → x < 256 → s < 256 → r ≡ times x s → r ≡ times s x
swapped x s r lx ls e = e ∙ times_comm x s lx ls

-- ---- all digits of a factor: the sum of the other doubled as often as each says

first : (c x : ℕ) → x % 2 * c ≡ partial_product 1 c x
unfolding partial_product doubled
first c x = ap (λ n. n % 2 * c) (sym (div-one x)) ∙ sym (xor_zero_l (x / 1 % 2 * c))

-- a term of the sum
term : (y : ℕ) {a b p q : ℕ} → a ≡ b → p ≡ q → plus a (y % 2 * p) ≡ plus b (y % 2 * q)
term y e f = ap₂ plus e (ap (λ n. y % 2 * n) f)

pub record Doublings (c c1 c2 c3 c4 c5 c6 c7 : ℕ) : Type 0 where
  pub one : c1 ≡ doubled 1 c
  pub two : c2 ≡ doubled 2 c
  pub three : c3 ≡ doubled 3 c
  pub four : c4 ≡ doubled 4 c
  pub five : c5 ≡ doubled 5 c
  pub six : c6 ≡ doubled 6 c
  pub seven : c7 ≡ doubled 7 c

pub doublings : {c c1 c2 c3 c4 c5 c6 c7 : ℕ} → ByDoublesPre c c1 c2 c3 c4 c5 c6 c7 → Doublings c c1 c2 c3 c4 c5 c6 c7
unfolding doubled
doublings {c} m =
    let d1 : _ ≡ doubled 1 c = m.one in
    let d2 : _ ≡ doubled 2 c = m.two ∙ ap double d1 in
    let d3 : _ ≡ doubled 3 c = m.three ∙ ap double d2 in
    let d4 : _ ≡ doubled 4 c = m.four ∙ ap double d3 in
    let d5 : _ ≡ doubled 5 c = m.five ∙ ap double d4 in
    let d6 : _ ≡ doubled 6 c = m.six ∙ ap double d5 in
    record { one = d1; two = d2; three = d3; four = d4; five = d5; six = d6; seven = m.seven ∙ ap double d6 }

pub eight : (x c c1 c2 c3 c4 c5 c6 c7 : ℕ) → ByDoublesPre c c1 c2 c3 c4 c5 c6 c7
    → plus (plus (plus (plus (plus (plus (plus (x % 2 * c) (x / 2 % 2 * c1)) (x / 4 % 2 * c2)) (x / 8 % 2 * c3)) (x / 16 % 2 * c4)) (x / 32 % 2 * c5)) (x / 64 % 2 * c6)) (x / 128 % 2 * c7)
    ≡ times c x
unfolding times partial_product doubled
eight x c c1 c2 c3 c4 c5 c6 c7 m =
    let d = doublings m in
    term (x / 128) (term (x / 64) (term (x / 32) (term (x / 16) (term (x / 8) (term (x / 4) (term (x / 2) (first c x) d.one) d.two) d.three) d.four) d.five) d.six) d.seven

-- a digit that is 0 adds nothing
no_digit : (x s n a : ℕ) → bit n s ≡ 0 → plus a (bit n s * doubled n x) ≡ a
no_digit x s n a e = ap (λ d. plus a (d * doubled n x)) e ∙ ap (plus a) (zero-mul (doubled n x)) ∙ xor_zero_r a

-- the sum over the digits below 5 is that over all where the factor is below 32
five_digits : (x s : ℕ) → s < 32 → partial_product 5 x s ≡ times x s
unfolding times partial_product
five_digits x s h =
    sym
    (no_digit x s 7 (partial_product 7 x s) (omega arith)
    ∙ no_digit x s 6 (partial_product 6 x s) (omega arith)
    ∙ no_digit x s 5 (partial_product 5 x s) (omega arith))

-- and that over those below 3 where it is below 8
three_digits : (x s : ℕ) → s < 8 → partial_product 3 x s ≡ times x s
unfolding partial_product
three_digits x s h =
    sym (no_digit x s 4 (partial_product 4 x s) (omega arith) ∙ no_digit x s 3 (partial_product 3 x s) (omega arith))
    ∙ five_digits x s (omega arith)

pub three : (s x x1 x2 : ℕ) → s < 8 → x < 256 → x1 ≡ double x → x2 ≡ double x1
    → plus (plus (s % 2 * x) (s / 2 % 2 * x1)) (s / 4 % 2 * x2) ≡ times s x
unfolding partial_product doubled
three s x x1 x2 h lx e1 e2 =
    term (s / 4) (term (s / 2) (first x s) e1) (e2 ∙ ap double e1) ∙ three_digits x s h ∙ times_comm x s lx (omega arith)

pub five : (s x x1 x2 x3 x4 : ℕ) → s < 32 → x < 256 → x1 ≡ double x → x2 ≡ double x1 → x3 ≡ double x2 → x4 ≡ double x3
    → plus (plus (plus (plus (s % 2 * x) (s / 2 % 2 * x1)) (s / 4 % 2 * x2)) (s / 8 % 2 * x3)) (s / 16 % 2 * x4) ≡ times s x
unfolding partial_product doubled
five s x x1 x2 x3 x4 h lx e1 e2 e3 e4 =
    term (s / 16) (term (s / 8) (term (s / 4) (term (s / 2) (first x s) e1) (e2 ∙ ap double e1)) (e3 ∙ ap double (e2 ∙ ap double e1)))
    (e4 ∙ ap double (e3 ∙ ap double (e2 ∙ ap double e1)))
    ∙ five_digits x s h
    ∙ times_comm x s lx (omega arith)

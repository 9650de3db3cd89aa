-- Doubling is linear over exclusive or, and so is the product in either argument; this holds of all numbers. The product
-- with a number doubled is the product doubled; 1 times a byte is that byte. Assumes nothing.
use mathlib.Core.Path.{◌≡◌, refl, sym, ap, ap₂, ◌∙◌}
use Prim.Native.Nat.{ℕ, zero, suc, ◌+◌, ◌*◌, ◌/◌, ◌%◌, ◌^◌, ◌<◌}
use native.Mathlib.Nat.{zero-lt-suc, mod-lt, zero-mul, one-mul, mul-zero, add_comm, zero-add, suc-add, mod-eq_of_lt, mod-one}
use native.Mathlib.Numerals.{one-add}
use native.Mathlib.Omega.{arith}
use lib.Pow.{mod-pow-add, pow_pos}
use lib.Bits.{xor_self, xor_comm, xor_mod, xor_lt, xor_block, xor_shifted}
use Rattle.laws.proofs.Xor.{by_digit, xor_swap, xor_shl, xor_bit, digit_mul_xor, xor_digit_mul}
use Rattle.field.specs.Field.{bit, plus, modulus, double, doubled, partial_product, times}

bit_lt : (i a : ℕ) → bit i a < 2
bit_lt i a = mod-lt (a / 2 ^ i) (zero-lt-suc 1)

-- ---- doubling

pub double_plus : (a b : ℕ) → double (plus a b) ≡ plus (double a) (double b)
unfolding double
double_plus a b =
    ap₂ (λ (x y : ℕ). plus (x * 2) (y * modulus)) (xor_mod a b 8) (xor_bit a b 7)
    ∙ ap₂ plus (xor_shl (a % 256) (b % 256) 1) (xor_digit_mul (bit 7 a) (bit_lt 7 a) (bit 7 b) (bit_lt 7 b) modulus)
    ∙ xor_swap (a % 256 * 2) (b % 256 * 2) (bit 7 a * modulus) (bit 7 b * modulus)

pub double_zero : double 0 ≡ 0
unfolding double
double_zero = refl

-- by the seven low bits and the highest alone, as 11D without its x^8 is 29
low_lt : (a : ℕ) → a % 128 * 2 < 256
low_lt a = omega arith

high_lt : (a : ℕ) → bit 7 a * 29 < 256
high_lt a = omega arith

pub double_byte : (a : ℕ) → double a ≡ plus (a % 128 * 2) (bit 7 a * 29)
unfolding double
double_byte a =
    ap₂ plus low high
    ∙ xor_block 8 (bit 7 a) (bit 7 a) (a % 128 * 2) (bit 7 a * 29) (low_lt a) (high_lt a)
    ∙ ap (λ (x : ℕ). x * 256 + plus (a % 128 * 2) (bit 7 a * 29)) (xor_self (bit 7 a))
    ∙ zero-add (plus (a % 128 * 2) (bit 7 a * 29))
  where
    low : a % 256 * 2 ≡ bit 7 a * 256 + a % 128 * 2
    low = omega (arith, mod-pow-add a 1 7)

    high : bit 7 a * modulus ≡ bit 7 a * 256 + bit 7 a * 29
    high = omega arith

pub double_lt : (a : ℕ) → double a < 256
double_lt a = rw double_byte (xor_lt 8 (a % 128 * 2) (bit 7 a * 29) (low_lt a) (high_lt a))

pub doubled_plus : (i a b : ℕ) → doubled i (plus a b) ≡ plus (doubled i a) (doubled i b)
unfolding doubled
doubled_plus zero a b = refl
doubled_plus (suc i) a b = ap double (doubled_plus i a b) ∙ double_plus (doubled i a) (doubled i b)

pub doubled_zero : (i : ℕ) → doubled i 0 ≡ 0
unfolding doubled
doubled_zero zero = refl
doubled_zero (suc i) = ap double (doubled_zero i) ∙ double_zero

pub doubled_lt : (i a : ℕ) → a < 256 → doubled i a < 256
unfolding doubled
doubled_lt zero a h = h
doubled_lt (suc i) a h = double_lt (doubled i a)

pub doubled_add : (i j a : ℕ) → doubled (i + j) a ≡ doubled i (doubled j a)
unfolding doubled
doubled_add zero j a = ap (λ (n : ℕ). doubled n a) (zero-add j)
doubled_add (suc i) j a = ap (λ (n : ℕ). doubled n a) (suc-add i j) ∙ ap double (doubled_add i j a)

pub doubled_comm : (i j a : ℕ) → doubled i (doubled j a) ≡ doubled j (doubled i a)
doubled_comm i j a = sym (doubled_add i j a) ∙ ap (λ (n : ℕ). doubled n a) (add_comm i j) ∙ doubled_add j i a

-- ---- the product

partial_plus_left : (n a b c : ℕ) → partial_product n (plus a b) c ≡ plus (partial_product n a c) (partial_product n b c)
unfolding partial_product
partial_plus_left zero a b c = refl
partial_plus_left (suc n) a b c =
    ap₂ plus (partial_plus_left n a b c)
    (ap (λ (x : ℕ). bit n c * x) (doubled_plus n a b) ∙ digit_mul_xor (bit n c) (bit_lt n c) (doubled n a) (doubled n b))
    ∙ xor_swap (partial_product n a c) (partial_product n b c) (bit n c * doubled n a) (bit n c * doubled n b)

partial_plus_right : (n a b c : ℕ) → partial_product n a (plus b c) ≡ plus (partial_product n a b) (partial_product n a c)
unfolding partial_product
partial_plus_right zero a b c = refl
partial_plus_right (suc n) a b c =
    ap₂ plus (partial_plus_right n a b c)
    (ap (λ (x : ℕ). x * doubled n a) (xor_bit b c n)
    ∙ xor_digit_mul (bit n b) (bit_lt n b) (bit n c) (bit_lt n c) (doubled n a))
    ∙ xor_swap (partial_product n a b) (partial_product n a c) (bit n b * doubled n a) (bit n c * doubled n a)

partial_zero : (n b : ℕ) → partial_product n 0 b ≡ 0
unfolding partial_product
partial_zero zero b = refl
partial_zero (suc n) b = ap₂ plus (partial_zero n b) (ap (λ (x : ℕ). bit n b * x) (doubled_zero n) ∙ mul-zero (bit n b))

digit_mul_double : (d : ℕ) → d < 2 → (a : ℕ) → d * double a ≡ double (d * a)
digit_mul_double =
    by_digit (λ (d : ℕ). (a : ℕ) → d * double a ≡ double (d * a))
    (λ a. zero-mul (double a) ∙ sym (ap double (zero-mul a) ∙ double_zero))
    (λ a. one-mul (double a) ∙ ap double (sym (one-mul a)))

partial_double : (n a b : ℕ) → partial_product n (double a) b ≡ double (partial_product n a b)
unfolding partial_product doubled
partial_double zero a b = sym double_zero
partial_double (suc n) a b =
    ap₂ plus (partial_double n a b)
    (ap (λ (x : ℕ). bit n b * x) (doubled_comm n 1 a) ∙ digit_mul_double (bit n b) (bit_lt n b) (doubled n a))
    ∙ sym (double_plus (partial_product n a b) (bit n b * doubled n a))

pub times_plus_left : (a b c : ℕ) → times (plus a b) c ≡ plus (times a c) (times b c)
unfolding times
times_plus_left a b c = partial_plus_left _ a b c

pub times_plus_right : (a b c : ℕ) → times a (plus b c) ≡ plus (times a b) (times a c)
unfolding times
times_plus_right a b c = partial_plus_right _ a b c

pub times_zero_left : (b : ℕ) → times 0 b ≡ 0
unfolding times
times_zero_left b = partial_zero _ b

pub times_zero_right : (a : ℕ) → times a 0 ≡ 0
times_zero_right a = times_plus_right a 0 0 ∙ xor_self (times a 0)

pub times_double : (a b : ℕ) → times (double a) b ≡ double (times a b)
unfolding times
times_double a b = partial_double _ a b

pub times_doubled : (i a b : ℕ) → times (doubled i a) b ≡ doubled i (times a b)
unfolding doubled
times_doubled zero a b = refl
times_doubled (suc i) a b = times_double (doubled i a) b ∙ ap double (times_doubled i a b)

-- ---- 1 times a byte

partial_one : (n b : ℕ) → doubled n 1 ≡ 2 ^ n → partial_product n 1 b ≡ b % 2 ^ n → partial_product (suc n) 1 b ≡ b % 2 ^ suc n
unfolding partial_product
partial_one n b e f =
    ap₂ (λ (x y : ℕ). plus x (bit n b * y)) f e
    ∙ xor_comm (b % 2 ^ n) (bit n b * 2 ^ n)
    ∙ xor_shifted (bit n b) n (b % 2 ^ n) (mod-lt b (pow_pos n))
    ∙ sym (mod-pow-add b 1 n)
    ∙ ap (λ (x : ℕ). b % 2 ^ x) (one-add n)

pub times_one_left : (b : ℕ) → b < 256 → times 1 b ≡ b
unfolding times partial_product doubled double
times_one_left b h =
    partial_one 7 b refl
    (partial_one 6 b refl
    (partial_one 5 b refl
    (partial_one 4 b refl
    (partial_one 3 b refl
    (partial_one 2 b refl
    (partial_one 1 b refl
    (partial_one 0 b refl (sym (mod-one b)))))))))
    ∙ mod-eq_of_lt h

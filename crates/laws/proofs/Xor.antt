-- Laws of exclusive or on all numbers, beside those of `lib.Bits`. In order: a digit; associativity; a digit, a remainder and
-- twice of an exclusive or; a number times a digit. Assumes nothing.
use mathlib.Core.Path.{◌≡◌, refl, sym, ap, ap₂, ◌∙◌}
use Prim.Native.Nat.{ℕ, zero, suc, ◌+◌, ◌*◌, ◌/◌, ◌%◌, ◌^◌, ◌<◌}
use native.Mathlib.Nat.{le_of_suc-le-suc, not-suc-le-zero, zero-lt-suc, mod-lt, zero-mul, one-mul, add-zero}
use lib.Arith.{bin_ind}
use lib.Pow.{pow_pos}
use lib.Bits.{bit_xor, differ, xor_step, xor_zero_r, xor_self, xor_comm, xor_shr, xor_mod, xor_block}

two_pos : zero < 2
two_pos = zero-lt-suc 1

-- what holds of 0 and 1 holds of every binary digit
pub by_digit : (P : ℕ → Type 0) → P 0 → P 1 → (d : ℕ) → d < 2 → P d
by_digit P p q zero h = p
by_digit P p q (suc zero) h = q
by_digit P p q (suc (suc d)) h = absurd (not-suc-le-zero (le_of_suc-le-suc (le_of_suc-le-suc h)))

differ_assoc : (x : ℕ) → x < 2 → (y : ℕ) → y < 2 → (z : ℕ) → z < 2 → differ (differ x y) z ≡ differ x (differ y z)
differ_assoc =
    by_digit (λ (x : ℕ). (y : ℕ) → y < 2 → (z : ℕ) → z < 2 → differ (differ x y) z ≡ differ x (differ y z))
    (λ y hy z hz. refl)
    (by_digit (λ (y : ℕ). (z : ℕ) → z < 2 → differ (differ 1 y) z ≡ differ 1 (differ y z))
    (λ z hz. refl)
    (by_digit (λ (z : ℕ). differ 0 z ≡ differ 1 (differ 1 z)) refl refl))

-- of two digits
xor_digits : (x : ℕ) → x < 2 → (y : ℕ) → y < 2 → bit_xor x y ≡ differ x y
xor_digits =
    by_digit (λ (x : ℕ). (y : ℕ) → y < 2 → bit_xor x y ≡ differ x y) (λ y h. refl) (by_digit (λ (y : ℕ). bit_xor 1 y ≡ differ 1 y) refl refl)

-- the lowest digit
xor_odd : (a b : ℕ) → bit_xor a b % 2 ≡ differ (a % 2) (b % 2)
xor_odd a b = xor_mod a b 1 ∙ xor_digits (a % 2) (mod-lt a two_pos) (b % 2) (mod-lt b two_pos)

pub xor_assoc : (a b c : ℕ) → bit_xor (bit_xor a b) c ≡ bit_xor a (bit_xor b c)
xor_assoc a =
    bin_ind (λ (n : ℕ). (b c : ℕ) → bit_xor (bit_xor n b) c ≡ bit_xor n (bit_xor b c)) (λ b c. refl)
    (λ n ih b c. xor_step (bit_xor n b) c
    ∙ ap₂ (λ (x y : ℕ). bit_xor x (c / 2) * 2 + differ y (c % 2)) (xor_shr n b 1) (xor_odd n b)
    ∙ ap₂ (λ (x y : ℕ). x * 2 + y) (ih (b / 2) (c / 2))
    (differ_assoc (n % 2) (mod-lt n two_pos) (b % 2) (mod-lt b two_pos) (c % 2) (mod-lt c two_pos))
    ∙ sym (ap₂ (λ (x y : ℕ). bit_xor (n / 2) x * 2 + differ (n % 2) y) (xor_shr b c 1) (xor_odd b c))
    ∙ sym (xor_step n (bit_xor b c))) a

-- two sums of two, the inner terms changed over
pub xor_swap : (a b c d : ℕ) → bit_xor (bit_xor a b) (bit_xor c d) ≡ bit_xor (bit_xor a c) (bit_xor b d)
xor_swap a b c d =
    xor_assoc a b (bit_xor c d)
    ∙ ap (bit_xor a) (sym (xor_assoc b c d) ∙ ap (λ (x : ℕ). bit_xor x d) (xor_comm b c) ∙ xor_assoc c b d)
    ∙ sym (xor_assoc a c (bit_xor b d))

-- what is added twice is gone
pub xor_cancel : (a b : ℕ) → bit_xor a (bit_xor a b) ≡ b
xor_cancel a b = sym (xor_assoc a a b) ∙ ap (λ (x : ℕ). bit_xor x b) (xor_self a)

-- shifted by k digits
pub xor_shl : (a b k : ℕ) → bit_xor a b * 2 ^ k ≡ bit_xor (a * 2 ^ k) (b * 2 ^ k)
xor_shl a b k =
    sym (add-zero (bit_xor a b * 2 ^ k)) ∙ sym (xor_block k a b 0 0 (pow_pos k) (pow_pos k))
    ∙ ap₂ bit_xor (add-zero (a * 2 ^ k)) (add-zero (b * 2 ^ k))

-- the digit at place k
pub xor_bit : (a b k : ℕ) → bit_xor a b / 2 ^ k % 2 ≡ bit_xor (a / 2 ^ k % 2) (b / 2 ^ k % 2)
xor_bit a b k = ap (λ (x : ℕ). x % 2) (xor_shr a b k) ∙ xor_mod (a / 2 ^ k) (b / 2 ^ k) 1

-- a number taken as often as a digit says
pub digit_mul_xor : (d : ℕ) → d < 2 → (a b : ℕ) → d * bit_xor a b ≡ bit_xor (d * a) (d * b)
digit_mul_xor =
    by_digit (λ (d : ℕ). (a b : ℕ) → d * bit_xor a b ≡ bit_xor (d * a) (d * b))
    (λ a b. simp zero-mul)
    (λ a b. simp one-mul)

pub xor_digit_mul : (d : ℕ) → d < 2 → (e : ℕ) → e < 2 → (a : ℕ) → bit_xor d e * a ≡ bit_xor (d * a) (e * a)
xor_digit_mul =
    by_digit (λ (d : ℕ). (e : ℕ) → e < 2 → (a : ℕ) → bit_xor d e * a ≡ bit_xor (d * a) (e * a))
    (λ e h a. ap (λ (x : ℕ). bit_xor x (e * a)) (sym (zero-mul a)))
    (by_digit (λ (e : ℕ). (a : ℕ) → bit_xor 1 e * a ≡ bit_xor (1 * a) (e * a))
    (λ a. sym (xor_zero_r (1 * a)) ∙ ap (bit_xor (1 * a)) (sym (zero-mul a)))
    (λ a. zero-mul a ∙ sym (xor_self (1 * a))))

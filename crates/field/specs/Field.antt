-- The field of 256 elements: document 01, "Field and code", up to the product. A field element is a byte. Its bit i is the
-- coefficient of x^i of the polynomial that it stands for, so that 2 is x. Assumes nothing.
use Rattle.std.specs.Prelude.{ℕ, zero, suc, ◌*◌, ◌/◌, ◌%◌, ◌^◌, cond, eqb}
use Rattle.std.specs.Int.Bits.{bit_xor}

-- the coefficient of x^i
abbrev pub bit : ℕ → ℕ → ℕ
bit i a = a / 2 ^ i % 2

-- addition is exclusive or
abbrev pub plus : ℕ → ℕ → ℕ
plus a b = bit_xor a b

-- hexadecimal 11D: x^8 + x^4 + x^3 + x^2 + 1
abbrev pub modulus : ℕ
modulus = 0x11D

-- a times x, modulo 11D: where a has x^7, a times x has x^8, and 11D is added
unfoldable pub double : ℕ → ℕ
double a = plus (a % 256 * 2) (bit 7 a * modulus)

-- a times x^i
unfoldable pub doubled : ℕ → ℕ → ℕ
doubled zero a = a
doubled (suc i) a = double (doubled i a)

-- the sum of a times x^i over the i below n at which b has x^i
unfoldable pub partial_product : ℕ → ℕ → ℕ → ℕ
partial_product zero a b = 0
partial_product (suc n) a b = plus (partial_product n a b) (bit n b * doubled n a)

-- multiplication is that of polynomials modulo hexadecimal 11D
unfoldable pub times : ℕ → ℕ → ℕ
times a b = partial_product 8 a b

-- a to the power i; power 0 is 1
unfoldable pub power : ℕ → ℕ → ℕ
power a zero = 1
power a (suc i) = times a (power a i)

-- the last number below n whose product with a is 1; 0 if there is none
unfoldable pub inverse_below : ℕ → ℕ → ℕ
inverse_below zero a = 0
inverse_below (suc n) a = cond (eqb (times a n) 1) n (inverse_below n a)

-- the inverse of a: the byte whose product with a is 1; 0, which has none, gives 0
unfoldable pub inverse_of : ℕ → ℕ
inverse_of a = inverse_below 256 a

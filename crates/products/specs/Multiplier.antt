-- A shift-and-add multiplier, which uses no table, and how many products of the field differ from its own.
use Rattle.std.specs.Prelude.{ℕ, zero, suc, ◌+◌, ◌-◌, ◌*◌, ◌^◌, cond, eqb}
use Rattle.field.specs.Field.{bit, modulus, plus, times}

-- the sum of a shifted by i over the i below n at which b has bit i
unfoldable pub shifted : ℕ → ℕ → ℕ → ℕ
shifted zero a b = 0
shifted (suc n) a b = cond (eqb (bit n b) 1) (plus (shifted n a b) (a * 2 ^ n)) (shifted n a b)

-- p with its terms from x^14 down taken off, n of them
unfoldable pub reduced : ℕ → ℕ → ℕ
reduced zero p = p
reduced (suc n) p = cond (eqb (bit (14 - n) (reduced n p)) 1) (plus (reduced n p) (modulus * 2 ^ (6 - n))) (reduced n p)

-- 1 where the field's product of a and b and the multiplier's differ, 0 where they are equal
unfoldable pub differ : ℕ → ℕ → ℕ
differ a b = cond (eqb (times a b) (reduced 7 (shifted 8 a b))) 0 1

-- how many differ, of the products of a with the bytes below n, and of the bytes below n with all
unfoldable pub row_differ : ℕ → ℕ → ℕ
row_differ a zero = 0
row_differ a (suc n) = row_differ a n + differ a n

unfoldable pub all_differ : ℕ → ℕ
all_differ zero = 0
all_differ (suc n) = all_differ n + row_differ n 256

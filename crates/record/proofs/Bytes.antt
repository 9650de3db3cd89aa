-- Bytes: a number of four, tests for zero, and runs of zeros. Assumes nothing.
use mathlib.Core.Path.{◌≡◌, refl, sym}
use mathlib.Core.Bool.{Bool, true, false, ◌&&◌, and_assoc, and-true}
use mathlib.Core.List.{List}
use Prim.Native.Nat.{ℕ, zero, suc, ◌+◌, ◌≤◌, ◌<◌}
use native.Mathlib.Omega.{arith}
use native.Mathlib.Numerals.{add-one}
use borrow.Author.Tests.{ne_eqb}
use lib.Bits.{bit_or, or_add_and, and_le_r}
use lib.Dec.{eqb}
use lib.ListN.{length, get_or, drop, drop_of_length-le}
use lib.Seq.{drop-cons}
use Rattle.config.specs.declared.Config.{Config}
use Rattle.config.specs.Config.{Valid}
use Rattle.record.specs.Record.{all_zero, element_end}

-- an or is zero exactly if both are
or_zero : (a b : ℕ) → eqb (bit_or a b) 0 ≡ eqb a 0 && eqb b 0
or_zero zero b = refl
or_zero (suc a) b =
    rw (ne_eqb (suc a) 0 (λ e. omega arith))
    (ne_eqb (bit_or (suc a) b) 0 (λ e. omega (arith, or_add_and (suc a) b, and_le_r (suc a) b)))

-- the test from place i, where the or of the bytes before it is known: one more, the end
abbrev pub zero_from : ℕ → ℕ → List ℕ → Bool
zero_from any i bs = eqb any 0 && all_zero (drop i bs)

pub zero_more : (bs : List ℕ) (any i : ℕ) → i < length bs → zero_from any i bs ≡ zero_from (bit_or any (get_or bs i 0)) (i + 1) bs
unfolding all_zero
zero_more bs any i h =
    rw (add-one i, drop-cons bs i 0 h, or_zero any (get_or bs i 0)) (sym (and_assoc (eqb any 0) (eqb (get_or bs i 0) 0) (all_zero (drop (suc i) bs))))

pub zero_end : (bs : List ℕ) (any i : ℕ) → length bs ≤ i → zero_from any i bs ≡ eqb any 0
unfolding all_zero
zero_end bs any i h = rw (drop_of_length-le bs h) (and-true (eqb any 0))

-- the element's end is within the record
end_high : (cfg : Config) (p : Bool) → Valid cfg → element_end cfg p ≤ 80
end_high cfg true v = omega (arith, v.e_high)
end_high cfg false v = omega arith

pub end_in : {cfg : Config} (p : Bool) {n m : ℕ} → Valid cfg → m ≡ 80 → n ≡ element_end cfg p → n ≤ m
end_in {cfg} p v e h = omega (arith, end_high cfg p v)

-- Polynomials over the field of bytes, as numbers: the laws of any field's polynomials, carried from the bytes.
use Prim.Native.Nat.{ℕ, zero, suc, ◌<◌, ◌%◌}
use mathlib.Core.Path.{◌≡◌, refl, sym, ap, ap₂, subst, fun_ext, ◌∙◌}
use mathlib.Core.List.{List, [], ◌∷◌, map}
use native.Mathlib.Omega.{arith}
use lib.ListN.{length, get_or, length-map}
use Rattle.field.specs.Field.{times, power}
use Rattle.field.proofs.Byte.{Byte, same, zero_number, one-number, add_number, mul_number, inv_number, laws}
use Rattle.field.proofs.Byte as field
use Rattle.laws.specs.Bytes.{tabulate, Bytes}
use Rattle.code.specs.Element.{byte_field}
use Rattle.code.specs.Polynomial.{Operations, sum, power_in, value, lagrange, interpolated}
use Rattle.laws.proofs.Bytes.{bytes_tabulate, length_tabulate, map_tabulate, tabulate_cong}
use Rattle.code.proofs.Ring.{Laws}
use Rattle.code.proofs.Sums.{sum_cong}
use Rattle.code.proofs.Value.{value_tabulate}
use Rattle.code.proofs.Roots.{Distinct, unique}
use Rattle.code.proofs.Lagrange.{interpolated_value}
use Rattle.code.proofs.Homomorphism.{Homomorphism, hom_sum, hom_power, hom_value, hom_at, hom_lagrange, hom_interpolated}

abbrev bytewise : Operations Byte
bytewise = record { nought = field.zero; unit = field.one; add = field.add; mul = field.mul; inverse = field.inv }

abbrev number : Byte → ℕ
number b = b.0

homomorphism : Homomorphism bytewise byte_field number
homomorphism = record { nought = zero_number; unit = one-number; add = add_number; mul = mul_number; inverse = inv_number }

lawful : Laws bytewise
lawful = laws

-- the byte of a number, which is that number if it is one
byte : ℕ → Byte
byte n = (n % 256, omega arith)

number_byte : (n : ℕ) → n < 256 → number (byte n) ≡ n
unfolding byte
number_byte n h = omega arith

numbers : (l : List ℕ) → Bytes l → map number (map byte l) ≡ l
numbers [] h = refl
numbers (x ∷ l) h = ap₂ ◌∷◌ (number_byte x (h 0)) (numbers l (λ i. h (suc i)))

at_number : (l : List ℕ) → Bytes l → (i : ℕ) → number (get_or (map byte l) i field.zero) ≡ get_or l i 0
at_number l h i = hom_at bytewise byte_field number homomorphism (map byte l) i ∙ ap (λ k. get_or k i 0) (numbers l h)

value_number : (p : List ℕ) (x : ℕ) → Bytes p → x < 256 → number (value bytewise (map byte p) (byte x)) ≡ value byte_field p x
value_number p x h l =
    hom_value bytewise byte_field number homomorphism (map byte p) (byte x)
    ∙ ap₂ (value byte_field) (numbers p h) (number_byte x l)

pub value_lt : (p : List ℕ) (x : ℕ) → Bytes p → x < 256 → value byte_field p x < 256
value_lt p x h l = subst (λ n. n < 256) (value_number p x h l) (value bytewise (map byte p) (byte x)).1

-- the power of a number in the field is the field's
pub power_in_bytes : (x i : ℕ) → power_in byte_field x i ≡ power x i
unfolding power_in power
power_in_bytes x zero = refl
power_in_bytes x (suc i) = ap (times x) (power_in_bytes x i)

-- the sum of coefficient times power is what Horner's rule gives
pub horner : (n : ℕ) (f : ℕ → ℕ) (x : ℕ) → ((i : ℕ) → f i < 256) → x < 256
    → sum byte_field n (λ i. times (f i) (power x i)) ≡ value byte_field (tabulate n f) x
horner n f x h l =
    sum_cong byte_field n
    (λ i. times (f i) (power x i))
    (λ i. number (field.mul (byte (f i)) (power_in bytewise (byte x) i)))
    (λ i m. sym (mul_number (byte (f i)) (power_in bytewise (byte x) i)
    ∙ ap₂ times (number_byte (f i) (h i))
    (hom_power bytewise byte_field number homomorphism (byte x) i ∙ ap (λ y. power_in byte_field y i) (number_byte x l) ∙ power_in_bytes x i)))
    ∙ sym (hom_sum bytewise byte_field number homomorphism n (λ i. field.mul (byte (f i)) (power_in bytewise (byte x) i)))
    ∙ ap number (sym (value_tabulate bytewise lawful n (λ i. byte (f i)) (byte x)))
    ∙ hom_value bytewise byte_field number homomorphism (tabulate n (λ i. byte (f i))) (byte x)
    ∙ ap₂ (value byte_field)
    (map_tabulate number n (λ i. byte (f i)) ∙ tabulate_cong n (λ i. number (byte (f i))) f (λ i m. number_byte (f i) (h i)))
    (number_byte x l)

distinct : (xs : List ℕ) → Bytes xs → Distinct 0 xs → Distinct field.zero (map byte xs)
distinct xs h d i j l m e =
    d i j l (subst (λ n. j < n) (length-map xs byte) m) (sym (at_number xs h i) ∙ ap number e ∙ at_number xs h j)

interpolated_number : (xs : List ℕ) (v : ℕ → ℕ) (i : ℕ) → Bytes xs → ((r : ℕ) → v r < 256)
    → number (interpolated bytewise (map byte xs) (λ r. byte (v r)) i) ≡ interpolated byte_field xs v i
interpolated_number xs v i h hv =
    hom_interpolated bytewise byte_field number homomorphism (map byte xs) (λ r. byte (v r)) i
    ∙ ap₂ (λ k w. interpolated byte_field k w i) (numbers xs h) (fun_ext (λ r. number_byte (v r) (hv r)))

pub interpolated_lt : (xs : List ℕ) (v : ℕ → ℕ) (i : ℕ) → Bytes xs → ((r : ℕ) → v r < 256) → interpolated byte_field xs v i < 256
interpolated_lt xs v i h hv =
    subst (λ n. n < 256) (interpolated_number xs v i h hv) (interpolated bytewise (map byte xs) (λ r. byte (v r)) i).1

-- and so are the coefficients of Lagrange's polynomials
pub lagrange_lt : (xs : List ℕ) (r i : ℕ) → Bytes xs → get_or (lagrange byte_field xs (get_or xs r 0)) i 0 < 256
lagrange_lt xs r i h =
    subst (λ n. n < 256)
    (hom_at bytewise byte_field number homomorphism p i
    ∙ ap (λ q. get_or q i 0)
    (hom_lagrange bytewise byte_field number homomorphism (map byte xs) (get_or (map byte xs) r field.zero)
    ∙ ap₂ (lagrange byte_field) (numbers xs h) (at_number xs h r)))
    (get_or p i field.zero).1
  where
    p : List Byte
    p = lagrange bytewise (map byte xs) (get_or (map byte xs) r field.zero)

value-at : (p xs : List ℕ) (i : ℕ) → Bytes p → Bytes xs
    → number (value bytewise (map byte p) (get_or (map byte xs) i field.zero)) ≡ value byte_field p (get_or xs i 0)
value-at p xs i hp hx =
    hom_value bytewise byte_field number homomorphism (map byte p) (get_or (map byte xs) i field.zero)
    ∙ ap₂ (value byte_field) (numbers p hp) (at_number xs hx i)

-- two polynomials of k coefficients that agree at k distinct points are one
pub same_polynomial : (xs p q : List ℕ) → Bytes xs → Bytes p → Bytes q → Distinct 0 xs → length p ≡ length xs → length q ≡ length xs
    → ((i : ℕ) → i < length xs → value byte_field p (get_or xs i 0) ≡ value byte_field q (get_or xs i 0)) → p ≡ q
same_polynomial xs p q hx hp hq d ep eq h =
    sym (numbers p hp)
    ∙ ap (map number)
    (unique bytewise lawful (map byte xs) (map byte p) (map byte q)
    (length-map p byte ∙ ep ∙ sym eq ∙ sym (length-map q byte))
    (rw (length-map p byte, length-map xs byte) (omega arith))
    (distinct xs hx d)
    (λ i l. same (value-at p xs i hp hx ∙ h i (subst (λ n. i < n) (length-map xs byte) l) ∙ sym (value-at q xs i hq hx))))
    ∙ numbers q hq

-- at the points the interpolated polynomial has the given values
pub at_points : (xs : List ℕ) (v : ℕ → ℕ) → Bytes xs → ((r : ℕ) → v r < 256) → Distinct 0 xs → (t : ℕ) → t < length xs
    → value byte_field (tabulate (length xs) (interpolated byte_field xs v)) (get_or xs t 0) ≡ v t
at_points xs v h hv d t l =
    ap₂ (value byte_field)
    (sym (map_tabulate number (length ys) (interpolated bytewise ys w)
    ∙ ap (λ n. tabulate n (λ i. number (interpolated bytewise ys w i))) (length-map xs byte)
    ∙ tabulate_cong (length xs) (λ i. number (interpolated bytewise ys w i)) (interpolated byte_field xs v)
    (λ i m. interpolated_number xs v i h hv)))
    (sym (at_number xs h t))
    ∙ sym (hom_value bytewise byte_field number homomorphism (tabulate (length ys) (interpolated bytewise ys w)) (get_or ys t field.zero))
    ∙ ap number (interpolated_value bytewise lawful ys (distinct xs h d) w t (rw (length-map xs byte) l))
    ∙ number_byte (v t) (hv t)
  where
    ys : List Byte
    ys = map byte xs

    w : ℕ → Byte
    w r = byte (v r)

-- a polynomial of as many coefficients is interpolated from its values
pub from_values : (xs p : List ℕ) → Bytes xs → Bytes p → Distinct 0 xs → length p ≡ length xs
    → tabulate (length xs) (interpolated byte_field xs (λ r. value byte_field p (get_or xs r 0))) ≡ p
from_values xs p hx hp d e =
    same_polynomial xs (tabulate (length xs) (interpolated byte_field xs v)) p hx
    (bytes_tabulate (length xs) (interpolated byte_field xs v) (λ i. interpolated_lt xs v i hx hv)) hp d
    (length_tabulate (length xs) (interpolated byte_field xs v)) e
    (λ i l. at_points xs v hx hv d i l)
  where
    v : ℕ → ℕ
    v r = value byte_field p (get_or xs r 0)

    hv : (r : ℕ) → v r < 256
    hv r = value_lt p (get_or xs r 0) hp (hx r)

-- What a table that passes its test holds: the powers of 2, where the first entry is 1 and each further one twice the one
-- before; the logarithms, where each is below 255 and that of a byte other than 0 is its exponent. Assumes nothing.
use mathlib.Core.Path.{◌≡◌, sym, ap, ◌∙◌}
use mathlib.Core.Bool.{Bool, ◌&&◌, ◌||◌}
use mathlib.Core.List.{List}
use Prim.Native.Nat.{ℕ, zero, suc, ◌<◌}
use native.Mathlib.Nat.{le_of_lt}
use lib.Dec.{T, eqb, ltb, eqb→eq, ltb→lt}
use lib.ListN.{length, get_or}
use borrow.Author.Tests.{ne_eqb}
use Rattle.laws.proofs.Table.{follows, first, next, passes, at, and_left, and_right}
use Rattle.field.specs.Field.{double, doubled, power}
use Rattle.field.specs.inner.Table.{LogarithmPost}
use Rattle.field.proofs.Generator.{doublings, doublings_at}
use Rattle.field.proofs.Laws.{power_two}

doubled_at : (t : List ℕ) → T (follows double 1 t) → (i : ℕ) → i < length t → get_or t i 0 ≡ doubled i 1
unfolding doubled
doubled_at t p zero h = first double 1 t p h
doubled_at t p (suc i) h = next double 1 t p i h ∙ ap double (doubled_at t p i (le_of_lt h))

pub power_at : (t : List ℕ) → T (follows double 1 t) → (i : ℕ) → i < length t → get_or t i 0 ≡ power 2 i
power_at t p i h = doubled_at t p i h ∙ sym (power_two i)

-- i is below 255, and place i of the table t has a, unless a is 0
abbrev pub is_logarithm : List ℕ → ℕ → ℕ → Bool
is_logarithm t a i = ltb i 255 && (eqb a 0 || eqb (get_or t i 0) a)

pub logarithm_at : (l : List ℕ) → T (passes (is_logarithm (doublings 255 1)) 0 l) → (a : ℕ) → a < length l → LogarithmPost a (get_or l a 0)
logarithm_at l p a h = of (get_or l a 0) (at (is_logarithm (doublings 255 1)) l p a h)
  where
    of : (i : ℕ) → T (is_logarithm (doublings 255 1) a i) → LogarithmPost a i
    of i t =
        let least = ltb→lt i 255 (and_left (ltb i 255) (eqb a 0 || eqb (get_or (doublings 255 1) i 0) a) t) in
        record {
          small = least;
          exponent = λ n. power_two i
              ∙ sym (doublings_at 255 1 i least)
              ∙ eqb→eq (get_or (doublings 255 1) i 0) a
              (rw (ne_eqb a 0 n) at (and_right (ltb i 255) (eqb a 0 || eqb (get_or (doublings 255 1) i 0) a) t));
        }

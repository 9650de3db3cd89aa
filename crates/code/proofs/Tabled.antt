-- The table of the multiples of an element: its rows, and the four that make up a byte's multiple.
use Prim.Native.Nat.{ℕ, zero, suc, ◌+◌, ◌*◌, ◌/◌, ◌%◌, ◌^◌, ◌<◌}
use mathlib.Core.Path.{◌≡◌, sym, ap, ap₂, ◌∙◌}
use mathlib.Core.List.{List, [], ◌∷◌}
use native.Mathlib.Decide.{ℕ_discrete}
use native.Mathlib.Omega.{arith}
use native.Mathlib.Nat.{zero-mul}
use lib.ListN.{get_or}
use lib.Bits.{xor_shifted}
use Rattle.field.specs.Field.{plus, times, double, doubled}
use Rattle.field.proofs.Laws.{times_plus_left, times_zero_left, times_one_left, times_doubled}
use Rattle.code.specs.inner.Doubles.{ByDoublesPre}
use Rattle.code.specs.inner.Table.{place, Ready, PlacePost, Rows}
use Rattle.code.proofs.Digits.{doublings}
use Rattle.code.proofs.Written.{written, found, length_written, written_here, written_there}

-- what holds of 0 to 3 holds of all below 4
four : (P : ℕ → Type 0) → P 0 → P 1 → P 2 → P 3 → (v : ℕ) → v < 4 → P v
four P a b c d zero h = a
four P a b c d (suc zero) h = b
four P a b c d (suc (suc zero)) h = c
four P a b c d (suc (suc (suc zero))) h = d
four P a b c d (suc (suc (suc (suc v)))) h = absurd (omega arith)

-- ---- the multiples of a byte, of its doublings

by_double : (i x : ℕ) → x < 256 → times (doubled i 1) x ≡ doubled i x
by_double i x h = times_doubled i 1 x ∙ ap (doubled i) (times_one_left x h)

by_both : (i x : ℕ) → x < 256 → times (plus (doubled i 1) (doubled (suc i) 1)) x ≡ plus (doubled i x) (doubled (suc i) x)
by_both i x h = times_plus_left (doubled i 1) (doubled (suc i) 1) x ∙ ap₂ plus (by_double i x h) (by_double (suc i) x h)

-- the rows that are written
unfoldable pub rows : List ℕ
rows = 15 ∷ 14 ∷ 13 ∷ 11 ∷ 10 ∷ 9 ∷ 7 ∷ 6 ∷ 5 ∷ 3 ∷ 2 ∷ 1 ∷ []

module _ (x x1 x2 x3 x4 x5 x6 x7 : ℕ) where
  -- and what is
  unfoldable pub multiple : ℕ → ℕ
  multiple n =
      get_or
      (0 ∷ x ∷ x1 ∷ plus x x1 ∷ 0 ∷ x2 ∷ x3 ∷ plus x2 x3 ∷ 0 ∷ x4 ∷ x5 ∷ plus x4 x5 ∷ 0 ∷ x6 ∷ x7 ∷ plus x6 x7 ∷ [])
      n 0

  module _ (m : ByDoublesPre x x1 x2 x3 x4 x5 x6 x7) (hx : x < 256) (table : List ℕ) (r : Ready table) (j : ℕ) (hj : j < 64) where
    after : List ℕ
    after = written rows multiple j table

    at : (n : ℕ) → n < 16 → get_or after (64 * n + j) 0 ≡ found rows n (multiple n) (get_or table (64 * n + j) 0)
    unfolding after
    at n h = written_here multiple j table rows n (omega (arith, r.size))

    Row : ℕ → ℕ → Type 0
    Row d v = get_or after (place d v j) 0 ≡ times (v * 4 ^ d) x

    here : (d : ℕ) → d < 4 → (v : ℕ) → v < 4 → Row d v
    unfolding Row rows multiple found doubled double ℕ_discrete
    here =
        let d = doublings m in
        four (λ q. (v : ℕ) → v < 4 → Row q v)
        (four (Row 0)
        (at 0 (omega arith) ∙ r.clear 0 j (omega arith) hj ∙ sym (times_zero_left x))
        (at 1 (omega arith) ∙ sym (by_double 0 x hx))
        (at 2 (omega arith) ∙ d.one ∙ sym (by_double 1 x hx))
        (at 3 (omega arith) ∙ ap (plus x) d.one ∙ sym (by_both 0 x hx)))
        (four (Row 1)
        (at 4 (omega arith) ∙ r.clear 1 j (omega arith) hj ∙ sym (times_zero_left x))
        (at 5 (omega arith) ∙ d.two ∙ sym (by_double 2 x hx))
        (at 6 (omega arith) ∙ d.three ∙ sym (by_double 3 x hx))
        (at 7 (omega arith) ∙ ap₂ plus d.two d.three ∙ sym (by_both 2 x hx)))
        (four (Row 2)
        (at 8 (omega arith) ∙ r.clear 2 j (omega arith) hj ∙ sym (times_zero_left x))
        (at 9 (omega arith) ∙ d.four ∙ sym (by_double 4 x hx))
        (at 10 (omega arith) ∙ d.five ∙ sym (by_double 5 x hx))
        (at 11 (omega arith) ∙ ap₂ plus d.four d.five ∙ sym (by_both 4 x hx)))
        (four (Row 3)
        (at 12 (omega arith) ∙ r.clear 3 j (omega arith) hj ∙ sym (times_zero_left x))
        (at 13 (omega arith) ∙ d.six ∙ sym (by_double 6 x hx))
        (at 14 (omega arith) ∙ d.seven ∙ sym (by_double 7 x hx))
        (at 15 (omega arith) ∙ ap₂ plus d.six d.seven ∙ sym (by_both 6 x hx)))

    there : (d v i : ℕ) → i < 64 → (i ≡ j → ⊥) → get_or after (place d v i) 0 ≡ get_or table (place d v i) 0
    unfolding after
    there d v i hi a =
        let n : place d v i ≡ 64 * (4 * d + v) + i = omega arith in
        rw n (written_there multiple j table rows (4 * d + v) i hi hj a)

    clear : (d i : ℕ) → d < 4 → i < 64 → get_or after (place d 0 i) 0 ≡ 0
    unfolding Row
    clear d i hd hi = elim (ℕ_discrete i j) as (λ _. get_or after (place d 0 i) 0 ≡ 0) [
      | yes e ↦ ap (λ n. get_or after (place d 0 n) 0) e ∙ here d hd 0 (omega arith) ∙ ap (λ n. times n x) (zero-mul (4 ^ d)) ∙ times_zero_left x
      | no a ↦ there d 0 i hi a ∙ r.clear d i hd hi
    ]

    pub placed : PlacePost table j x (written rows multiple j table)
    unfolding after Row
    placed =
        record {
          ready = record { size = length_written multiple j table rows ∙ r.size; clear = clear };
          here = λ d v hd hv. here d hd v hv;
          there = there;
        }

-- ---- an element's rows

pub rows_more : (x table after : List ℕ) (j : ℕ) → j < 64 → Rows j x table → PlacePost table j (get_or x j 0) after → Rows (j + 1) x after
rows_more x table after j hj h p d v i hd hv hi = elim (ℕ_discrete i j) as (λ _. get_or after (place d v i) 0 ≡ times (v * 4 ^ d) (get_or x i 0)) [
  | yes e ↦ rw e (p.here d v hd hv)
  | no a ↦ p.there d v i (omega arith) a ∙ h d v i hd hv (omega arith)
]

-- ---- any byte's multiple, of four rows

-- a byte by its digits to base 4
by_four : (c : ℕ) → c < 256 → plus (plus (plus (c / 64 * 64) (c / 16 % 4 * 16)) (c / 4 % 4 * 4)) (c % 4) ≡ c
by_four c h =
    let high : plus (c / 64 * 64) (c / 16 % 4 * 16) ≡ c / 16 * 16 = xor_shifted (c / 64) 6 (c / 16 % 4 * 16) (omega arith) ∙ omega arith in
    let upper : plus (c / 16 * 16) (c / 4 % 4 * 4) ≡ c / 4 * 4 = xor_shifted (c / 16) 4 (c / 4 % 4 * 4) (omega arith) ∙ omega arith in
    rw (high, upper) (xor_shifted (c / 4) 2 (c % 4) (omega arith) ∙ omega arith)

-- what the table has for c at byte j
unfoldable pub chosen : ℕ → List ℕ → ℕ → ℕ
chosen c table j =
    plus
    (plus (plus (get_or table (768 + 64 * (c / 64) + j) 0) (get_or table (512 + 64 * (c / 16 % 4) + j) 0)) (get_or table (256 + 64 * (c / 4 % 4) + j) 0))
    (get_or table (64 * (c % 4) + j) 0)

pub chosen_times : (x table : List ℕ) (e : ℕ) → Rows e x table → (c j : ℕ) → c < 256 → j < e → chosen c table j ≡ times c (get_or x j 0)
unfolding chosen
chosen_times x table e h c j hc hj =
    ap₂ plus
    (ap₂ plus
    (ap₂ plus (h 3 (c / 64) j (omega arith) (omega arith) hj) (h 2 (c / 16 % 4) j (omega arith) (omega arith) hj))
    (h 1 (c / 4 % 4) j (omega arith) (omega arith) hj))
    (ap (λ n. get_or table n 0) (omega arith) ∙ h 0 (c % 4) j (omega arith) (omega arith) hj ∙ ap (λ n. times n b) (omega arith))
    ∙ sym
    (times_plus_left (plus (plus (c / 64 * 64) (c / 16 % 4 * 16)) (c / 4 % 4 * 4)) (c % 4) b
    ∙ ap (λ n. plus n (times (c % 4) b))
    (times_plus_left (plus (c / 64 * 64) (c / 16 % 4 * 16)) (c / 4 % 4 * 4) b
    ∙ ap (λ n. plus n (times (c / 4 % 4 * 4) b)) (times_plus_left (c / 64 * 64) (c / 16 % 4 * 16) b)))
    ∙ ap (λ n. times n b) (by_four c hc)
  where
    b : ℕ
    b = get_or x j 0

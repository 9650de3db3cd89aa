-- The value of few rows at a server, and that it is the element.
use Prim.Native.Nat.{ℕ, ◌+◌, ◌*◌, ◌-◌, ◌<◌}
use mathlib.Core.Path.{◌≡◌, refl, sym, ap, ap₂, ◌∙◌}
use mathlib.Core.List.{List, [], ◌∷◌}
use native.Mathlib.Omega.{arith}
use lib.ListN.{length, get_or, take, drop}
use lib.Seq.{get_or-drop, get_or-take}
use Rattle.config.specs.declared.Config.{Config}
use Rattle.field.specs.Field.{plus, times}
use Rattle.field.proofs.Laws.{plus-zero, times_zero_right}
use Rattle.laws.specs.Bytes.{Bytes, tabulate}
use Rattle.laws.proofs.Bytes.{tabulate_cong}
use Rattle.code.specs.Element.{byte_field, element, element_byte}
use Rattle.code.specs.Polynomial.{value}
use Rattle.code.specs.inner.Calls.{FewPre}
use Rattle.code.specs.inner.Row.{value_at}
use Rattle.code.proofs.Decoding.{column, element_value}

-- ---- a step of Horner's rule

pub last_row : (x s : ℕ) → x ≡ value byte_field (x ∷ []) s
unfolding value
last_row x s = sym (ap (plus x) (times_zero_right s) ∙ plus-zero x)

pub row_before : (s x r t : ℕ) (p : List ℕ) → r ≡ times s t → t ≡ value byte_field p s → plus x r ≡ value byte_field (x ∷ p) s
unfolding value
row_before s x r t p e h = ap (plus x) (e ∙ ap (times s) h)

-- ---- rows of a board, as they are lent

row_byte : (board : List ℕ) (at to e i j : ℕ) → at ≡ i * e → to ≡ at + e → j < e
    → get_or (take (to - at) (drop at board)) j 0 ≡ get_or board (i * e + j) 0
row_byte board at to e i j start end h =
    get_or-take (to - at) (drop at board) j 0 (omega arith) ∙ get_or-drop at board j 0 ∙ ap (λ n. get_or board (n + j) 0) start

module _ (cfg : Config) (board : List ℕ) (s part : ℕ) (pre : FewPre cfg (length board) s part) where
  abbrev e : ℕ
  e = cfg.e

  server : s < 8
  server = omega (arith, pre.asked.server_high, pre.few_servers)

  -- bytes that are the values of a board's columns are the element
  of_column : Bytes board → (n : ℕ) → cfg.k ≡ n → (f : ℕ → ℕ)
      → ((j : ℕ) → j < e → f j ≡ value byte_field (column n e board j) s) → tabulate part f ≡ element cfg board s
  unfolding element
  of_column b n is f h =
      ap (λ m. tabulate m f) pre.asked.part_length
      ∙ tabulate_cong e f (element_byte cfg board s)
      (λ j l. h j l ∙ ap (λ m. value byte_field (column m e board j) s) (sym is) ∙ sym (element_value cfg board b s j (omega (arith, server))))

  module _ (b : Bytes board) where
    pub two_element : cfg.k ≡ 2
        → tabulate part (value_at (take (e - 0) (drop 0 board) ∷ take (e + e - e) (drop e board) ∷ []) s) ≡ element cfg board s
    unfolding value_at tabulate
    two_element is =
        of_column b 2 is (value_at (take (e - 0) (drop 0 board) ∷ take (e + e - e) (drop e board) ∷ []) s)
        (λ j l. ap₂ (λ x y. value byte_field (x ∷ y ∷ []) s)
        (row_byte board 0 e e 0 j (omega arith) (omega arith) l)
        (row_byte board e (e + e) e 1 j (omega arith) refl l))

    pub three_element : cfg.k ≡ 3
        → tabulate part
        (value_at (take (e - 0) (drop 0 board) ∷ take (e + e - e) (drop e board) ∷ take (e + e + e - (e + e)) (drop (e + e) board) ∷ []) s)
        ≡ element cfg board s
    unfolding value_at tabulate
    three_element is =
        of_column b 3 is
        (value_at (take (e - 0) (drop 0 board) ∷ take (e + e - e) (drop e board) ∷ take (e + e + e - (e + e)) (drop (e + e) board) ∷ []) s)
        (λ j l. ap₂ (λ x y. value byte_field (x ∷ y) s)
        (row_byte board 0 e e 0 j (omega arith) (omega arith) l)
        (ap₂ (λ x y. x ∷ y ∷ [])
        (row_byte board e (e + e) e 1 j (omega arith) refl l)
        (row_byte board (e + e) (e + e + e) e 2 j (omega arith) refl l)))

    pub four_element : cfg.k ≡ 4
        → tabulate part
        (value_at
        (take (e - 0) (drop 0 board)
        ∷ take (e + e - e) (drop e board)
        ∷ take (e + e + e - (e + e)) (drop (e + e) board)
        ∷ take (e + e + e + e - (e + e + e)) (drop (e + e + e) board)
        ∷ [])
        s)
        ≡ element cfg board s
    unfolding value_at tabulate
    four_element is =
        of_column b 4 is
        (value_at
        (take (e - 0) (drop 0 board)
        ∷ take (e + e - e) (drop e board)
        ∷ take (e + e + e - (e + e)) (drop (e + e) board)
        ∷ take (e + e + e + e - (e + e + e)) (drop (e + e + e) board)
        ∷ [])
        s)
        (λ j l. ap₂ (λ x y. value byte_field (x ∷ y) s)
        (row_byte board 0 e e 0 j (omega arith) (omega arith) l)
        (ap₂ (λ x y. x ∷ y)
        (row_byte board e (e + e) e 1 j (omega arith) refl l)
        (ap₂ (λ x y. x ∷ y ∷ [])
        (row_byte board (e + e) (e + e + e) e 2 j (omega arith) refl l)
        (row_byte board (e + e + e) (e + e + e + e) e 3 j (omega arith) refl l))))

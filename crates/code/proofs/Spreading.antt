-- A board to whose rows an element is added, row by row.
use Prim.Native.Nat.{ℕ, ◌+◌, ◌*◌, ◌/◌, ◌%◌, ◌<◌, ◌≤◌}
use mathlib.Core.Path.{◌≡◌, sym, ap, ap₂, ◌∙◌}
use mathlib.Core.List.{List, [], ◌++◌}
use native.Mathlib.Omega.{arith}
use native.Mathlib.Nat.{mul-le-mul}
use lib.Arith.{digits_div, digits_mod}
use lib.ListN.{length, get_or, take, drop}
use Rattle.field.specs.Field.{plus, times}
use Rattle.laws.specs.Bytes.{tabulate}
use Rattle.code.specs.inner.Row.{added}
use Rattle.code.specs.inner.Table.{SpreadPre, spread}
use Rattle.code.proofs.Filled.{filled, filled_none, filled_all, filled_rest, turn_part}
use Rattle.laws.proofs.Bytes.{tabulate_cong}
use Rattle.code.proofs.Lent.{lent_row, lent_row_at, lent_row_length}
use Rattle.laws.proofs.Parts.{part_fits}

-- byte m of the board, with its row's coefficient times x
unfoldable pub each : List (List ℕ) → ℕ → List ℕ → List ℕ → ℕ → ℕ
each rows r x board m = plus (get_or board m 0) (times (get_or (get_or rows (m / length x) []) r 0) (get_or x (m % length x) 0))

module _ (k r : ℕ) (x table board : List ℕ) (h : SpreadPre k r x table board) where
  -- a row lies within the board, which is short
  pub row_fits : (i : ℕ) → i < k → (i * length x + length x ≤ k * length x) × (k * length x ≤ 1024) × (i < 16)
  row_fits i l = omega (arith, part_fits i k (length x) l, mul-le-mul h.k_high h.e_high, h.k_high)

  module _ (rows : List (List ℕ)) where
    pub spread_none : board ≡ filled (each rows r x board) (0 * length x) board
    spread_none =
        filled_none (each rows r x board) board ∙ ap (λ n. filled (each rows r x board) n board) (omega arith)

    pub spread_more : (i n : ℕ) (now row : List ℕ) → i < k → length now ≡ k * length x → n ≡ length x
        → now ≡ filled (each rows r x board) (i * length x) board
        → row ≡ added (lent_row (length x) now i) (get_or (get_or rows i []) r 0) x
        → take (i * length x) now ++ (row ++ drop n (drop (i * length x) now)) ≡ filled (each rows r x board) ((i + 1) * length x) board
    unfolding added each
    spread_more i n now row l ln e hn hr =
        turn_part (each rows r x board) (i * length x) (length x) n board now row hn inside e
        (hr
        ∙ ap (λ n. tabulate n (λ j. plus (get_or (lent_row (length x) now i) j 0) (times c (get_or x j 0))))
        (lent_row_length k (length x) i now l (omega arith))
        ∙ tabulate_cong (length x)
        (λ j. plus (get_or (lent_row (length x) now i) j 0) (times c (get_or x j 0)))
        (λ j. each rows r x board (i * length x + j))
        (λ j lj. ap₂ plus (as_it_was j lj)
        (ap₂ (λ a b. times (get_or (get_or rows a []) r 0) (get_or x b 0)) (sym (digits_div i lj)) (sym (digits_mod i lj)))))
        ∙ ap (λ n. filled (each rows r x board) n board) (omega arith)
      where
        c : ℕ
        c = get_or (get_or rows i []) r 0

        inside : i * length x + length x ≤ length board
        inside = omega (arith, h.size, row_fits i l)

        as_it_was : (j : ℕ) → j < length x → get_or (lent_row (length x) now i) j 0 ≡ get_or board (i * length x + j) 0
        as_it_was j lj =
            lent_row_at (length x) i j now lj
            ∙ ap (λ b. get_or b (i * length x + j) 0) hn
            ∙ filled_rest (each rows r x board) (i * length x) (i * length x + j) board 0 (omega arith) (omega (arith, inside))

    pub spread_all : (i : ℕ) (now : List ℕ) → i ≡ k → now ≡ filled (each rows r x board) (i * length x) board → now ≡ spread rows r x board
    unfolding spread each
    spread_all i now e hn =
        hn ∙ ap (λ n. filled (each rows r x board) n board) (ap (λ n. n * length x) e ∙ sym h.size)
        ∙ filled_all (each rows r x board) (length board) board (omega arith)

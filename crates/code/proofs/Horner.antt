-- Horner's rule over the rows of a board, from the last to the first: each step multiplies by s and adds a row.
use Prim.Native.Nat.{ℕ, suc, ◌+◌, ◌*◌, ◌<◌, ◌≤◌}
use mathlib.Core.Path.{◌≡◌, sym, ap, ap₂, ◌∙◌}
use mathlib.Core.List.{List}
use native.Mathlib.Omega.{arith}
use lib.ListN.{length, get_or, drop, drop_of_length-le}
use lib.Seq.{ext_get_or}
use Rattle.config.specs.declared.Config.{Config}
use Rattle.field.specs.Field.{plus, times}
use Rattle.field.proofs.Laws.{plus-zero, times_zero_right}
use Rattle.laws.specs.Bytes.{tabulate, Bytes}
use Rattle.code.specs.Polynomial.{value}
use Rattle.code.specs.Element.{byte_field, element, element_byte}
use Rattle.code.specs.inner.Row.{stepped}
use Rattle.code.proofs.Decoding.{column, element_value}
use Rattle.code.proofs.Lent.{lent_row, lent_row_at, lent_row_length}
use Rattle.laws.proofs.Bytes.{length_tabulate, get_d_tabulate, tabulate_cong}
use Rattle.code.proofs.Value.{value_drop}

-- the value, at s, of the rows from i on
abbrev pub rows : ℕ → ℕ → List ℕ → ℕ → ℕ → List ℕ
rows k e board s i = tabulate e (λ j. value byte_field (drop i (column k e board j)) s)

module _ (k e : ℕ) (board : List ℕ) (s : ℕ) where
  byte : (i j : ℕ) → i < k
      → value byte_field (drop i (column k e board j)) s
      ≡ plus (get_or board (i * e + j) 0) (times s (value byte_field (drop (suc i) (column k e board j)) s))
  byte i j h =
      value_drop byte_field (column k e board j) i s (rw length_tabulate h)
      ∙ ap (λ c. plus c (times s (value byte_field (drop (suc i) (column k e board j)) s)))
      (get_d_tabulate k (λ a. get_or board (a * e + j) 0) i 0 h)

  -- the last row alone
  pub row_last : (i : ℕ) → suc i ≡ k → k * e ≤ length board → lent_row e board i ≡ rows k e board s i
  unfolding value
  row_last i is room =
      let low : i < k = omega arith in
      ext_get_or 0 (lent_row e board i) (rows k e board s i)
      (lent_row_length k e i board low room ∙ sym (length_tabulate e (λ j. value byte_field (drop i (column k e board j)) s)))
      (λ j l. let m : j < e = omega (arith, lent_row_length k e i board low room) in
      lent_row_at e i j board m
      ∙ sym (get_d_tabulate e (λ a. value byte_field (drop i (column k e board a)) s) j 0 m
      ∙ byte i j low
      ∙ ap (λ q. plus (get_or board (i * e + j) 0) (times s (value byte_field q s)))
      (drop_of_length-le (column k e board j) {i = suc i} (rw length_tabulate (omega arith)))
      ∙ ap (plus (get_or board (i * e + j) 0)) (times_zero_right s)
      ∙ plus-zero (get_or board (i * e + j) 0)))

  -- one row more
  pub row_step : (i : ℕ) → i < k → stepped (rows k e board s (suc i)) s (lent_row e board i) ≡ rows k e board s i
  unfolding stepped
  row_step i h =
      ap (λ m. tabulate m (λ j. plus (get_or (lent_row e board i) j 0) (times s (get_or (rows k e board s (suc i)) j 0))))
      (length_tabulate e (λ j. value byte_field (drop (suc i) (column k e board j)) s))
      ∙ tabulate_cong e
      (λ j. plus (get_or (lent_row e board i) j 0) (times s (get_or (rows k e board s (suc i)) j 0)))
      (λ j. value byte_field (drop i (column k e board j)) s)
      (λ j l. ap₂ (λ a b. plus a (times s b))
      (lent_row_at e i j board l)
      (get_d_tabulate e (λ a. value byte_field (drop (suc i) (column k e board a)) s) j 0 l)
      ∙ sym (byte i j (omega arith)))

-- all rows are the element
pub row_all : (cfg : Config) (board : List ℕ) (s : ℕ) → Bytes board → s < 256 → rows cfg.k cfg.e board s 0 ≡ element cfg board s
unfolding element
row_all cfg board s b h =
    tabulate_cong cfg.e (λ j. value byte_field (column cfg.k cfg.e board j) s) (element_byte cfg board s)
    (λ j l. sym (element_value cfg board b s j h))

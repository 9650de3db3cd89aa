-- Rows that are laid one after the other make up a buffer, and those that the inverse combines of k elements the board.
use Prim.Native.Nat.{ℕ, zero, suc, ◌+◌, ◌*◌, ◌-◌, ◌/◌, ◌%◌, ◌<◌, ◌≤◌}
use mathlib.Core.Path.{◌≡◌, refl, sym, ap, ap₂, subst, ◌∙◌}
use mathlib.Core.List.{List, []}
use native.Mathlib.Nat.{div-lt_iff_lt-mul, mod-lt, mul-le-mul_right}
use native.Mathlib.Omega.{arith}
use lib.Arith.{digits_div, digits_mod}
use lib.ListN.{length, get_or, take, drop}
use lib.Seq.{get_or-take, length-take-le}
use Rattle.config.specs.declared.Config.{Config}
use Rattle.config.specs.Config.{board_length}
use Rattle.field.specs.Field.{times}
use Rattle.field.proofs.Laws.{times_comm}
use Rattle.laws.specs.Bytes.{tabulate, Bytes}
use Rattle.laws.specs.Parts.{over}
use Rattle.laws.proofs.Bytes.{tabulate_cong}
use Rattle.laws.proofs.Parts.{over_back, part_fits}
use Rattle.code.specs.Polynomial.{sum, lagrange}
use Rattle.code.specs.Element.{byte_field}
use Rattle.code.specs.Laid.{laid}
use Rattle.code.specs.inner.Calls.{DecodePre}
use Rattle.code.specs.inner.Choice.{square_of}
use Rattle.code.specs.inner.Combine.{combination}
use Rattle.code.specs.inner.Lanes.{InvertPost}
use Rattle.code.specs.inner.Rows.{RowsPre, combined}
use Rattle.code.proofs.Filled.{filled, filled_all, filled_none, turn_part}
use Rattle.code.proofs.Numbers.{lagrange_lt}
use Rattle.code.proofs.Rising as rise
use Rattle.code.proofs.Sums.{sum_cong}

-- rows of e bytes, one after the other
rows_laid : (h : ℕ → ℕ → ℕ) (e t : ℕ) (buffer : List ℕ) → t * e ≤ length buffer
    → laid (λ r. tabulate e (h r)) e 0 e t buffer ≡ filled (λ m. h (m / e) (m % e)) (t * e) buffer
unfolding laid
rows_laid h e zero buffer room = filled_none (λ m. h (m / e) (m % e)) buffer ∙ ap (λ n. filled (λ m. h (m / e) (m % e)) n buffer) (omega arith)
rows_laid h e (suc t) buffer room =
    ap (λ n. over n e (tabulate e (h t)) now) start
    ∙ sym (over_back (t * e) e (tabulate e (h t)) now)
    ∙ turn_part (λ m. h (m / e) (m % e)) (t * e) e e buffer now (tabulate e (h t)) (rows_laid h e t buffer (omega (arith, fits))) (omega (arith, fits)) refl
    (tabulate_cong e (h t) (λ j. h ((t * e + j) / e) ((t * e + j) % e)) (λ j l. sym (ap₂ h (digits_div t l) (digits_mod t l))))
    ∙ ap (λ n. filled (λ m. h (m / e) (m % e)) n buffer) (omega arith)
  where
    now : List ℕ
    now = laid (λ r. tabulate e (h r)) e 0 e t buffer

    start : 0 + t * e ≡ t * e
    start = omega arith

    fits : t * e + e ≤ suc t * e
    fits = part_fits t (suc t) e (omega arith)

-- the coefficients of the inverse are bytes
inverse_bytes : (cfg : Config) (servers : List ℕ) (elements buffer : ℕ) → DecodePre cfg servers elements buffer → (rows : List (List ℕ))
    → InvertPost cfg.k servers rows → (t i : ℕ) → t < cfg.k → i < cfg.k → square_of rows t i < 256
inverse_bytes cfg servers elements buffer pre rows inverse t i ht hi =
    subst (λ n. n < 256)
    (sym (inverse t i ht hi ∙ ap (λ s. get_or (lagrange byte_field used s) t 0) (sym (get_or-take cfg.k servers i 0 hi))))
    (lagrange_lt used i t (rise.bytes_take cfg.n servers pre.rises (omega (arith, pre.valid.n_high)) cfg.k pre.enough))
  where
    used : List ℕ
    used = take cfg.k servers

-- what decoding asks, once the inverse is there
pub rows_asked : (cfg : Config) (servers : List ℕ) (elements buffer : ℕ) → DecodePre cfg servers elements buffer → (rows : List (List ℕ))
    → InvertPost cfg.k servers rows → RowsPre cfg rows elements buffer
rows_asked cfg servers elements buffer pre rows inverse =
    record {
      valid = pre.valid;
      enough = omega (arith, pre.elements-length, mul-le-mul_right cfg.e pre.enough);
      buffer_length = pre.buffer_length;
      bytes = inverse_bytes cfg servers elements buffer pre rows inverse;
    }

module _ (cfg : Config) (rows : List (List ℕ)) (elements : List ℕ) (buffer : ℕ) (pre : RowsPre cfg rows (length elements) buffer) where
  -- the elements that are used, as they are lent
  abbrev pub x : List ℕ
  x = take (cfg.k * cfg.e - 0) (drop 0 elements)

  pub x_length : length x ≡ board_length cfg
  x_length =
      let n : cfg.k * cfg.e - 0 ≡ board_length cfg = omega arith in
      ap (λ m. length (take m elements)) n ∙ length-take-le (board_length cfg) elements pre.enough

  term : Bytes elements → (t j i : ℕ) → t < cfg.k → j < cfg.e → i < cfg.k
      → times (get_or x (i * cfg.e + j) 0) (square_of rows t i) ≡ times (square_of rows t i) (get_or elements (i * cfg.e + j) 0)
  term b t j i ht hj hi =
      ap (λ n. times n (square_of rows t i))
      (get_or-take (cfg.k * cfg.e - 0) elements (i * cfg.e + j) 0 (omega (arith, part_fits i cfg.k cfg.e hi)))
      ∙ times_comm (get_or elements (i * cfg.e + j) 0) (square_of rows t i) (b (i * cfg.e + j)) (pre.bytes t i ht hi)

  -- combinations that are laid as rows
  pub rows_combined : Bytes elements → (before : List ℕ) → length before ≡ board_length cfg
      → laid (λ t. combination cfg.k cfg.e x (square_of rows t)) cfg.e 0 cfg.e cfg.k before ≡ combined cfg.k cfg.e rows elements cfg.k
  unfolding combination combined
  rows_combined b before size =
      rows_laid (λ t j. sum byte_field cfg.k (λ i. times (get_or x (i * cfg.e + j) 0) (square_of rows t i))) cfg.e cfg.k before (omega arith)
      ∙ filled_all (λ m. sum byte_field cfg.k (λ i. times (get_or x (i * cfg.e + m % cfg.e) 0) (square_of rows (m / cfg.e) i)))
      (cfg.k * cfg.e) before (omega arith)
      ∙ tabulate_cong (cfg.k * cfg.e)
      (λ m. sum byte_field cfg.k (λ i. times (get_or x (i * cfg.e + m % cfg.e) 0) (square_of rows (m / cfg.e) i)))
      (λ m. sum byte_field cfg.k (λ i. times (get_or (get_or rows (m / cfg.e) []) i 0) (get_or elements (i * cfg.e + m % cfg.e) 0)))
      (λ m l. sum_cong byte_field cfg.k
      (λ i. times (get_or x (i * cfg.e + m % cfg.e) 0) (square_of rows (m / cfg.e) i))
      (λ i. times (get_or (get_or rows (m / cfg.e) []) i 0) (get_or elements (i * cfg.e + m % cfg.e) 0))
      (λ i h. term b (m / cfg.e) (m % cfg.e) i ((div-lt_iff_lt-mul pre.valid.e_low).1 l) (mod-lt m pre.valid.e_low) h))

-- A decoded board, as the elements are added to it.
use Prim.Native.Nat.{ℕ, suc, ◌+◌, ◌*◌, ◌/◌, ◌%◌, ◌≤◌}
use mathlib.Core.Path.{◌≡◌, refl, sym, ap, ap₂, ◌∙◌}
use mathlib.Core.List.{List, []}
use native.Mathlib.Nat.{div-lt_iff_lt-mul, mod-lt}
use native.Mathlib.Numerals.{add-one}
use lib.ListN.{length, get_or, take}
use lib.Seq.{get_or-take, length-take-le}
use Rattle.config.specs.declared.Config.{Config}
use Rattle.config.specs.Config.{board_length}
use Rattle.field.specs.Field.{plus, times}
use Rattle.laws.specs.Bytes.{tabulate}
use Rattle.code.specs.Polynomial.{sum, lagrange, interpolated}
use Rattle.code.specs.Element.{byte_field}
use Rattle.code.specs.Decoded.{decoded, decoded_byte}
use Rattle.code.specs.inner.Lanes.{InvertPost}
use Rattle.code.specs.inner.Row.{zeros}
use Rattle.code.specs.inner.Rows.{combined}
use Rattle.code.specs.inner.Table.{spread}
use Rattle.laws.proofs.Bytes.{length_tabulate, get_d_tabulate, tabulate_cong}
use Rattle.code.proofs.Lent.{lent_row, lent_row_at}
use Rattle.code.proofs.Sums.{sum_cong}

module _ (k e : ℕ) (rows : List (List ℕ)) (elements : List ℕ) where
  -- byte m of it
  abbrev byte : ℕ → ℕ → ℕ
  byte r m = sum byte_field r (λ t. times (get_or (get_or rows (m / e) []) t 0) (get_or elements (t * e + m % e) 0))

  pub combined_none : zeros (k * e) ≡ combined k e rows elements 0
  unfolding zeros combined sum
  combined_none = refl

  pub combined_length : (r : ℕ) → length (combined k e rows elements r) ≡ k * e
  unfolding combined
  combined_length r = length_tabulate (k * e) (byte r)

  combined_more : (r : ℕ) → 1 ≤ e → length (lent_row e elements r) ≡ e
      → spread rows r (lent_row e elements r) (combined k e rows elements r) ≡ combined k e rows elements (r + 1)
  unfolding spread combined sum
  combined_more r low size =
      ap₂ (λ n o. tabulate n (λ m. plus (get_or now m 0) (times (get_or (get_or rows (m / o) []) r 0) (get_or x (m % o) 0)))) (combined_length r) size
      ∙ tabulate_cong (k * e)
      (λ m. plus (get_or now m 0) (times (get_or (get_or rows (m / e) []) r 0) (get_or x (m % e) 0)))
      (byte (suc r))
      (λ m l. ap₂ (λ a b. plus a (times (get_or (get_or rows (m / e) []) r 0) b)) (get_d_tabulate (k * e) (byte r) m 0 l) (lent_row_at e r (m % e) elements (mod-lt m low)))
      ∙ ap (combined k e rows elements) (sym (add-one r))
    where
      now : List ℕ
      now = combined k e rows elements r

      x : List ℕ
      x = lent_row e elements r

  -- a loop's turn
  pub combined_turn : (r : ℕ) (now after : List ℕ) → 1 ≤ e → length (lent_row e elements r) ≡ e → now ≡ combined k e rows elements r
      → after ≡ spread rows r (lent_row e elements r) now → after ≡ combined k e rows elements (r + 1)
  combined_turn r now after low size hn ha = ha ∙ ap (spread rows r (lent_row e elements r)) hn ∙ combined_more r low size

-- by the inverse all k elements make the decoded board
pub combined_decoded : (cfg : Config) (servers elements : List ℕ) (rows : List (List ℕ)) → 1 ≤ cfg.e → cfg.k ≤ length servers
    → InvertPost cfg.k servers rows → combined cfg.k cfg.e rows elements cfg.k ≡ decoded cfg servers elements
unfolding combined decoded decoded_byte interpolated
combined_decoded cfg servers elements rows low enough v =
    tabulate_cong (board_length cfg)
    (λ m. sum byte_field cfg.k (λ r. times (get_or (get_or rows (m / cfg.e) []) r 0) (get_or elements (r * cfg.e + m % cfg.e) 0)))
    (λ m. interpolated byte_field used (λ r. get_or elements (r * cfg.e + m % cfg.e) 0) (m / cfg.e))
    (λ m l. sum_cong byte_field cfg.k
    (λ r. times (get_or (get_or rows (m / cfg.e) []) r 0) (get_or elements (r * cfg.e + m % cfg.e) 0))
    (λ r. times (get_or (lagrange byte_field used (get_or used r 0)) (m / cfg.e) 0) (get_or elements (r * cfg.e + m % cfg.e) 0))
    (λ r h. ap (λ x. times x (get_or elements (r * cfg.e + m % cfg.e) 0))
    (v (m / cfg.e) r ((div-lt_iff_lt-mul low).1 l) h ∙ ap (λ s. get_or (lagrange byte_field used s) (m / cfg.e) 0) (sym (get_or-take cfg.k servers r 0 h))))
    ∙ ap (λ n. sum byte_field n (λ r. times (get_or (lagrange byte_field used (get_or used r 0)) (m / cfg.e) 0) (get_or elements (r * cfg.e + m % cfg.e) 0)))
    (sym (length-take-le cfg.k servers enough)))
  where
    used : List ℕ
    used = take cfg.k servers

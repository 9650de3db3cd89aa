-- The rows of a board, copied to the front of zeros, and the table of their sums.
use Prim.Native.Nat.{ℕ, ◌+◌, ◌*◌, ◌-◌, ◌<◌, ◌≤◌}
use mathlib.Core.Path.{◌≡◌, sym, ap, ◌∙◌}
use mathlib.Core.List.{List, ◌++◌}
use native.Mathlib.Decide.{dec_lt}
use native.Mathlib.Omega.{arith}
use lib.ListN.{length, get_or, take, drop, replicate, length-replicate, get_or-replicate, get_or-append, get_or-eq_default}
use lib.Seq.{get_or-append-add, get_or-drop, take-length}
use Rattle.config.specs.declared.Config.{Config}
use Rattle.laws.specs.Bytes.{Bytes}
use Rattle.code.specs.inner.Combine.{Choices, CombinePre, EachPost, InPlaces}
use Rattle.code.specs.inner.Subsets.{FillPost, chosen}
use Rattle.code.specs.declared.combine.Places.{Places}
use Rattle.code.proofs.Asked.{board_small}
use Rattle.code.proofs.SubsetLaws.{same_chosen}

zeros_at : (n i : ℕ) → get_or (replicate {A = ℕ} n 0) i 0 ≡ 0
zeros_at n i = go (dec_lt i n)
  where
    go : Dec (i < n) → get_or (replicate {A = ℕ} n 0) i 0 ≡ 0
    go (yes l) = get_or-replicate {A = ℕ} n i 0 0 l
    go (no l) = get_or-eq_default (replicate {A = ℕ} n 0) 0 (omega (arith, length-replicate {A = ℕ} n 0))

-- n bytes of which the first are those of x, and the others 0
abbrev padded : List ℕ → ℕ → List ℕ
padded x n = take (length x) x ++ drop (length x) (replicate n 0)

padded_at : (x : List ℕ) (n i : ℕ) → get_or (padded x n) i 0 ≡ get_or x i 0
padded_at x n i = ap (λ l. get_or (l ++ drop (length x) (replicate n 0)) i 0) (take-length x) ∙ go (dec_lt i (length x))
  where
    go : Dec (i < length x) → get_or (x ++ drop (length x) (replicate n 0)) i 0 ≡ get_or x i 0
    go (yes l) = get_or-append x (drop (length x) (replicate n 0)) 0 i l
    go (no l) =
        let at : i ≡ length x + (i - length x) = omega arith in
        ap (λ m. get_or (x ++ drop (length x) (replicate n 0)) m 0) at
        ∙ get_or-append-add x (drop (length x) (replicate n 0)) (i - length x) 0
        ∙ get_or-drop (length x) (replicate n 0) (i - length x) 0
        ∙ zeros_at n (length x + (i - length x))
        ∙ sym (get_or-eq_default x 0 (omega arith))

-- the sums of the rows with the zeros are those of the rows
fill_rows : (e n : ℕ) (x table : List ℕ) → FillPost e (padded x n) table → FillPost e x table
fill_rows e n x table f =
    record {
      size = f.size;
      clear = f.clear;
      sums = λ g v j hg hv hj. f.sums g v j hg hv hj
          ∙ same_chosen v (λ m. get_or (padded x n) ((4 * g + m) * e + j) 0) (λ m. get_or x ((4 * g + m) * e + j) 0)
          (padded_at x n ((4 * g + 0) * e + j)) (padded_at x n ((4 * g + 1) * e + j)) (padded_at x n ((4 * g + 2) * e + j)) (padded_at x n ((4 * g + 3) * e + j));
    }

module _ (cfg : Config) (x choices : List ℕ) (places : Places) (size : ℕ) (pre : CombinePre cfg x choices places size) where
  pub rows_small : length x ≤ 1024
  rows_small = omega (arith, pre.rows_length, board_small cfg pre.valid)

  -- from the table of these sums come the combinations of the rows
  pub combined : (table before after : List ℕ) → Bytes x → FillPost cfg.e (padded x 1024) table
      → EachPost cfg.k cfg.e choices table places before after → (c : ℕ → ℕ → ℕ) → Choices c choices
      → ((t i : ℕ) → t < places.count → i < cfg.k → c t i < 256) → InPlaces cfg.k cfg.e x c places before after
  combined table before after b f each c chosen bytes =
      each c x (omega (arith, pre.valid.k_high, pre.valid.n_high))
      (λ t h.
      record {
        fill = fill_rows cfg.e 1024 x table f;
        chosen = λ d g hd hg. chosen d g t hd hg (omega (arith, pre.each.count_high));
        bytes = b;
        coefficients = λ i l. bytes t i h l;
        none = λ i l. get_or-eq_default x 0 (omega (arith, pre.rows_length));
      })

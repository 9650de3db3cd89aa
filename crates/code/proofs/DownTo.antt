-- Down the rows of a board, as the encoder goes: where a row stands, and what the lent part then holds.
use Prim.Native.Nat.{ℕ, zero, suc, ◌+◌, ◌*◌, ◌-◌, ◌<◌, ◌≤◌, min}
use mathlib.Core.Path.{◌≡◌, sym, ap, ap₂, subst, ◌∙◌}
use mathlib.Core.List.{List, ◌++◌, append_assoc}
use native.Mathlib.Omega.{arith}
use native.Mathlib.Nat.{eq_of_mul-eq-mul_right, suc-mul, zero-mul}
use lib.ListN.{length, take, drop, length-append, length-drop, length-take, take-append-drop}
use lib.Seq.{drop_at, take_at, length-take-le}
use Rattle.laws.specs.Bytes.{Bytes}
use Rattle.laws.proofs.Bytes.{length_tabulate}
use Rattle.config.specs.declared.Config.{Config}
use Rattle.code.specs.Element.{byte_field, element}
use Rattle.code.specs.Polynomial.{value}
use Rattle.code.specs.inner.Calls.{EncodePre}
use Rattle.code.specs.inner.Row.{stepped}
use Rattle.code.proofs.Decoding.{column}
use Rattle.code.proofs.Horner.{row_all, row_last, row_step, rows}
use Rattle.code.proofs.Lent.{lent_row}

-- row i stands at `at`, and the part holds the value, at s, of the rows from i on
pub record DownTo (cfg : Config) (board : List ℕ) (s : ℕ) (part : List ℕ) (at : ℕ) : Type 0 where
  pub i : ℕ
  pub low : i < cfg.k
  pub place : at ≡ i * cfg.e
  pub holds : part ≡ rows cfg.k cfg.e board s i

not_first : (e i at : ℕ) → at ≡ i * e → 0 < at → 0 < i
not_first e zero at p h = absurd (omega (arith, zero-mul e))
not_first e (suc i) at p h = omega arith

-- the rest of the board is still to be taken
pub record Left (cfg : Config) (board : List ℕ) (s : ℕ) (part rest : List ℕ) : Type 0 where
  pub taken : List ℕ
  pub whole : board ≡ rest ++ taken
  pub down : DownTo cfg board s part (length rest)

-- the part keeps its length
pub down_long : (cfg : Config) (board : List ℕ) (s : ℕ) (part : List ℕ) (at : ℕ) → DownTo cfg board s part at → length part ≡ cfg.e
down_long cfg board s part at d =
    ap length d.holds ∙ length_tabulate cfg.e (λ j. value byte_field (drop d.i (column cfg.k cfg.e board j)) s)

module _ (cfg : Config) (board : List ℕ) (s room : ℕ) (h : EncodePre cfg (length board) s room) where
  -- ---- the last row
  abbrev last : ℕ
  last = cfg.k - 1

  one_more : cfg.k ≡ suc last
  one_more = omega (arith, h.valid.k_low)

  whole : length board ≡ last * cfg.e + cfg.e
  whole = h.board-length ∙ ap (λ n. n * cfg.e) one_more ∙ suc-mul last cfg.e

  last_place : length board - cfg.e ≡ last * cfg.e
  last_place = omega (arith, whole)

  -- there is one
  pub down_start : cfg.e ≤ length board
  down_start = omega (arith, whole)

  -- as it is lent to be copied
  abbrev last_row : List ℕ
  last_row = take (length board - (length board - cfg.e)) (drop (length board - cfg.e) board)

  pub down_last_lent : length last_row ≡ cfg.e
  down_last_lent =
      length-take (length board - (length board - cfg.e)) (drop (length board - cfg.e) board)
      ∙ omega (arith, length-drop (length board - cfg.e) board, down_start)

  -- the part takes it
  pub down_last : (part : List ℕ) → part ≡ last_row → DownTo cfg board s part (length board - cfg.e)
  down_last part is =
      let width : length board - (length board - cfg.e) ≡ last * cfg.e + cfg.e - last * cfg.e = omega (arith, whole) in
      record {
        i = last;
        low = omega arith;
        place = last_place;
        holds =
            is ∙ ap₂ (λ n a. take n (drop a board)) width last_place
            ∙ row_last cfg.k cfg.e board s last (sym one_more) (omega (arith, h.board-length));
      }

  -- the rows before it are left
  pub down_begin : (part : List ℕ) → DownTo cfg board s part (length board - cfg.e) → Left cfg board s part (take (length board - cfg.e) board)
  down_begin part d =
      record {
        taken = drop (length board - cfg.e) board;
        whole = sym (take-append-drop (length board - cfg.e) board);
        down = subst (DownTo cfg board s part) (sym (length-take-le (length board - cfg.e) board (omega arith))) d;
      }

  -- ---- the row before, which is cut off
  module _ (part all rest row : List ℕ) (l : Left cfg board s part all) (parted : all ≡ rest ++ row) (cut : length row ≡ min cfg.e (length all))
      (some : 0 < length all) where
    abbrev d : DownTo cfg board s part (length all)
    d = l.down

    abbrev before : ℕ
    before = d.i - 1

    next : d.i ≡ suc before
    next = omega (arith, not_first cfg.e d.i (length all) d.place some)

    low : before < cfg.k
    low = omega (arith, d.low, next)

    long : length all ≡ before * cfg.e + cfg.e
    long = d.place ∙ ap (λ n. n * cfg.e) next ∙ suc-mul before cfg.e

    -- it is whole
    pub down_whole : length row ≡ cfg.e
    down_whole = omega (arith, cut, long)

    next_place : length rest ≡ before * cfg.e
    next_place = omega (arith, length-append rest row, ap length parted, down_whole, long)

    whole_board : board ≡ rest ++ (row ++ l.taken)
    whole_board = l.whole ∙ ap (λ m. m ++ l.taken) parted ∙ append_assoc rest row l.taken

    row_is : row ≡ lent_row cfg.e board before
    row_is =
        sym (ap (take (before * cfg.e + cfg.e - before * cfg.e))
        (ap (drop (before * cfg.e)) whole_board ∙ drop_at rest (row ++ l.taken) (before * cfg.e) next_place)
        ∙ take_at row l.taken (before * cfg.e + cfg.e - before * cfg.e) (omega (arith, down_whole)))

    -- a step takes it
    pub down_next : (after : List ℕ) → after ≡ stepped part s row → Left cfg board s after rest
    down_next after is =
        record {
          taken = row ++ l.taken;
          whole = whole_board;
          down =
              record {
                i = before;
                low = low;
                place = next_place;
                holds =
                    is
                    ∙ ap₂ (λ p r. stepped p s r) (d.holds ∙ ap (rows cfg.k cfg.e board s) next) row_is
                    ∙ row_step cfg.k cfg.e board s before low;
              };
        }

  -- where all have been taken, the part holds the element
  pub down_end : (part rest : List ℕ) → Left cfg board s part rest → length rest ≡ 0 → Bytes board → s < 256 → part ≡ element cfg board s
  down_end part rest l none b byte =
      let first : l.down.i ≡ 0 = eq_of_mul-eq-mul_right cfg.e h.valid.e_low l.down.i 0 (sym l.down.place ∙ none ∙ sym (zero-mul cfg.e)) in
      l.down.holds ∙ ap (rows cfg.k cfg.e board s) first ∙ row_all cfg board s b byte

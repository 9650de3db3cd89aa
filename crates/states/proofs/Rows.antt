-- Parts of one length, one after the other: how many bytes they are, and which byte stands where; how a loop puts rows of 8 bytes one after the
-- other, and how one fills an array. Assumes nothing.
use mathlib.Core.Path.{◌≡◌, refl, sym, ◌∙◌, ap, ap₂}
use mathlib.Core.List.{List, [], ◌∷◌, ◌++◌, append_assoc, append-nil}
use Prim.Native.Nat.{ℕ, zero, suc, ◌+◌, ◌-◌, ◌*◌, ◌≤◌, ◌<◌}
use native.Mathlib.Nat.{add-zero}
use native.Mathlib.Numerals.{add-one}
use native.Mathlib.Omega.{arith}
use lib.ListN.{length, get_or, take, drop, set, length-append, length-set}
use lib.Seq.{get_or-append-add, length-take-le, take_all, take_at, take-suc-set}
use Rattle.laws.specs.Bytes.{joined, tabulate}
use Rattle.laws.proofs.Bytes.{Each, get_d_tabulate, joined_at, length_joined, length_tabulate, tabulate_append}
use Rattle.laws.proofs.Parts.{over_copied, over_length}

-- ---- parts of e bytes

module _ (e n : ℕ) (f : ℕ → List ℕ) (wide : (i : ℕ) → length (f i) ≡ e) where
  each_wide : Each e (tabulate n f)
  each_wide r h = ap length (get_d_tabulate n f r [] (omega (arith, h, length_tabulate n f))) ∙ wide r

  pub parts_long : length (joined (tabulate n f)) ≡ n * e
  parts_long = length_joined e (tabulate n f) each_wide ∙ ap (λ (k : ℕ). k * e) (length_tabulate n f)

  -- byte j of part i, behind k bytes
  pub part_byte : (first : List ℕ) (k : ℕ) → length first ≡ k → (i j at : ℕ) → i < n → j < e → at ≡ k + (i * e + j)
      → get_or (first ++ joined (tabulate n f)) at 0 ≡ get_or (f i) j 0
  part_byte first k long i j at hi hj is =
      let here : at ≡ length first + (i * e + j) = is ∙ ap (λ (m : ℕ). m + (i * e + j)) (sym long) in
      ap (λ (m : ℕ). get_or (first ++ joined (tabulate n f)) m 0) here
      ∙ get_or-append-add first (joined (tabulate n f)) (i * e + j) 0
      ∙ joined_at e (tabulate n f) each_wide i j (omega (arith, hi, length_tabulate n f)) hj
      ∙ ap (λ (l : List ℕ). get_or l j 0) (get_d_tabulate n f i [] hi)

-- one more part
more_joined : (i : ℕ) (f : ℕ → List ℕ) → joined (tabulate (suc i) f) ≡ joined (tabulate i f) ++ f i
unfolding joined tabulate
more_joined zero f = append-nil (f 0)
more_joined (suc i) f =
    ap (λ (l : List ℕ). f 0 ++ l) (more_joined i (λ j. f (suc j))) ∙ sym (append_assoc (f 0) (joined (tabulate i (λ j. f (suc j)))) (f (suc i)))

-- ---- a loop that puts rows of 8 bytes into a buffer of n: the first i rows stand

pub record Rows (f : ℕ → List ℕ) (n i : ℕ) (out : List ℕ) : Type 0 where
  pub stand : take (8 * i) out ≡ joined (tabulate i f)
  pub long : length out ≡ n

pub rows_none : (f : ℕ → List ℕ) (n : ℕ) (out : List ℕ) → length out ≡ n → Rows f n 0 out
unfolding joined tabulate
rows_none f n out long = record { stand = refl; long = long }

pub rows_more : (f : ℕ → List ℕ) (n i : ℕ) (out row ys : List ℕ) → Rows f n i out → row ≡ f i → length (f i) ≡ 8 → 8 * i + 8 ≤ n
    → ys ≡ take (length row) row ++ drop (length row) (take (8 * i + 8 - 8 * i) (drop (8 * i) out))
    → Rows f n (i + 1) (take (8 * i) out ++ (ys ++ drop (8 * i + 8 - 8 * i) (drop (8 * i) out)))
rows_more f n i out row ys rows is wide room filled =
    let eight : length row ≡ 8 = ap length is ∙ wide in
    let fits : 8 * i + 8 ≤ length out = omega (arith, rows.long) in
    let at = length-take-le (8 * i) out (omega arith) in
    let left = drop (8 * i + 8) out in
    rw (over_copied (8 * i) 8 row out ys eight fits filled)
    (record {
      stand =
          ap (take (8 * (i + 1))) (sym (append_assoc (take (8 * i) out) row left))
          ∙ take_at (take (8 * i) out ++ row) left (8 * (i + 1)) (length-append (take (8 * i) out) row ∙ omega arith)
          ∙ ap₂ (λ (a b : List ℕ). a ++ b) rows.stand is
          ∙ sym (more_joined i f)
          ∙ ap (λ (k : ℕ). joined (tabulate k f)) (sym (add-one i));
      long = over_length (8 * i) 8 row out eight fits ∙ rows.long;
    })

pub rows_all : (f : ℕ → List ℕ) (m i : ℕ) (out : List ℕ) → Rows f (8 * m) i out → i ≡ m → out ≡ joined (tabulate m f)
rows_all f m i out rows e =
    sym (take_all (8 * i) out (omega (arith, rows.long))) ∙ rows.stand ∙ ap (λ (k : ℕ). joined (tabulate k f)) e

-- ---- a loop that fills an array of n: the first i elements stand

module _ {A : Type 0} (f : ℕ → A) (n : ℕ) where
  pub record Begun (i : ℕ) (xs : List A) : Type 0 where
    pub stand : take i xs ≡ tabulate i f
    pub long : length xs ≡ n

  pub begun_none : (xs : List A) → length xs ≡ n → Begun 0 xs
  unfolding tabulate
  begun_none xs long = record { stand = refl; long = long }

  pub begun_more : (i : ℕ) (xs : List A) (x : A) → Begun i xs → i < n → x ≡ f i → Begun (i + 1) (set xs i x)
  unfolding tabulate
  begun_more i xs x b h e =
      record {
        stand =
            ap (λ (k : ℕ). take k (set xs i x)) (add-one i)
            ∙ take-suc-set xs i x (omega (arith, b.long))
            ∙ ap₂ (λ (l : List A) (y : A). l ++ (y ∷ [])) b.stand (e ∙ ap f (sym (add-zero i)))
            ∙ tabulate_append i 1 f;
        long = length-set xs i x ∙ b.long;
      }

  pub begun_all : (i : ℕ) (xs : List A) → Begun i xs → i ≡ n → xs ≡ tabulate n f
  begun_all i xs b e = sym (take_all i xs (omega (arith, b.long))) ∙ b.stand ∙ ap (λ (k : ℕ). tabulate k f) e

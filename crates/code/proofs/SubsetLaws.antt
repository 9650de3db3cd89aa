-- The sums of four rows: byte j of each, the rows of a group, and the groups of a table.
use Prim.Native.Nat.{ℕ, zero, suc, ◌+◌, ◌*◌, ◌-◌, ◌<◌, ◌≤◌}
use mathlib.Core.Path.{◌≡◌, refl, sym, ap, ◌∙◌}
use mathlib.Core.List.{List, [], ◌∷◌, ◌++◌}
use native.Mathlib.Decide.{ℕ_discrete, dec_lt}
use native.Mathlib.Omega.{arith}
use native.Mathlib.Nat.{zero-mul, one-mul, add-mul, mul_assoc, mul_comm}
use lib.ListN.{length, get_or, take, drop, replicate, length-replicate, get_or-replicate}
use lib.Seq.{get_or-take, get_or-drop}
use lib.Bits.{xor_zero_r, xor_zero_l}
use Rattle.laws.specs.Parts.{over}
use Rattle.laws.proofs.Parts.{over_lent, over_length, over_byte, over_byte_before, over_byte_after}
use Rattle.laws.proofs.Xor.{xor_assoc}
use Rattle.field.specs.Field.{plus}
use Rattle.code.specs.inner.Subsets.{chosen, Ready, PlacePost, Rows, GroupPost, FillPost}
use Rattle.code.proofs.Written.{written, found, length_written, written_here, written_there}

-- where row 0 starts
first : (i : ℕ) → 64 * 0 + i ≡ i
first i = omega arith

-- what makes a sum of what is chosen and of what is not
ruleset sums = (zero-mul, one-mul, xor_zero_r, xor_zero_l, xor_assoc)

-- the rows n to 1
unfoldable pub down : ℕ → List ℕ
down zero = []
down (suc n) = suc n ∷ down n

module _ (a b c d : ℕ) where
  -- what is written to row n
  unfoldable pub sum : ℕ → ℕ
  sum n =
      get_or
      (0 ∷ a ∷ b ∷ plus a b ∷ c ∷ plus a c ∷ plus b c ∷ plus (plus a b) c ∷ d ∷ plus a d ∷ plus b d ∷ plus (plus a b) d ∷ plus c d
      ∷ plus a (plus c d) ∷ plus b (plus c d) ∷ plus (plus a b) (plus c d) ∷ [])
      n 0

  abbrev row : ℕ → ℕ
  row m = get_or (a ∷ b ∷ c ∷ d ∷ []) m 0

  module _ (table : List ℕ) (r : Ready table) (j : ℕ) (hj : j < 64) where
    abbrev after : List ℕ
    after = written (down 15) sum j table

    at : (v : ℕ) → v < 16 → get_or after (64 * v + j) 0 ≡ found (down 15) v (sum v) (get_or table (64 * v + j) 0)
    at v h = written_here sum j table (down 15) v (omega (arith, r.size))

    here : (v : ℕ) → v < 16 → get_or after (64 * v + j) 0 ≡ chosen v row
    unfolding sum chosen down found ℕ_discrete
    here zero h = at 0 h ∙ ap (λ n. get_or table n 0) (first j) ∙ r.clear j hj ∙ simp sums
    here (suc zero) h = at 1 h ∙ simp sums
    here (suc (suc zero)) h = at 2 h ∙ simp sums
    here (suc (suc (suc zero))) h = at 3 h ∙ simp sums
    here (suc (suc (suc (suc zero)))) h = at 4 h ∙ simp sums
    here (suc (suc (suc (suc (suc zero))))) h = at 5 h ∙ simp sums
    here (suc (suc (suc (suc (suc (suc zero)))))) h = at 6 h ∙ simp sums
    here (suc (suc (suc (suc (suc (suc (suc zero))))))) h = at 7 h ∙ simp sums
    here (suc (suc (suc (suc (suc (suc (suc (suc zero)))))))) h = at 8 h ∙ simp sums
    here (suc (suc (suc (suc (suc (suc (suc (suc (suc zero))))))))) h = at 9 h ∙ simp sums
    here (suc (suc (suc (suc (suc (suc (suc (suc (suc (suc zero)))))))))) h = at 10 h ∙ simp sums
    here (suc (suc (suc (suc (suc (suc (suc (suc (suc (suc (suc zero))))))))))) h = at 11 h ∙ simp sums
    here (suc (suc (suc (suc (suc (suc (suc (suc (suc (suc (suc (suc zero)))))))))))) h = at 12 h ∙ simp sums
    here (suc (suc (suc (suc (suc (suc (suc (suc (suc (suc (suc (suc (suc zero))))))))))))) h = at 13 h ∙ simp sums
    here (suc (suc (suc (suc (suc (suc (suc (suc (suc (suc (suc (suc (suc (suc zero)))))))))))))) h = at 14 h ∙ simp sums
    here (suc (suc (suc (suc (suc (suc (suc (suc (suc (suc (suc (suc (suc (suc (suc zero))))))))))))))) h = at 15 h ∙ simp sums
    here (suc (suc (suc (suc (suc (suc (suc (suc (suc (suc (suc (suc (suc (suc (suc (suc v)))))))))))))))) h = absurd (omega arith)

    there : (v i : ℕ) → i < 64 → (i ≡ j → ⊥) → get_or after (64 * v + i) 0 ≡ get_or table (64 * v + i) 0
    there v i hi ne = written_there sum j table (down 15) v i hi hj ne

    clear : (i : ℕ) → i < 64 → get_or after i 0 ≡ 0
    unfolding chosen
    clear i hi = elim (ℕ_discrete i j) as (λ _. get_or after i 0 ≡ 0) [
      | yes e ↦ ap (λ n. get_or after n 0) (e ∙ sym (first j)) ∙ here 0 (omega arith) ∙ simp sums
      | no ne ↦ ap (λ n. get_or after n 0) (sym (first i)) ∙ there 0 i hi ne ∙ ap (λ n. get_or table n 0) (first i) ∙ r.clear i hi
    ]

    pub placed : PlacePost table j a b c d (written (down 15) sum j table)
    placed =
        record {
          ready = record { size = length_written sum j table (down 15) ∙ r.size; clear = clear };
          here = here;
          there = there;
        }

-- ---- the rows of a group

pub same_chosen : (v : ℕ) (f g : ℕ → ℕ) → f 0 ≡ g 0 → f 1 ≡ g 1 → f 2 ≡ g 2 → f 3 ≡ g 3 → chosen v f ≡ chosen v g
unfolding chosen
same_chosen v f g p q r s = cc

pub rows_more : (e j : ℕ) (x before after : List ℕ) → j < 64 → Rows j e x before
    → PlacePost before j (get_or x j 0) (get_or x (e + j) 0) (get_or x (2 * e + j) 0) (get_or x (3 * e + j) 0) after → Rows (j + 1) e x after
rows_more e j x before after hj h p v i hv hi =
    elim (ℕ_discrete i j) as (λ _. get_or after (64 * v + i) 0 ≡ chosen v (λ m. get_or x (m * e + i) 0)) [
      | yes same ↦
          rw same
          (p.here v hv
          ∙ same_chosen v (λ m. get_or (get_or x j 0 ∷ get_or x (e + j) 0 ∷ get_or x (2 * e + j) 0 ∷ get_or x (3 * e + j) 0 ∷ []) m 0)
          (λ m. get_or x (m * e + j) 0) (ap (λ n. get_or x n 0) (omega arith)) (ap (λ n. get_or x n 0) (omega arith)) refl refl)
      | no other ↦ p.there v i (omega arith) other ∙ h v i hv (omega arith)
    ]

-- ---- the groups of a table

-- a byte of a lent part
lent_at : (at n i : ℕ) (l : List ℕ) → i < n → get_or (take (at + n - at) (drop at l)) i 0 ≡ get_or l (at + i) 0
lent_at at n i l h = get_or-take (at + n - at) (drop at l) i 0 (omega arith) ∙ get_or-drop at l i 0

-- byte j of row m of group g
group_at : (e g m j : ℕ) (rows : List ℕ) → m * e + j < 4 * e
    → get_or (take (4 * e * g + 4 * e - 4 * e * g) (drop (4 * e * g) rows)) (m * e + j) 0 ≡ get_or rows ((4 * g + m) * e + j) 0
group_at e g m j rows h =
    let place : 4 * e * g + (m * e + j) ≡ (4 * g + m) * e + j =
    omega (arith, add-mul (4 * g) m e, mul_assoc 4 g e, mul_assoc 4 e g, mul_comm g e) in
    lent_at (4 * e * g) (4 * e) (m * e + j) rows h ∙ ap (λ n. get_or rows n 0) place

-- the table has the sums of the first g groups, and the sum of no row is clear in every group
pub record Filling (e g : ℕ) (rows table : List ℕ) : Type 0 where
  pub size : length table ≡ 4096
  pub clear : (h j : ℕ) → h < 4 → j < 64 → get_or table (1024 * h + j) 0 ≡ 0
  pub sums : (h v j : ℕ) → h < g → v < 16 → j < e → get_or table (1024 * h + (64 * v + j)) 0 ≡ chosen v (λ m. get_or rows ((4 * h + m) * e + j) 0)

pub filling_none : (e : ℕ) (rows table : List ℕ) → table ≡ replicate 4096 0 → Filling e 0 rows table
filling_none e rows table zeros =
    record {
      size = ap length zeros ∙ length-replicate {A = ℕ} 4096 0;
      clear = λ h j hh hj. ap (λ l. get_or l (1024 * h + j) 0) zeros ∙ get_or-replicate 4096 (1024 * h + j) 0 0 (omega arith);
      sums = λ h v j hh hv hj. absurd (omega arith);
    }

module _ (e g : ℕ) (rows table part : List ℕ) (he : e ≤ 64) (hg : g < 4) (f : Filling e g rows table)
    (p : GroupPost e (take (4 * e * g + 4 * e - 4 * e * g) (drop (4 * e * g) rows)) part) where
  abbrev next : List ℕ
  next = over (1024 * g) 1024 part table

  room : 1024 * g + 1024 ≤ length table
  room = omega (arith, f.size)

  own : (i : ℕ) → i < 1024 → get_or next (1024 * g + i) 0 ≡ get_or part i 0
  own = over_byte (1024 * g) 1024 part table p.ready.size room

  other : (h i : ℕ) → (h ≡ g → ⊥) → i < 1024 → get_or next (1024 * h + i) 0 ≡ get_or table (1024 * h + i) 0
  other h i ne hi = elim (dec_lt h g) as (λ _. get_or next (1024 * h + i) 0 ≡ get_or table (1024 * h + i) 0) [
    | yes l ↦ over_byte_before (1024 * g) 1024 part table p.ready.size room (1024 * h + i) (omega arith)
    | no l ↦ over_byte_after (1024 * g) 1024 part table p.ready.size room (1024 * h + i) (omega (arith, ne))
  ]

  still_clear : (h j : ℕ) → h < 4 → j < 64 → get_or next (1024 * h + j) 0 ≡ 0
  still_clear h j hh hj = elim (ℕ_discrete h g) as (λ _. get_or next (1024 * h + j) 0 ≡ 0) [
    | yes same ↦ ap (λ n. get_or next (1024 * n + j) 0) same ∙ own j (omega arith) ∙ p.ready.clear j hj
    | no ne ↦ other h j ne (omega arith) ∙ f.clear h j hh hj
  ]

  -- the sums of this group
  own_sums : (v j : ℕ) → v < 16 → j < e → get_or next (1024 * g + (64 * v + j)) 0 ≡ chosen v (λ m. get_or rows ((4 * g + m) * e + j) 0)
  own_sums v j hv hj =
      own (64 * v + j) (omega arith)
      ∙ p.rows v j hv hj
      ∙ same_chosen v (λ m. get_or (take (4 * e * g + 4 * e - 4 * e * g) (drop (4 * e * g) rows)) (m * e + j) 0)
      (λ m. get_or rows ((4 * g + m) * e + j) 0) (group_at e g 0 j rows (omega arith)) (group_at e g 1 j rows (omega arith))
      (group_at e g 2 j rows (omega arith)) (group_at e g 3 j rows (omega arith))

  more_sums : (h v j : ℕ) → h < g + 1 → v < 16 → j < e
      → get_or next (1024 * h + (64 * v + j)) 0 ≡ chosen v (λ m. get_or rows ((4 * h + m) * e + j) 0)
  more_sums h v j hh hv hj =
      elim (ℕ_discrete h g) as (λ _. get_or next (1024 * h + (64 * v + j)) 0 ≡ chosen v (λ m. get_or rows ((4 * h + m) * e + j) 0)) [
        | yes same ↦ rw same (own_sums v j hv hj)
        | no ne ↦ other h (64 * v + j) ne (omega arith) ∙ f.sums h v j (omega (arith, ne)) hv hj
      ]

  pub filling_more : Filling e (g + 1) rows (take (1024 * g) table ++ (part ++ drop (1024 * g + 1024 - 1024 * g) (drop (1024 * g) table)))
  filling_more =
      rw (over_lent (1024 * g) 1024 part table)
      (record {
        size = over_length (1024 * g) 1024 part table p.ready.size room ∙ f.size;
        clear = still_clear;
        sums = more_sums;
      })

pub filling_all : (e g : ℕ) (rows table : List ℕ) → 4 ≤ g → Filling e g rows table → FillPost e rows table
filling_all e g rows table hg f =
    record {
      size = f.size;
      clear = λ j hj. ap (λ n. get_or table n 0) (omega arith) ∙ f.clear 0 j (omega arith) hj;
      sums = λ h v j hh hv hj. ap (λ n. get_or table n 0) (omega arith) ∙ f.sums h v j (omega arith) hv hj;
    }

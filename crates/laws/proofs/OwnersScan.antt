-- Scans of a list of owners from its first on: b's among those passed are counted, and b's thing at a position is looked for. Assumes nothing.
use Prim.Native.Nat.{ℕ, zero, suc, ◌+◌, ◌-◌, ◌≤◌, ◌<◌}
use mathlib.Core.Path.{◌≡◌, refl, sym, ap, ap₂, ◌∙◌}
use mathlib.Core.Bool.{Bool, true, false, cond}
use mathlib.Core.List.{List, [], ◌∷◌}
use native.Mathlib.Omega.{arith}
use native.Mathlib.Numerals.{add-one}
use borrow.Author.Tests.{eq-eqb, ne_eqb}
use lib.Dec.{eqb}
use lib.ListN.{length, take, drop, get_or, drop_of_length-le}
use lib.Seq.{take-suc, drop-cons}
use Rattle.laws.specs.Owners.{count_of, place_of}
use Rattle.laws.proofs.Owners.{count_append}

-- ---- how many are b's

pub count_own : (b o : ℕ) (os : List ℕ) → o ≡ b → count_of b (o ∷ os) ≡ suc (count_of b os)
unfolding count_of
count_own b o os e = rw (eq-eqb o b e)

pub count_other : (b o : ℕ) (os : List ℕ) → (o ≡ b → ⊥) → count_of b (o ∷ os) ≡ count_of b os
unfolding count_of
count_other b o os ne = rw (ne_eqb o b ne)

pub count_le : (b : ℕ) (os : List ℕ) → count_of b os ≤ length os
unfolding count_of
count_le b [] = omega arith
count_le b (o ∷ os) = go (eqb o b) (count_le b os)
  where
    go : (t : Bool) → count_of b os ≤ length os → cond t (suc (count_of b os)) (count_of b os) ≤ suc (length os)
    go true h = omega (arith, h)
    go false h = omega (arith, h)

module _ (b : ℕ) (os : List ℕ) (i : ℕ) (inside : i < length os) where
  next : count_of b (take (i + 1) os) ≡ count_of b (take i os) + count_of b (get_or os i 0 ∷ [])
  next =
      ap (λ n. count_of b (take n os)) (add-one i)
      ∙ ap (count_of b) (take-suc os i 0 inside)
      ∙ count_append b (take i os) (get_or os i 0 ∷ [])

  pub count_hit : get_or os i 0 ≡ b → count_of b (take (i + 1) os) ≡ count_of b (take i os) + 1
  unfolding count_of
  count_hit e = next ∙ ap (λ n. count_of b (take i os) + n) (rw (eq-eqb (get_or os i 0) b e))

  pub count_miss : (get_or os i 0 ≡ b → ⊥) → count_of b (take (i + 1) os) ≡ count_of b (take i os)
  unfolding count_of
  count_miss ne = omega (arith, next, count_other b (get_or os i 0) [] ne)

-- ---- where b's thing at position k stands

place_other : (b o k : ℕ) (os : List ℕ) → (o ≡ b → ⊥) → place_of b k (o ∷ os) ≡ suc (place_of b k os)
unfolding place_of
place_other b o zero os ne = rw (ne_eqb o b ne)
place_other b o (suc k) os ne = rw (ne_eqb o b ne)

module _ (b : ℕ) (os : List ℕ) (i : ℕ) (inside : i < length os) where
  -- it is here
  pub place_here : get_or os i 0 ≡ b → place_of b 0 (drop i os) ≡ 0
  unfolding place_of
  place_here e = ap (place_of b 0) (drop-cons os i 0 inside) ∙ rw (eq-eqb (get_or os i 0) b e)

  -- an earlier one of b's is here
  pub place_earlier : (k : ℕ) → (k ≡ 0 → ⊥) → get_or os i 0 ≡ b → place_of b k (drop i os) ≡ place_of b (k - 1) (drop (i + 1) os) + 1
  unfolding place_of
  place_earlier zero some e = absurd (some refl)
  place_earlier (suc k) some e =
      let back : suc k - 1 ≡ k = omega arith in
      ap (place_of b (suc k)) (drop-cons os i 0 inside)
      ∙ ap (λ t. suc (place_of b (cond t k (suc k)) (drop (suc i) os))) (eq-eqb (get_or os i 0) b e)
      ∙ sym (ap₂ (λ j n. place_of b j (drop n os) + 1) back (add-one i) ∙ add-one (place_of b k (drop (suc i) os)))

  -- another's is here
  pub place_miss : (k : ℕ) → (get_or os i 0 ≡ b → ⊥) → place_of b k (drop i os) ≡ place_of b k (drop (i + 1) os) + 1
  place_miss k ne =
      ap (place_of b k) (drop-cons os i 0 inside)
      ∙ place_other b (get_or os i 0) k (drop (suc i) os) ne
      ∙ sym (ap (λ n. place_of b k (drop n os) + 1) (add-one i) ∙ add-one (place_of b k (drop (suc i) os)))

-- there is none
pub place_end : (b k i : ℕ) (os : List ℕ) → length os ≤ i → place_of b k (drop i os) ≡ 0
unfolding place_of
place_end b k i os h = ap (place_of b k) (drop_of_length-le os {i = i} h)

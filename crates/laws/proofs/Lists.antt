-- Lists by their places. In order: what stands at a place, and a list with one place changed; a list without one of its places; one place of
-- a list as a list; a part in the middle; all that under a map. Assumes nothing.
use Prim.Native.Nat.{ℕ, zero, suc, ◌+◌, ◌-◌, ◌≤◌, ◌<◌}
use mathlib.Core.Path.{◌≡◌, refl, sym, ap, ap₂, ◌∙◌}
use mathlib.Core.Option.{none, some, some-injective}
use mathlib.Core.List.{List, [], ◌∷◌, ◌++◌, map, map-append, append-nil}
use native.Mathlib.Omega.{arith}
use native.Mathlib.Nat.{zero-add, suc-add}
use lib.ListN.{length, take, drop, set, get_or, get_elem?, length-append, length-drop, drop_of_length-le}
use lib.Seq.{take_all, take-nil, drop-drop, take_at, drop_at, length-take-le}
use Rattle.laws.specs.Lists.{to_list, without}

module _ {A : Type 0} where
  pub at_get_d : (xs : List A) (i : ℕ) (d : A) → i < length xs → get_elem? xs i ≡ some (get_or xs i d)
  at_get_d [] i d h = absurd (omega (arith, h))
  at_get_d (x ∷ xs) zero d h = refl
  at_get_d (x ∷ xs) (suc i) d h = at_get_d xs i d (omega (arith, h))

  pub at_set : (xs : List A) (i : ℕ) (a : A) → i < length xs → get_elem? (set xs i a) i ≡ some a
  at_set [] i a h = absurd (omega (arith, h))
  at_set (x ∷ xs) zero a h = refl
  at_set (x ∷ xs) (suc i) a h = at_set xs i a (omega (arith, h))

  pub at_set_other : (xs : List A) (i j : ℕ) (a : A) → (j ≡ i → ⊥) → get_elem? (set xs i a) j ≡ get_elem? xs j
  at_set_other [] i j a h = refl
  at_set_other (x ∷ xs) zero zero a h = absurd (h refl)
  at_set_other (x ∷ xs) zero (suc j) a h = refl
  at_set_other (x ∷ xs) (suc i) zero a h = refl
  at_set_other (x ∷ xs) (suc i) (suc j) a h = at_set_other xs i j a (λ e. h (ap suc e))

  -- a place given what stands there
  pub set_same : (xs : List A) (i : ℕ) (x : A) → get_elem? xs i ≡ some x → set xs i x ≡ xs
  set_same [] i x e = refl
  set_same (y ∷ ys) zero x e = ap (λ z. z ∷ ys) (sym (some-injective y x e))
  set_same (y ∷ ys) (suc i) x e = ap (λ zs. y ∷ zs) (set_same ys i x e)

-- what stands before the position, and what stands behind it
pub without_seam : {A : Type 0} (i : ℕ) (xs : List A) (y : A) (ys : List A) → length xs ≡ i → without i (xs ++ y ∷ ys) ≡ xs ++ ys
unfolding without
without_seam i xs y ys h =
    ap₂ ◌++◌ (take_at xs (y ∷ ys) i h)
    (sym (drop-drop 1 i (xs ++ y ∷ ys)) ∙ ap (drop 1) (drop_at xs (y ∷ ys) i h))

-- past the end there is nothing to leave out
pub without_past : {A : Type 0} (i : ℕ) (xs : List A) → length xs ≤ i → without i xs ≡ xs
unfolding without
without_past i xs h =
    ap₂ ◌++◌ (take_all i xs h) (drop_of_length-le xs {i = i + 1} (omega (arith, h))) ∙ append-nil xs

pub length_without : {A : Type 0} (i : ℕ) (xs : List A) → i < length xs → length (without i xs) ≡ length xs - 1
unfolding without
length_without i xs h =
    length-append (take i xs) (drop (i + 1) xs)
    ∙ ap₂ ◌+◌ (length-take-le i xs (omega (arith, h))) (length-drop (i + 1) xs)
    ∙ sum i (length xs) h
  where
    sum : (j n : ℕ) → j < n → j + (n - (j + 1)) ≡ n - 1
    sum j n l = omega (arith, l)

-- past the end there is nothing
pub at_past : {A : Type 0} (xs : List A) (i : ℕ) → length xs ≤ i → get_elem? xs i ≡ none
at_past [] i h = refl
at_past (x ∷ xs) zero h = absurd (omega (arith, h))
at_past (x ∷ xs) (suc i) h = at_past xs i (omega (arith, h))

pub length_at : {A : Type 0} (xs : List A) (i : ℕ) → i < length xs → length (to_list (get_elem? xs i)) ≡ 1
unfolding to_list
length_at [] i h = absurd (omega (arith, h))
length_at (x ∷ xs) zero h = refl
length_at (x ∷ xs) (suc i) h = length_at xs i (omega (arith, h))

-- the part of n behind the first m
pub drop_take : {A : Type 0} (m n : ℕ) (xs : List A) → drop m (take (m + n) xs) ≡ take n (drop m xs)
drop_take zero n xs = ap (λ k. take k xs) (zero-add n)
drop_take (suc m) n [] = ap (drop (suc m)) (take-nil (suc m + n)) ∙ sym (take-nil n)
drop_take (suc m) n (x ∷ xs) = rw (suc-add m n) (drop_take m n xs)

-- of the values of a list under a function
module _ {A B : Type 0} (f : A → B) where
  map_take : (i : ℕ) (xs : List A) → map f (take i xs) ≡ take i (map f xs)
  map_take zero xs = refl
  map_take (suc i) [] = refl
  map_take (suc i) (x ∷ xs) = ap (◌∷◌ (f x)) (map_take i xs)

  map_drop : (i : ℕ) (xs : List A) → map f (drop i xs) ≡ drop i (map f xs)
  map_drop zero xs = refl
  map_drop (suc i) [] = refl
  map_drop (suc i) (x ∷ xs) = map_drop i xs

  pub map_without : (i : ℕ) (xs : List A) → map f (without i xs) ≡ without i (map f xs)
  unfolding without
  map_without i xs = map-append f (take i xs) (drop (i + 1) xs) ∙ ap₂ ◌++◌ (map_take i xs) (map_drop (i + 1) xs)

  pub map_at : (xs : List A) (i : ℕ) → map f (to_list (get_elem? xs i)) ≡ to_list (get_elem? (map f xs) i)
  unfolding to_list
  map_at [] i = refl
  map_at (x ∷ xs) zero = refl
  map_at (x ∷ xs) (suc i) = map_at xs i

-- The rule of a table, at each of its entries, by one test over the table that antt computes. In order: a table of which each
-- entry comes from the one before; one whose entries each pass a test of their place; one that has each of the numbers from 1.
-- Assumes nothing.
use mathlib.Core.Path.{◌≡◌, refl, sym, ap, ◌∙◌}
use mathlib.Core.Bool.{Bool, true, false, ◌&&◌, ◌||◌}
use mathlib.Core.List.{List, [], ◌∷◌}
use Prim.Native.Nat.{ℕ, zero, suc, ◌+◌, ◌<◌, ◌≤◌, suc-le-suc}
use native.Mathlib.Nat.{zero-add, suc-add, add-suc, add-zero, le_of_suc-le-suc, not-suc-le-zero, zero-lt-suc}
use native.Mathlib.Decide.{ℕ_discrete}
use lib.Arith.{le-zero, le_of_le-suc-ne}
use lib.Dec.{T, eqb, eqb→eq}
use lib.ListN.{length, get_or}
use borrow.Author.Tests.{eqb-true}

pub and_left : (a b : Bool) → T (a && b) → T a
and_left true b t = tt
and_left false b t = t

pub and_right : (a b : Bool) → T (a && b) → T b
and_right true b t = t
and_right false b t = absurd t

-- ---- a table of which each entry comes from the one before

-- the table is x, step x, step (step x) and so on
abbrev pub follows : (ℕ → ℕ) → ℕ → List ℕ → Bool
follows step x [] = true
follows step x (y ∷ ys) = eqb y x && follows step (step x) ys

pub first : (step : ℕ → ℕ) (x : ℕ) (ys : List ℕ) → T (follows step x ys) → 0 < length ys → get_or ys 0 0 ≡ x
first step x [] t h = absurd (not-suc-le-zero h)
first step x (y ∷ ys) t h = eqb→eq y x (and_left (eqb y x) (follows step (step x) ys) t)

pub next : (step : ℕ → ℕ) (x : ℕ) (ys : List ℕ) → T (follows step x ys) → (i : ℕ) → suc i < length ys
    → get_or ys (suc i) 0 ≡ step (get_or ys i 0)
next step x [] t i h = absurd (not-suc-le-zero h)
next step x (y ∷ ys) t zero h =
    first step (step x) ys (and_right (eqb y x) (follows step (step x) ys) t) (le_of_suc-le-suc h)
    ∙ ap step (sym (eqb→eq y x (and_left (eqb y x) (follows step (step x) ys) t)))
next step x (y ∷ ys) t (suc i) h = next step (step x) ys (and_right (eqb y x) (follows step (step x) ys) t) i (le_of_suc-le-suc h)

-- ---- a table whose entries each pass a test of their place

-- f passes at each entry and its place, counted from i
abbrev pub passes : {A : Type 0} → (ℕ → A → Bool) → ℕ → List A → Bool
passes f i [] = true
passes f i (x ∷ xs) = f i x && passes f (suc i) xs

module _ {A : Type 0} (d : A) where
  passes_from : (f : ℕ → A → Bool) (i : ℕ) (xs : List A) → T (passes f i xs) → (k : ℕ) → k < length xs → T (f (i + k) (get_or xs k d))
  passes_from f i [] t k h = absurd (not-suc-le-zero h)
  passes_from f i (x ∷ xs) t zero h = rw add-zero (and_left (f i x) (passes f (suc i) xs) t)
  passes_from f i (x ∷ xs) t (suc k) h =
      rw (add-suc, ← suc-add i k) (passes_from f (suc i) xs (and_right (f i x) (passes f (suc i) xs) t) k (le_of_suc-le-suc h))

  -- each entry passes at its place
  pub entry : (f : ℕ → A → Bool) (xs : List A) → T (passes f 0 xs) → (k : ℕ) → k < length xs → T (f k (get_or xs k d))
  entry f xs t k h = rw zero-add at (passes_from f 0 xs t k h)

-- a table of numbers
pub at : (f : ℕ → ℕ → Bool) (xs : List ℕ) → T (passes f 0 xs) → (k : ℕ) → k < length xs → T (f k (get_or xs k 0))
at = entry 0

-- ---- a table that has each of the numbers from 1

abbrev pub has : ℕ → List ℕ → Bool
has a [] = false
has a (x ∷ xs) = eqb x a || has a xs

-- each of 1 to n is in the table
abbrev pub has_all : ℕ → List ℕ → Bool
has_all zero xs = true
has_all (suc n) xs = has (suc n) xs && has_all n xs

pub has_of_all : (n : ℕ) (xs : List ℕ) → T (has_all n xs) → (a : ℕ) → a ≤ n → (a ≡ 0 → ⊥) → T (has a xs)
has_of_all zero xs t a h k = absurd (k (le-zero h))
has_of_all (suc n) xs t a h k =
    go (has_of_all n xs (and_right (has (suc n) xs) (has_all n xs) t) a) (ℕ_discrete a (suc n))
  where
    go : (a ≤ n → (a ≡ 0 → ⊥) → T (has a xs)) → Dec (a ≡ suc n) → T (has a xs)
    go ih (yes e) = rw e (and_left (has (suc n) xs) (has_all n xs) t)
    go ih (no d) = ih (le_of_le-suc-ne h d) k

pub place : (a : ℕ) (xs : List ℕ) → T (has a xs) → (i : ℕ) × (i < length xs) × (get_or xs i 0 ≡ a)
place a [] t = absurd t
place a (x ∷ xs) t = go (place a xs) (eqb x a) refl t
  where
    go : (T (has a xs) → (i : ℕ) × (i < length xs) × (get_or xs i 0 ≡ a))
        → (b : Bool) → eqb x a ≡ b → T (b || has a xs) → (i : ℕ) × (i < suc (length xs)) × (get_or (x ∷ xs) i 0 ≡ a)
    go ih true e u = (0, zero-lt-suc (length xs), eqb-true x a e)
    go ih false e u = let p = ih u in (suc p.0, suc-le-suc p.1, p.2)

-- Things in a list with their owners beside them. In order: b's things and their places among all; one of b's things left out; things added at
-- the end; how many there are. Assumes nothing.
use Prim.Native.Nat.{ℕ, zero, suc, ◌+◌, ◌-◌, ◌≤◌, ◌<◌}
use mathlib.Core.Path.{◌≡◌, refl, sym, ap, ap₂, ◌∙◌}
use mathlib.Core.Bool.{Bool, true, false, cond}
use mathlib.Core.Option.{some}
use mathlib.Core.List.{List, [], ◌∷◌, ◌++◌}
use native.Mathlib.Omega.{arith}
use native.Mathlib.Nat.{suc-add}
use lib.Dec.{eqb, ltb, leb-suc-suc}
use lib.ListN.{length, get_elem?, replicate, length-append}
use borrow.Author.Tests.{eqb-true, eq-eqb, le-ltb, lt-ltb, ne_eqb}
use Rattle.laws.specs.Lists.{without}
use Rattle.laws.specs.Owners.{own, count_of, place_of}
use Rattle.laws.proofs.Lists.{length_without}

module _ {A : Type 0} where
  without_later : (i : ℕ) (x : A) (xs : List A) → without (suc i) (x ∷ xs) ≡ x ∷ without i xs
  unfolding without
  without_later i x xs = rw (suc-add i 1)

  without_none : (i : ℕ) → without {A = A} i [] ≡ []
  unfolding without
  without_none zero = refl
  without_none (suc i) = rw (suc-add i 1)

-- ---- b's things, and their places among all

module _ {A : Type 0} (b : ℕ) where
  pub own_length : (os : List ℕ) (xs : List A) → length os ≡ length xs → length (own b os xs) ≡ count_of b os
  unfolding own count_of
  own_length [] xs same = refl
  own_length (o ∷ os) [] same = absurd (omega arith)
  own_length (o ∷ os) (x ∷ xs) same = by (eqb o b) (own_length os xs (omega arith))
    where
      by : (c : Bool) → length (own b os xs) ≡ count_of b os → length (cond c (x ∷ own b os xs) (own b os xs)) ≡ cond c (suc (count_of b os)) (count_of b os)
      by true e = ap suc e
      by false e = e

  -- the thing at position i of b's, by its place among all
  pub own_at : (i : ℕ) (os : List ℕ) (xs : List A) → length os ≡ length xs → get_elem? xs (place_of b i os) ≡ get_elem? (own b os xs) i
  unfolding own place_of
  own_at i [] [] same = refl
  own_at i [] (x ∷ xs) same = absurd (omega arith)
  own_at i (o ∷ os) [] same = absurd (omega arith)
  own_at zero (o ∷ os) (x ∷ xs) same = by (eqb o b) (own_at 0 os xs (omega arith))
    where
      by : (c : Bool) → get_elem? xs (place_of b 0 os) ≡ get_elem? (own b os xs) 0
          → get_elem? (x ∷ xs) (cond c 0 (suc (place_of b 0 os))) ≡ get_elem? (cond c (x ∷ own b os xs) (own b os xs)) 0
      by true e = refl
      by false e = e
  own_at (suc i) (o ∷ os) (x ∷ xs) same = by (eqb o b) (λ j. own_at j os xs (omega arith))
    where
      by : (c : Bool) → ((j : ℕ) → get_elem? xs (place_of b j os) ≡ get_elem? (own b os xs) j)
          → get_elem? xs (place_of b (cond c i (suc i)) os) ≡ get_elem? (cond c (x ∷ own b os xs) (own b os xs)) (suc i)
      by true rest = rest i
      by false rest = rest (suc i)

-- it is there if b has so many
pub place_there : (b i : ℕ) (os : List ℕ) → ltb (place_of b i os) (length os) ≡ ltb i (count_of b os)
unfolding place_of count_of
place_there b zero [] = refl
place_there b (suc i) [] = sym (le-ltb (suc i) 0 (omega arith))
place_there b zero (o ∷ os) = by (eqb o b) (place_there b 0 os)
  where
    by : (c : Bool) → ltb (place_of b 0 os) (length os) ≡ ltb 0 (count_of b os)
        → ltb (cond c 0 (suc (place_of b 0 os))) (suc (length os)) ≡ ltb 0 (cond c (suc (count_of b os)) (count_of b os))
    by true e = lt-ltb 0 (suc (length os)) (omega arith) ∙ sym (lt-ltb 0 (suc (count_of b os)) (omega arith))
    by false e = leb-suc-suc (suc (place_of b 0 os)) (length os) ∙ e
place_there b (suc i) (o ∷ os) =
    leb-suc-suc (suc (place_of b (cond (eqb o b) i (suc i)) os)) (length os) ∙ by (eqb o b) (λ j. place_there b j os)
  where
    by : (c : Bool) → ((j : ℕ) → ltb (place_of b j os) (length os) ≡ ltb j (count_of b os))
        → ltb (place_of b (cond c i (suc i)) os) (length os) ≡ ltb (suc i) (cond c (suc (count_of b os)) (count_of b os))
    by true rest = rest i ∙ sym (leb-suc-suc (suc i) (count_of b os))
    by false rest = rest (suc i)

pub place_at_most : (b i : ℕ) (os : List ℕ) → place_of b i os ≤ length os
unfolding place_of
place_at_most b i [] = omega arith
place_at_most b zero (o ∷ os) = by (eqb o b) (place_at_most b 0 os)
  where
    by : (c : Bool) → place_of b 0 os ≤ length os → cond c 0 (suc (place_of b 0 os)) ≤ suc (length os)
    by true h = omega arith
    by false h = omega arith
place_at_most b (suc i) (o ∷ os) = omega (arith, place_at_most b (cond (eqb o b) i (suc i)) os)

-- and what stands there is b's
pub place_owner : (b i : ℕ) (os : List ℕ) → i < count_of b os → get_elem? os (place_of b i os) ≡ some b
unfolding place_of count_of
place_owner b i [] h = absurd (omega arith)
place_owner b zero (o ∷ os) h = by (eqb o b) refl (place_owner b 0 os) h
  where
    by : (c : Bool) → eqb o b ≡ c → (0 < count_of b os → get_elem? os (place_of b 0 os) ≡ some b)
        → 0 < cond c (suc (count_of b os)) (count_of b os) → get_elem? (o ∷ os) (cond c 0 (suc (place_of b 0 os))) ≡ some b
    by true e rest l = ap some (eqb-true o b e)
    by false e rest l = rest l
place_owner b (suc i) (o ∷ os) h = by (eqb o b) (λ j. place_owner b j os) h
  where
    by : (c : Bool) → ((j : ℕ) → j < count_of b os → get_elem? os (place_of b j os) ≡ some b)
        → suc i < cond c (suc (count_of b os)) (count_of b os) → get_elem? os (place_of b (cond c i (suc i)) os) ≡ some b
    by true rest l = rest i (omega arith)
    by false rest l = rest (suc i) l

-- ---- one of b's things is left out, and its owner with it

module _ {A : Type 0} (b : ℕ) where
  -- of b's things it goes
  pub own_without : (i : ℕ) (os : List ℕ) (xs : List A) → length os ≡ length xs
      → own b (without (place_of b i os) os) (without (place_of b i os) xs) ≡ without i (own b os xs)
  unfolding own place_of
  own_without i [] xs same = ap (λ os. own b os (without 0 xs)) (without_none {A = ℕ} 0) ∙ sym (without_none {A = A} i)
  own_without i (o ∷ os) [] same = absurd (omega arith)
  own_without zero (o ∷ os) (x ∷ xs) same = by (eqb o b) refl (own_without 0 os xs (omega arith))
    where
      by : (c : Bool) → eqb o b ≡ c → own b (without (place_of b 0 os) os) (without (place_of b 0 os) xs) ≡ without 0 (own b os xs)
          → own b (without (cond c 0 (suc (place_of b 0 os))) (o ∷ os)) (without (cond c 0 (suc (place_of b 0 os))) (x ∷ xs))
          ≡ without 0 (cond c (x ∷ own b os xs) (own b os xs))
      by true e rest = unfold without in refl
      by false e rest = rw (without_later (place_of b 0 os) o os, without_later (place_of b 0 os) x xs, e) rest
  own_without (suc i) (o ∷ os) (x ∷ xs) same =
      let p = place_of b (cond (eqb o b) i (suc i)) os in
      ap₂ (own b) (without_later p o os) (without_later p x xs) ∙ by (eqb o b) (λ j. own_without j os xs (omega arith))
    where
      by : (c : Bool) → ((j : ℕ) → own b (without (place_of b j os) os) (without (place_of b j os) xs) ≡ without j (own b os xs))
          → (let p = place_of b (cond c i (suc i)) os in cond c (x ∷ own b (without p os) (without p xs)) (own b (without p os) (without p xs)))
          ≡ without (suc i) (cond c (x ∷ own b os xs) (own b os xs))
      by true rest = ap (λ ys. x ∷ ys) (rest i) ∙ sym (without_later i x (own b os xs))
      by false rest = rest (suc i)

  -- another's things stay
  pub own_without_other : (a : ℕ) → (a ≡ b → ⊥) → (i : ℕ) (os : List ℕ) (xs : List A) → length os ≡ length xs
      → own a (without (place_of b i os) os) (without (place_of b i os) xs) ≡ own a os xs
  unfolding own place_of
  own_without_other a other i [] xs same = ap (λ os. own a os (without 0 xs)) (without_none {A = ℕ} 0)
  own_without_other a other i (o ∷ os) [] same = absurd (omega arith)
  own_without_other a other zero (o ∷ os) (x ∷ xs) same = by (eqb o b) refl (own_without_other a other 0 os xs (omega arith))
    where
      by : (c : Bool) → eqb o b ≡ c → own a (without (place_of b 0 os) os) (without (place_of b 0 os) xs) ≡ own a os xs
          → own a (without (cond c 0 (suc (place_of b 0 os))) (o ∷ os)) (without (cond c 0 (suc (place_of b 0 os))) (x ∷ xs))
          ≡ cond (eqb o a) (x ∷ own a os xs) (own a os xs)
      by true e rest = unfold without in rw (ne_eqb o a (λ f. other (sym f ∙ eqb-true o b e)))
      by false e rest = rw (without_later (place_of b 0 os) o os, without_later (place_of b 0 os) x xs, rest)
  own_without_other a other (suc i) (o ∷ os) (x ∷ xs) same =
      let p = place_of b (cond (eqb o b) i (suc i)) os in
      ap₂ (own a) (without_later p o os) (without_later p x xs)
      ∙ ap (λ ys. cond (eqb o a) (x ∷ ys) ys) (own_without_other a other (cond (eqb o b) i (suc i)) os xs (omega arith))

  -- ---- things are added at the end

  pub own_append : (os ps : List ℕ) (xs ys : List A) → length os ≡ length xs → own b (os ++ ps) (xs ++ ys) ≡ own b os xs ++ own b ps ys
  unfolding own
  own_append [] ps [] ys same = refl
  own_append [] ps (x ∷ xs) ys same = absurd (omega arith)
  own_append (o ∷ os) ps [] ys same = absurd (omega arith)
  own_append (o ∷ os) ps (x ∷ xs) ys same = by (eqb o b) (own_append os ps xs ys (omega arith))
    where
      by : (c : Bool) → own b (os ++ ps) (xs ++ ys) ≡ own b os xs ++ own b ps ys
          → cond c (x ∷ own b (os ++ ps) (xs ++ ys)) (own b (os ++ ps) (xs ++ ys)) ≡ cond c (x ∷ own b os xs) (own b os xs) ++ own b ps ys
      by true e = ap (λ zs. x ∷ zs) e
      by false e = e

  -- all of them b's
  pub own_all : (ys : List A) → own b (replicate (length ys) b) ys ≡ ys
  unfolding own
  own_all [] = refl
  own_all (y ∷ ys) = rw (eq-eqb b b refl, own_all ys)

  -- all of them another's
  pub own_none : (a : ℕ) → (b ≡ a → ⊥) → (n : ℕ) (ys : List A) → own b (replicate n a) ys ≡ []
  unfolding own
  own_none a other zero ys = refl
  own_none a other (suc n) [] = refl
  own_none a other (suc n) (y ∷ ys) = rw (ne_eqb a b (λ e. other (sym e)), own_none a other n ys)

-- ---- how many there are: the owners are things of their owners

module _ (b : ℕ) where
  counted : (os : List ℕ) → count_of b os ≡ length (own b os os)
  counted os = sym (own_length b os os refl)

  pub count_without : (i : ℕ) (os : List ℕ) → i < count_of b os → count_of b (without (place_of b i os) os) ≡ count_of b os - 1
  count_without i os h =
      counted (without (place_of b i os) os)
      ∙ ap length (own_without b i os os refl)
      ∙ length_without i (own b os os) (omega (arith, counted os))
      ∙ ap (λ n. n - 1) (sym (counted os))

  pub count_without_other : (a : ℕ) → (a ≡ b → ⊥) → (i : ℕ) (os : List ℕ) → count_of a (without (place_of b i os) os) ≡ count_of a os
  count_without_other a other i os =
      sym (own_length a (without (place_of b i os) os) (without (place_of b i os) os) refl)
      ∙ ap length (own_without_other b a other i os os refl)
      ∙ own_length a os os refl

  pub count_append : (os ps : List ℕ) → count_of b (os ++ ps) ≡ count_of b os + count_of b ps
  count_append os ps =
      counted (os ++ ps)
      ∙ ap length (own_append b os ps os ps refl)
      ∙ length-append (own b os os) (own b ps ps)
      ∙ ap₂ ◌+◌ (sym (counted os)) (sym (counted ps))

  pub count_all : (n : ℕ) → count_of b (replicate n b) ≡ n
  unfolding count_of
  count_all zero = refl
  count_all (suc n) = rw (eq-eqb b b refl, count_all n)

  pub count_none : (a : ℕ) → (b ≡ a → ⊥) → (n : ℕ) → count_of b (replicate n a) ≡ 0
  count_none a other n = counted (replicate n a) ∙ ap length (own_none b a other n (replicate n a))

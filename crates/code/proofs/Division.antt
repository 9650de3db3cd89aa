-- Synthetic division of one polynomial by (x + s) for the s of 16 lanes side by side, from the highest coefficient down: the
-- quotients' coefficients, and the quotients' values at s.
use Prim.Native.Nat.{ℕ, suc, ◌-◌, ◌<◌, ◌≤◌}
use mathlib.Core.Path.{◌≡◌, sym, ap, ap₂, subst, subst₂, ◌∙◌}
use mathlib.Core.List.{List, [], ◌∷◌, map}
use native.Mathlib.Omega.{arith}
use native.Mathlib.Decide.{ℕ_discrete}
use lib.ListN.{length, get_or, take, drop, set, length-set, replicate, get_or-replicate, drop_of_length-le, get_or-map}
use lib.Arith.{lt_of_le-ne}
use lib.Seq.{get_or-set_same, get_or-set_other, length-take-le}
use Rattle.field.specs.Field.{plus, times, inverse_of}
use Rattle.field.proofs.Laws.{times_zero_right, plus-zero}
use Rattle.code.specs.Polynomial.{value, divided, roots, scaled, lagrange}
use Rattle.code.specs.Element.{byte_field}
use Rattle.code.specs.inner.Lanes.{InvertPost, ScalePost, InvertPre, advanced, first_roots}
use Rattle.code.proofs.Advanced.{advanced_at}
use Rattle.code.proofs.Factor.{divided_at}
use Rattle.code.proofs.FirstRoots.{roots_top, first_roots_at}
use Rattle.code.proofs.Lagrange.{divided_length, length_rooted}
use Rattle.code.proofs.Value.{value_drop}

-- the quotient of p by (x + s) for the s of lane t
abbrev pub quotient : List ℕ → List ℕ → ℕ → List ℕ
quotient p s t = divided byte_field (get_or s t 0) p

-- with the quotients' coefficients from i on in the rows: q has that of i, and v the value of those from i on
pub record Divided (k : ℕ) (p s : List ℕ) (i : ℕ) (rows : List (List ℕ)) (q v : List ℕ) : Type 0 where
  pub bound : i < k
  pub size : length rows ≡ 16
  pub here : (t : ℕ) → t < 16 → get_or q t 0 ≡ get_or (quotient p s t) i 0
  pub total : (t : ℕ) → t < 16 → get_or v t 0 ≡ value byte_field (drop i (quotient p s t)) (get_or s t 0)
  pub row : (j t : ℕ) → i ≤ j → j < k → t < 16 → get_or (get_or rows j []) t 0 ≡ get_or (quotient p s t) j 0

module _ (k : ℕ) (p s : List ℕ) (high : k ≤ 16) (lp : length p ≡ suc k) where
  size_quotient : (t : ℕ) → length (quotient p s t) ≡ k
  size_quotient t = divided_length byte_field (get_or s t 0) p k lp

  -- a row more
  row_set : (i : ℕ) (rows : List (List ℕ)) (q : List ℕ) → i < length rows
      → ((t : ℕ) → t < 16 → get_or q t 0 ≡ get_or (quotient p s t) i 0)
      → ((j t : ℕ) → suc i ≤ j → j < k → t < 16 → get_or (get_or rows j []) t 0 ≡ get_or (quotient p s t) j 0)
      → (j t : ℕ) → i ≤ j → j < k → t < 16 → get_or (get_or (set rows i q) j []) t 0 ≡ get_or (quotient p s t) j 0
  row_set i rows q l hq hr j t a b h = go (ℕ_discrete j i)
    where
      go : Dec (j ≡ i) → get_or (get_or (set rows i q) j []) t 0 ≡ get_or (quotient p s t) j 0
      go (yes e) =
          ap (λ m. get_or (get_or (set rows i q) m []) t 0) e
          ∙ ap (λ r. get_or r t 0) (get_or-set_same rows i q [] l)
          ∙ hq t h
          ∙ ap (λ m. get_or (quotient p s t) m 0) (sym e)
      go (no n) =
          ap (λ r. get_or r t 0) (get_or-set_other rows i j q [] n) ∙ hr j t (lt_of_le-ne a (λ z. n (sym z))) b h

  -- the highest coefficient of a quotient is p's, 1
  monic : (t : ℕ) → get_or p k 0 ≡ 1 → (i : ℕ) → suc i ≡ k → get_or (quotient p s t) i 0 ≡ 1
  unfolding value
  monic t e i h =
      divided_at byte_field x p i (omega arith)
      ∙ ap (λ n. value byte_field (drop n p) x) h
      ∙ value_drop byte_field p k x (omega arith)
      ∙ ap (λ r. plus (get_or p k 0) (times x (value byte_field r x))) (drop_of_length-le p {i = suc k} (omega arith))
      ∙ ap₂ plus e (times_zero_right x)
      ∙ plus-zero 1
    where
      x : ℕ
      x = get_or s t 0

  last_value : (t i : ℕ) → suc i ≡ k → value byte_field (drop i (quotient p s t)) (get_or s t 0) ≡ get_or (quotient p s t) i 0
  unfolding value
  last_value t i h =
      value_drop byte_field (quotient p s t) i (get_or s t 0) (rw size_quotient (omega arith))
      ∙ ap (λ r. plus (get_or (quotient p s t) i 0) (times (get_or s t 0) (value byte_field r (get_or s t 0))))
      (drop_of_length-le (quotient p s t) {i = suc i} (rw size_quotient (omega arith)))
      ∙ ap (plus (get_or (quotient p s t) i 0)) (times_zero_right (get_or s t 0))
      ∙ plus-zero (get_or (quotient p s t) i 0)

  pub start : (i : ℕ) → suc i ≡ k → (rows : List (List ℕ)) → length rows ≡ 16 → get_or p k 0 ≡ 1
      → Divided k p s i (set rows i (replicate 16 1)) (replicate 16 1) (replicate 16 1)
  start i h rows lr e =
      record {
        bound = omega arith;
        size = length-set rows i (replicate 16 1) ∙ lr;
        here = ones;
        total = λ t l. ones t l ∙ sym (last_value t i h);
        row = row_set i rows (replicate 16 1) (omega arith) ones (λ j t a b l. absurd (omega arith));
      }
    where
      ones : (t : ℕ) → t < 16 → get_or (replicate 16 1) t 0 ≡ get_or (quotient p s t) i 0
      ones t l = get_or-replicate 16 t 1 0 l ∙ sym (monic t e i h)

  module _ (i : ℕ) (rows : List (List ℕ)) (q v c : List ℕ) (d : Divided k p s (suc i) rows q v)
      (at : (t : ℕ) → t < 16 → get_or c t 0 ≡ get_or p (suc i) 0) where
    coefficient : (t : ℕ) → t < 16 → get_or (advanced q s c) t 0 ≡ get_or (quotient p s t) i 0
    coefficient t h =
        advanced_at q s c t h
        ∙ ap₂ (λ a b. plus a (times (get_or s t 0) b)) (at t h)
        (d.here t h ∙ divided_at byte_field (get_or s t 0) p (suc i) (omega (arith, d.bound)))
        ∙ sym (value_drop byte_field p (suc i) (get_or s t 0) (omega (arith, d.bound)))
        ∙ sym (divided_at byte_field (get_or s t 0) p i (omega (arith, d.bound)))

    pub step : Divided k p s i (set rows i (advanced q s c)) (advanced q s c) (advanced v s (advanced q s c))
    step =
        record {
          bound = omega (arith, d.bound);
          size = length-set rows i (advanced q s c) ∙ d.size;
          here = coefficient;
          total = λ t h. advanced_at v s (advanced q s c) t h
              ∙ ap₂ (λ a b. plus a (times (get_or s t 0) b)) (coefficient t h) (d.total t h)
              ∙ sym (value_drop byte_field (quotient p s t) i (get_or s t 0) (rw size_quotient (omega (arith, d.bound))));
          row = row_set i rows (advanced q s c) (omega (arith, d.bound, d.size)) coefficient d.row;
        }

-- scaled by the inverse of its value, a quotient of the product of all (x + s) is Lagrange's polynomial
pub lagrange_at : (points : List ℕ) (x j : ℕ)
    → times (inverse_of (value byte_field (divided byte_field x (roots byte_field points)) x)) (get_or (divided byte_field x (roots byte_field points)) j 0)
    ≡ get_or (lagrange byte_field points x) j 0
unfolding lagrange scaled
lagrange_at points x j =
    sym (ap (get_or (map (times a) q) j) (sym (times_zero_right a)) ∙ get_or-map (times a) q j 0)
  where
    q : List ℕ
    q = divided byte_field x (roots byte_field points)

    a : ℕ
    a = inverse_of (value byte_field q x)

module _ (k : ℕ) (servers : List ℕ) (u : InvertPre k servers) (s : List ℕ) where
  abbrev points : List ℕ
  points = take k servers

  size_points : length points ≡ k
  size_points = length-take-le k servers u.enough

  size_roots : length (roots byte_field points) ≡ suc k
  unfolding roots
  size_roots = length_rooted byte_field (1 ∷ []) points ∙ omega (arith, size_points)

  -- the division of the product of all (x + s), with its first coefficients
  pub begins : (i : ℕ) → suc i ≡ k → (rows : List (List ℕ)) → length rows ≡ 16
      → Divided k (roots byte_field points) s i (set rows i (replicate 16 1)) (replicate 16 1) (replicate 16 1)
  begins i h rows lr =
      start k (roots byte_field points) s u.high size_roots i h rows lr
      (ap (λ n. get_or (roots byte_field points) n 0) (sym size_points) ∙ roots_top points)

  -- a turn, for coefficient i - 1
  pub turns : (i : ℕ) (rows : List (List ℕ)) (q v p q' v' : List ℕ) → 0 < i → p ≡ first_roots k servers
      → q' ≡ advanced q s (replicate 16 (get_or p i 0)) → v' ≡ advanced v s q'
      → Divided k (roots byte_field points) s i rows q v → Divided k (roots byte_field points) s (i - 1) (set rows (i - 1) q') q' v'
  turns i rows q v p q' v' h e eq ev d =
      let one : i ≡ suc (i - 1) = omega arith in
      let turned =
      step k (roots byte_field points) s u.high size_roots (i - 1) rows q v (replicate 16 (get_or p i 0))
      (subst (λ n. Divided k (roots byte_field points) s n rows q v) one d)
      (λ t l. get_or-replicate 16 t (get_or p i 0) 0 l ∙ ap (λ a. get_or a i 0) e
      ∙ first_roots_at k servers i (omega (arith, d.bound, u.high)) ∙ ap (λ n. get_or (roots byte_field points) n 0) one) in
      subst₂ (λ a b. Divided k (roots byte_field points) s (i - 1) (set rows (i - 1) a) a b) (sym eq) (sym (ev ∙ ap (advanced v s) eq)) turned

  -- scaled after the last turn, it is the inverse
  pub ends : (rows out : List (List ℕ)) (q v d : List ℕ) → Divided k (roots byte_field points) s 0 rows q v
      → ((r : ℕ) → r < k → get_or s r 0 ≡ get_or servers r 0)
      → ((r : ℕ) → r < k → get_or d r 0 ≡ inverse_of (get_or v r 0))
      → ScalePost k d rows out
      → InvertPost k servers out
  ends rows out q v d w hs hd ho i r hi hr =
      ho i r hi (omega (arith, u.high))
      ∙ ap₂ times
      (hd r hr ∙ ap inverse_of (w.total r (omega (arith, u.high))))
      (w.row i r (omega arith) hi (omega (arith, u.high)))
      ∙ lagrange_at points (get_or s r 0) i
      ∙ ap (λ x. get_or (lagrange byte_field points x) i 0) (hs r hr)

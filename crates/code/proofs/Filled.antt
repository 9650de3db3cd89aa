-- A list that a loop fills from the front, element by element: f 0 and so on, up to i, and what was there from i on.
use Prim.Native.Nat.{ℕ, zero, suc, ◌+◌, ◌<◌, ◌≤◌}
use mathlib.Core.Path.{◌≡◌, refl, sym, ap, ap₂, ◌∙◌}
use mathlib.Core.List.{List, [], ◌∷◌, ◌++◌, append-nil, append_assoc}
use native.Mathlib.Decide.{dec_lt}
use native.Mathlib.Omega.{arith}
use native.Mathlib.Numerals.{add-one}
use lib.ListN.{
  length,
  get_or,
  take,
  drop,
  set,
  replicate,
  length-append,
  length-drop,
  length-replicate,
  get_or-replicate,
  drop_of_length-le,
  get_or-append,
}
use lib.Seq.{ext_get_or, take_at, drop_at, drop-drop}
use Rattle.laws.specs.Bytes.{tabulate}
use Rattle.laws.proofs.Bytes.{length_tabulate, get_d_tabulate, tabulate_append}

module _ {A : Type 0} where
  abbrev pub filled : (ℕ → A) → ℕ → List A → List A
  filled f i l = tabulate i f ++ drop i l

  pub filled_none : (f : ℕ → A) (l : List A) → l ≡ filled f 0 l
  unfolding tabulate
  filled_none f l = refl

  more : (f : ℕ → A) (i : ℕ) (l : List A) → i < length l → set (filled f i l) i (f i) ≡ filled f (suc i) l
  unfolding tabulate
  more f zero [] h = absurd (omega arith)
  more f zero (x ∷ l) h = refl
  more f (suc i) [] h = absurd (omega arith)
  more f (suc i) (x ∷ l) h = ap (◌∷◌ (f 0)) (more (λ j. f (suc j)) i l (omega arith))

  pub filled_more : (f : ℕ → A) (i : ℕ) (l : List A) (x : A) → i < length l → x ≡ f i → set (filled f i l) i x ≡ filled f (i + 1) l
  filled_more f i l x h e = ap (set (filled f i l) i) e ∙ more f i l h ∙ ap (λ n. filled f n l) (sym (add-one i))

  pub filled_all : (f : ℕ → A) (i : ℕ) (l : List A) → length l ≤ i → filled f i l ≡ tabulate i f
  filled_all f i l h = ap (λ k. tabulate i f ++ k) (drop_of_length-le l {i = i} h) ∙ append-nil (tabulate i f)

  pub length_filled : (f : ℕ → A) (i : ℕ) (l : List A) → i ≤ length l → length (filled f i l) ≡ length l
  length_filled f i l h =
      length-append (tabulate i f) (drop i l) ∙ ap₂ ◌+◌ (length_tabulate i f) (length-drop i l) ∙ omega arith

  -- what is not yet filled is what was there
  pub filled_rest : (f : ℕ → A) (i j : ℕ) (l : List A) (d : A) → i ≤ j → j < length l → get_or (filled f i l) j d ≡ get_or l j d
  unfolding tabulate
  filled_rest f i j [] d h m = absurd (omega arith)
  filled_rest f zero j (x ∷ l) d h m = refl
  filled_rest f (suc i) zero (x ∷ l) d h m = absurd (omega arith)
  filled_rest f (suc i) (suc j) (x ∷ l) d h m = filled_rest (λ n. f (suc n)) i j l d (omega arith) (omega arith)

  -- a loop's turn: what it reads is what was there, and the store fills one more
  pub was : (f : ℕ → A) (i : ℕ) (l now : List A) (d : A) → now ≡ filled f i l → i < length l → get_or now i d ≡ get_or l i d
  was f i l now d e h = ap (λ k. get_or k i d) e ∙ filled_rest f i i l d (omega arith) h

  pub turn : (f : ℕ → A) (i : ℕ) (l now : List A) (x : A) → now ≡ filled f i l → i < length l → x ≡ f i
      → set now i x ≡ filled f (i + 1) l
  turn f i l now x e h v = ap (λ k. set k i x) e ∙ filled_more f i l x h v

  -- and after the last turn all is filled
  pub done : (f : ℕ → A) (i : ℕ) (l now : List A) → now ≡ filled f i l → length l ≡ i → now ≡ tabulate (length l) f
  done f i l now e h = e ∙ filled_all f i l (omega arith) ∙ ap (λ n. tabulate n f) (sym h)

  -- what is filled
  pub filled_at : (f : ℕ → A) (n i : ℕ) (l : List A) (d : A) → i < n → get_or (filled f n l) i d ≡ f i
  filled_at f n i l d h = get_or-append (tabulate n f) (drop n l) d i (rw length_tabulate h) ∙ get_d_tabulate n f i d h

  -- a loop that fills a part of e at a time
  pub turn_part : (f : ℕ → A) (n e m : ℕ) (l now row : List A) → now ≡ filled f n l → n + e ≤ length l → m ≡ e
      → row ≡ tabulate e (λ j. f (n + j)) → take n now ++ (row ++ drop m (drop n now)) ≡ filled f (n + e) l
  turn_part f n e m l now row h fits me hr =
      ap₂ ◌++◌
      (ap (take n) h ∙ take_at (tabulate n f) (drop n l) n (length_tabulate n f))
      (ap₂ ◌++◌ hr
      (ap₂ (λ a b. drop a (drop n b)) me h ∙ ap (drop e) (drop_at (tabulate n f) (drop n l) n (length_tabulate n f)) ∙ drop-drop e n l))
      ∙ sym (append_assoc (tabulate n f) (tabulate e (λ j. f (n + j))) (drop (n + e) l))
      ∙ ap (λ k. k ++ drop (n + e) l) (tabulate_append n e f)

-- a list by its elements: one of the same ones, and any
pub replicate_tabulate : {A : Type 0} (n : ℕ) (x : A) → replicate n x ≡ tabulate n (λ i. x)
unfolding tabulate
replicate_tabulate zero x = refl
replicate_tabulate (suc n) x = ap (◌∷◌ x) (replicate_tabulate n x)

pub itself : (l : List ℕ) (n : ℕ) → length l ≡ n → l ≡ tabulate n (λ i. get_or l i 0)
itself l n size =
    ext_get_or 0 l (tabulate n (λ i. get_or l i 0)) (size ∙ sym (length_tabulate n (λ i. get_or l i 0)))
    (λ i h. let below : i < n = omega (arith, size) in sym (get_d_tabulate n (λ i. get_or l i 0) i 0 below))

-- zeros that are filled as far as f is not 0
pub filled_zeros : (f : ℕ → ℕ) (n m : ℕ) → n ≤ m → ((i : ℕ) → n ≤ i → f i ≡ 0) → filled f n (replicate m 0) ≡ tabulate m f
filled_zeros f n m h z =
    ext_get_or 0 (filled f n (replicate m 0)) (tabulate m f) (size ∙ sym (length_tabulate m f)) (λ i l. at i (rw size at l) (dec_lt i n))
  where
    size : length (filled f n (replicate m 0)) ≡ m
    size = length_filled f n (replicate m 0) (rw length-replicate h) ∙ length-replicate m 0

    at : (i : ℕ) → i < m → Dec (i < n) → get_or (filled f n (replicate m 0)) i 0 ≡ get_or (tabulate m f) i 0
    at i l (yes a) = filled_at f n i (replicate m 0) 0 a ∙ sym (get_d_tabulate m f i 0 l)
    at i l (no a) =
        filled_rest f n i (replicate m 0) 0 (omega arith) (rw length-replicate l)
        ∙ get_or-replicate m i 0 0 l ∙ sym (z i (omega arith)) ∙ sym (get_d_tabulate m f i 0 l)

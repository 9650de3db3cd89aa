-- Parts of a buffer. In order: a part lies within its buffer; bytes with others in their place, what stands where then, and how a
-- part that is lent and filled leaves them; parts of equal length, of which one changes. Assumes nothing.
use mathlib.Core.Path.{◌≡◌, refl, sym, ap, ap₂, ◌∙◌}
use mathlib.Core.List.{List, ◌++◌, append-nil, append_assoc}
use Prim.Native.Nat.{ℕ, ◌+◌, ◌-◌, ◌*◌, ◌≤◌, ◌<◌}
use native.Mathlib.Nat.{mul-le-mul_right}
use native.Mathlib.Omega.{arith}
use native.Mathlib.Decide.{dec_lt}
use lib.ListN.{length, get_or, take, drop, length-append, length-drop, drop_of_length-le, take-append-drop, get_or-append}
use lib.Seq.{get_or-drop, get_or-take, length-take-le, take_all, take_at, drop_at, drop-drop, drop-append-le, take-append-le, take-length}
use Rattle.laws.specs.Parts.{part, over}

-- ---- a part lies within its buffer

-- part i of m parts of e bytes ends within them
pub part_fits : (i m e : ℕ) → i < m → i * e + e ≤ m * e
part_fits i m e h = omega (arith, mul-le-mul_right e h)

-- the part of w bytes from `at` on, as the code lends it
pub lent_is : (buffer : List ℕ) (at w : ℕ) → take (at + w - at) (drop at buffer) ≡ take w (drop at buffer)
lent_is buffer at w = let e : at + w - at ≡ w = omega arith in ap (λ (n : ℕ). take n (drop at buffer)) e

pub taken_length : (buffer : List ℕ) (at w : ℕ) → at + w ≤ length buffer → length (take w (drop at buffer)) ≡ w
taken_length buffer at w h = length-take-le w (drop at buffer) (omega (arith, h, length-drop at buffer))

pub lent_length : (buffer : List ℕ) (at w : ℕ) → at + w ≤ length buffer → length (take (at + w - at) (drop at buffer)) ≡ w
lent_length buffer at w h = ap length (lent_is buffer at w) ∙ taken_length buffer at w h

pub part_length : (n i m : ℕ) (buffer : List ℕ) → i < m → length buffer ≡ m * n → length (part n i buffer) ≡ n
part_length n i m buffer h whole = taken_length buffer (i * n) n (omega (arith, part_fits i m n h, whole))

-- ---- bytes with others in their place

module _ (at n : ℕ) (xs buffer : List ℕ) (long : length xs ≡ n) (room : at + n ≤ length buffer) where
  front : length (take at buffer) ≡ at
  front = length-take-le at buffer (omega arith)

  pub over_length : length (over at n xs buffer) ≡ length buffer
  over_length =
      length-append (take at buffer) (xs ++ drop (at + n) buffer)
      ∙ omega (arith, front, length-append xs (drop (at + n) buffer), length-drop (at + n) buffer)

  -- at the place
  pub over_there : take n (drop at (over at n xs buffer)) ≡ xs
  over_there =
      ap (take n) (drop_at (take at buffer) (xs ++ drop (at + n) buffer) at front) ∙ take_at xs (drop (at + n) buffer) n long

  -- from its end on
  pub over_rest : drop (at + n) (over at n xs buffer) ≡ drop (at + n) buffer
  over_rest =
      ap (drop (at + n)) (sym (append_assoc (take at buffer) xs (drop (at + n) buffer)))
      ∙ drop_at (take at buffer ++ xs) (drop (at + n) buffer) (at + n) (length-append (take at buffer) xs ∙ omega (arith, front))

  pub over_after : (from size : ℕ) → at + n ≤ from → take size (drop from (over at n xs buffer)) ≡ take size (drop from buffer)
  over_after from size h =
      let d : at + n + (from - (at + n)) ≡ from = omega arith in
      ap (λ (k : ℕ). take size (drop k (over at n xs buffer))) (sym d)
      ∙ ap (take size)
      (sym (drop-drop (from - (at + n)) (at + n) (over at n xs buffer)) ∙ ap (drop (from - (at + n))) over_rest
      ∙ drop-drop (from - (at + n)) (at + n) buffer)
      ∙ ap (λ (k : ℕ). take size (drop k buffer)) d

  -- before it
  pub over_before : (from size : ℕ) → from + size ≤ at → take size (drop from (over at n xs buffer)) ≡ take size (drop from buffer)
  over_before from size h =
      let inside : length (drop from (take at buffer)) ≡ at - from = length-drop from (take at buffer) ∙ ap (λ (k : ℕ). k - from) front in
      looks inside (xs ++ drop (at + n) buffer)
      ∙ sym (ap (λ (l : List ℕ). take size (drop from l)) (sym (take-append-drop at buffer)) ∙ looks inside (drop at buffer))
    where
      looks : length (drop from (take at buffer)) ≡ at - from → (tail : List ℕ)
          → take size (drop from (take at buffer ++ tail)) ≡ take size (drop from (take at buffer))
      looks inside tail =
          ap (take size) (drop-append-le from (take at buffer) tail (omega (arith, front)))
          ∙ take-append-le size (drop from (take at buffer)) tail (omega arith)

  -- byte by byte
  pub over_byte : (j : ℕ) → j < n → get_or (over at n xs buffer) (at + j) 0 ≡ get_or xs j 0
  over_byte j h =
      sym (get_or-drop at (over at n xs buffer) j 0)
      ∙ sym (get_or-take n (drop at (over at n xs buffer)) j 0 h)
      ∙ ap (λ (l : List ℕ). get_or l j 0) over_there

  pub over_byte_before : (i : ℕ) → i < at → get_or (over at n xs buffer) i 0 ≡ get_or buffer i 0
  over_byte_before i h =
      get_or-append (take at buffer) (xs ++ drop (at + n) buffer) 0 i (omega (arith, front)) ∙ get_or-take at buffer i 0 h

  pub over_byte_after : (i : ℕ) → at + n ≤ i → get_or (over at n xs buffer) i 0 ≡ get_or buffer i 0
  over_byte_after i h =
      let d : at + n + (i - (at + n)) ≡ i = omega arith in
      ap (λ (k : ℕ). get_or (over at n xs buffer) k 0) (sym d)
      ∙ sym (get_or-drop (at + n) (over at n xs buffer) (i - (at + n)) 0)
      ∙ ap (λ (l : List ℕ). get_or l (i - (at + n)) 0) over_rest
      ∙ get_or-drop (at + n) buffer (i - (at + n)) 0
      ∙ ap (λ (k : ℕ). get_or buffer k 0) d

-- a part that is put back as it was
pub over_same : (at n : ℕ) (buffer : List ℕ) → over at n (take n (drop at buffer)) buffer ≡ buffer
over_same at n buffer =
    ap (λ (l : List ℕ). take at buffer ++ (take n (drop at buffer) ++ l)) (sym (drop-drop n at buffer))
    ∙ ap (λ (l : List ℕ). take at buffer ++ l) (take-append-drop n (drop at buffer))
    ∙ take-append-drop at buffer

-- a part of n bytes from `at` on that is lent and left as ys, as the code puts it back
pub over_back : (at n : ℕ) (ys buffer : List ℕ) → take at buffer ++ (ys ++ drop n (drop at buffer)) ≡ over at n ys buffer
over_back at n ys buffer = ap (λ (l : List ℕ). take at buffer ++ (ys ++ l)) (drop-drop n at buffer)

-- the same, with its end
pub over_lent : (at n : ℕ) (ys buffer : List ℕ)
    → take at buffer ++ (ys ++ drop (at + n - at) (drop at buffer)) ≡ over at n ys buffer
over_lent at n ys buffer =
    let e : at + n - at ≡ n = omega arith in
    ap (λ (k : ℕ). take at buffer ++ (ys ++ drop k (drop at buffer))) e ∙ over_back at n ys buffer

-- bytes copied over as many others
pub copied : (xs ys : List ℕ) (n : ℕ) → n ≡ length xs → length ys ≡ length xs → take n xs ++ drop n ys ≡ xs
copied xs ys n e h =
    ap₂ (λ (a b : List ℕ). a ++ b) (take_all n xs (omega arith)) (drop_of_length-le ys {i = n} (omega arith)) ∙ append-nil xs

-- a part that is lent, and that xs is copied to and fills
pub over_copied : (at n : ℕ) (xs buffer ys : List ℕ) → length xs ≡ n → at + n ≤ length buffer
    → ys ≡ take (length xs) xs ++ drop (length xs) (take (at + n - at) (drop at buffer))
    → take at buffer ++ (ys ++ drop (at + n - at) (drop at buffer)) ≡ over at n xs buffer
over_copied at n xs buffer ys long room e =
    let filled : ys ≡ xs =
    e ∙ copied xs (take (at + n - at) (drop at buffer)) (length xs) refl (lent_length buffer at n room ∙ sym long) in
    ap (λ (l : List ℕ). take at buffer ++ (l ++ drop (at + n - at) (drop at buffer))) filled ∙ over_lent at n xs buffer

-- the same where all of the buffer from `at` on is lent
pub over_copied_rest : (at n : ℕ) (xs buffer ys : List ℕ) → length xs ≡ n → at + n ≤ length buffer
    → ys ≡ take (length xs) xs ++ drop (length xs) (take (length buffer - at) (drop at buffer))
    → take at buffer ++ (ys ++ drop (length buffer - at) (drop at buffer)) ≡ over at n xs buffer
over_copied_rest at n xs buffer ys long room e =
    ap (λ (l : List ℕ). take at buffer ++ l)
    (ap₂ (λ (a b : List ℕ). a ++ b) e (drop_of_length-le (drop at buffer) {i = length buffer - at} (omega (arith, length-drop at buffer)))
    ∙ append-nil (take (length xs) xs ++ drop (length xs) (take (length buffer - at) (drop at buffer)))
    ∙ ap₂ (λ (a b : List ℕ). a ++ b) (take-length xs)
    (ap₂ (λ (k : ℕ) (l : List ℕ). drop k l) long (take_all (length buffer - at) (drop at buffer) (omega (arith, length-drop at buffer)))
    ∙ drop-drop n at buffer))

-- ---- parts of n bytes, of which part i changes

module _ (n i : ℕ) (xs buffer : List ℕ) (long : length xs ≡ n) (room : i * n + n ≤ length buffer) where
  pub part_own : part n i (over (i * n) n xs buffer) ≡ xs
  part_own = over_there (i * n) n xs buffer long room

  pub part_other : (j : ℕ) → (j ≡ i → ⊥) → part n j (over (i * n) n xs buffer) ≡ part n j buffer
  part_other j ne = elim (dec_lt j i) as (λ _. part n j (over (i * n) n xs buffer) ≡ part n j buffer) [
    | yes h ↦ over_before (i * n) n xs buffer long room (j * n) n (part_fits j i n h)
    | no h ↦
        let above : i < j = omega (arith, h, ne) in
        over_after (i * n) n xs buffer long room (j * n) n (part_fits i j n above)
  ]

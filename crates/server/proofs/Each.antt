-- What stands from one place to another: a step of a walk, its end, one more at the end, one changed. Assumes nothing.
use Rattle.std.proofs.Common.{◌≡◌, ℕ, zero, suc, ◌+◌, ◌-◌, ◌<◌, ◌≤◌, Bool, true, false, cond, ◌&&◌, ◌||◌, ◌⊎◌, List, [], ◌∷◌, ◌++◌, length, get_or, take, drop, sym, refl, ap, ◌∙◌, ap₂, inl, inr, add-one, arith}
use Rattle.std.proofs.Math.Seq.{drop-cons}
use Rattle.std.proofs.Math.ListN.{drop_of_length-le}
use Rattle.std.specs.List.{list_all}
use native.Mathlib.Decide.{ℕ_discrete}
use Rattle.laws.proofs.Bools.{and_left, and_right}
use Rattle.config.specs.declared.Config.{Config}
use Rattle.tag.specs.declared.Tag.{Tag}
use Rattle.tag.specs.Tag.{above, same, start}
use Rattle.protocol.proofs.Basics.{or_left, or_right}
use Rattle.server.specs.declared.places.Least.{Least}
use Rattle.server.specs.inner.Places.{least_from}
use Rattle.server.specs.Within.{among, every, once}
use Rattle.server.specs.View.{each, place_in, tag_at}

module _ {A : Type 0} where
  -- from place i up to n: a first one and the rest, or none
  pub each_step : (f : ℕ → A) (i n : ℕ) → i < n → each f i (n - i) ≡ f i ∷ each f (i + 1) (n - (i + 1))
  unfolding each
  each_step f i n h =
      let e : n - i ≡ suc (n - (i + 1)) = omega arith in
      rw (e, add-one i)

  pub each_end : (f : ℕ → A) (i n : ℕ) → n ≤ i → each f i (n - i) ≡ []
  unfolding each
  each_end f i n h =
      let e : n - i ≡ 0 = omega arith in
      rw e

  pub length_each : (f : ℕ → A) (i n : ℕ) → length (each f i n) ≡ n
  unfolding each
  length_each f i zero = refl
  length_each f i (suc n) = ap suc (length_each f (suc i) n)

  -- two that agree at these places
  pub each_same : (f g : ℕ → A) (i n : ℕ) → ((j : ℕ) → i ≤ j → j < i + n → f j ≡ g j) → each f i n ≡ each g i n
  unfolding each
  each_same f g i zero h = refl
  each_same f g i (suc n) h =
      ap₂ {A = A} (λ (x : A) (xs : List A). x ∷ xs) (h i (omega arith) (omega arith))
      (each_same f g (suc i) n (λ j lo hi. h j (omega arith) (omega arith)))

  -- one more at the end
  pub each_last : (f : ℕ → A) (i n : ℕ) → each f i (n + 1) ≡ each f i n ++ f (i + n) ∷ []
  unfolding each
  each_last f i zero =
      let e : i ≡ i + 0 = omega arith in
      ap (λ (j : ℕ). f j ∷ []) e
  each_last f i (suc n) =
      let e : suc i + n ≡ i + suc n = omega arith in
      ap (λ (m : ℕ). each f i m) (add-one (suc n))
      ∙ ap {B = List A} (λ xs. f i ∷ xs) (ap (λ (m : ℕ). each f (suc i) m) (sym (add-one n)) ∙ each_last f (suc i) n ∙ ap (λ (j : ℕ). each f (suc i) n ++ f j ∷ []) e)

  -- the elements of a list from place i on
  pub each_take : (xs : List A) (d : A) (i n : ℕ) → i + n ≤ length xs → each (λ (j : ℕ). get_or xs j d) i n ≡ take n (drop i xs)
  unfolding each
  each_take xs d i zero h = refl
  each_take xs d i (suc n) h =
      let below : i < length xs = omega arith in
      rw (drop-cons xs i d below) (ap (λ (ys : List A). get_or xs i d ∷ ys) (each_take xs d (suc i) n (omega arith)))

  pub each_first : (xs : List A) (d : A) (n : ℕ) → n ≤ length xs → each (λ (j : ℕ). get_or xs j d) 0 n ≡ take n xs
  each_first xs d n h = each_take xs d 0 n (omega arith)

  -- a test of every one, as the library has it
  every_all : (test : A → Bool) (xs : List A) → every test xs ≡ list_all test xs
  unfolding every
  every_all test [] = refl
  every_all test (x ∷ xs) = ap (λ (b : Bool). test x && b) (every_all test xs)

  pub every_take : (test : A → Bool) (xs : List A) (d : A) (n : ℕ) → n ≤ length xs → every test (each (λ (j : ℕ). get_or xs j d) 0 n) ≡ list_all test (take n xs)
  every_take test xs d n h = ap (every test) (each_first xs d n h) ∙ every_all test (take n xs)

-- a test of every one
module _ {A : Type 0} (f : ℕ → A) (i n : ℕ) (test : A → Bool) where
  pub every_no : i < n → test (f i) ≡ false → every test (each f i (n - i)) ≡ false
  unfolding every
  every_no h e = rw (each_step f i n h, e)

  pub every_yes : i < n → test (f i) ≡ true → every test (each f i (n - i)) ≡ every test (each f (i + 1) (n - (i + 1)))
  unfolding every
  every_yes h e = rw (each_step f i n h, e)

  pub every_end : n ≤ i → every test (each f i (n - i)) ≡ true
  unfolding every
  every_end h = rw (each_end f i n h)

-- the lowest tag of those from place i on
module _ (ts : List Tag) (i : ℕ) (cfg : Config) (t : Tag) (p : ℕ) where
  pub least_lower : i < length ts → above cfg t (tag_at ts i) ≡ true
      → least_from cfg t p i (drop i ts) ≡ least_from cfg (tag_at ts i) i (i + 1) (drop (i + 1) ts)
  unfolding least_from
  least_lower h e = rw (drop-cons ts i start h, e, add-one i)

  pub least_other : i < length ts → above cfg t (tag_at ts i) ≡ false → least_from cfg t p i (drop i ts) ≡ least_from cfg t p (i + 1) (drop (i + 1) ts)
  unfolding least_from
  least_other h e = rw (drop-cons ts i start h, e, add-one i)

  pub least_end : length ts ≤ i → least_from cfg t p i (drop i ts) ≡ record { tag = t; place = p }
  unfolding least_from
  least_end h = rw (drop_of_length-le ts h)

module _ (f : ℕ → Tag) (i n : ℕ) where
  -- every tag once
  pub once_no : i < n → among (f i) (each f (i + 1) (n - (i + 1))) ≡ true → once (each f i (n - i)) ≡ false
  unfolding once
  once_no h e = rw (each_step f i n h, e)

  pub once_yes : i < n → among (f i) (each f (i + 1) (n - (i + 1))) ≡ false → once (each f i (n - i)) ≡ once (each f (i + 1) (n - (i + 1)))
  unfolding once
  once_yes h e = rw (each_step f i n h, e)

  pub once_end : n ≤ i → once (each f i (n - i)) ≡ true
  unfolding once
  once_end h = rw (each_end f i n h)

-- a tag is among others exactly if its place is one of theirs
below_by : (b : Bool) (p n : ℕ) (a : Bool) → (p < n → a ≡ true) → cond b 0 (suc p) < suc n → b || a ≡ true
below_by true p n a h lt = refl
below_by false p n a h lt = h (omega arith)

pub place_among : (t : Tag) (ts : List Tag) → place_in t ts < length ts → among t ts ≡ true
unfolding place_in among
place_among t [] h = absurd (omega arith)
place_among t (x ∷ xs) h = below_by (same x t) (place_in t xs) (length xs) (among t xs) (place_among t xs) h

past_by : (b : Bool) (p n : ℕ) (a : Bool) → (n ≤ p → a ≡ false) → suc n ≤ cond b 0 (suc p) → b || a ≡ false
past_by true p n a h le = absurd (omega arith)
past_by false p n a h le = h (omega arith)

pub place_not_among : (t : Tag) (ts : List Tag) → length ts ≤ place_in t ts → among t ts ≡ false
unfolding place_in among
place_not_among t [] h = refl
place_not_among t (x ∷ xs) h = past_by (same x t) (place_in t xs) (length xs) (among t xs) (place_not_among t xs) h

-- a test of all, at one place
pub every_at : {A : Type 0} (f : ℕ → A) (test : A → Bool) (i n p : ℕ) → every test (each f i n) ≡ true → i ≤ p → p < i + n → test (f p) ≡ true
unfolding every each
every_at f test i zero p h lo hi = absurd (omega arith)
every_at f test i (suc n) p h lo hi = elim (ℕ_discrete i p) as (λ _. test (f p) ≡ true) [
  | yes e ↦ ap (λ (j : ℕ). test (f j)) (sym e) ∙ and_left (test (f i)) (every test (each f (suc i) n)) h
  | no ne ↦ every_at f test (suc i) n p (and_right (test (f i)) (every test (each f (suc i) n)) h) (omega arith) (omega arith)
]

-- a tag that is not there, at one place
module _ (f : ℕ → Tag) where
  pub among_at : (t : Tag) (i n p : ℕ) → among t (each f i n) ≡ false → i ≤ p → p < i + n → same (f p) t ≡ false
  unfolding among each
  among_at t i zero p h lo hi = absurd (omega arith)
  among_at t i (suc n) p h lo hi = elim (ℕ_discrete i p) as (λ _. same (f p) t ≡ false) [
    | yes e ↦ ap (λ (j : ℕ). same (f j) t) (sym e) ∙ or_left (same (f i) t) (among t (each f (suc i) n)) h
    | no ne ↦ among_at t (suc i) n p (or_right (same (f i) t) (among t (each f (suc i) n)) h) (omega arith) (omega arith)
  ]

-- the lowest is the tag that was given, or stands at its place
abbrev pub Lowest : (ℕ → Tag) → Tag → ℕ → ℕ → ℕ → Least → Type 0
Lowest f t p i n l = ((l.place ≡ p) × (l.tag ≡ t)) ⊎ ((i ≤ l.place) × (l.place < i + n) × (f l.place ≡ l.tag))

one_lower : (f : ℕ → Tag) (t : Tag) (p i n : ℕ) (l : Least) → Lowest f (f i) i (suc i) n l → Lowest f t p i (suc n) l
one_lower f t p i n l (inl w) = inr (omega (arith, w.0), omega (arith, w.0), ap f w.0 ∙ sym w.1)
one_lower f t p i n l (inr w) = inr (omega (arith, w.0), omega (arith, w.1), w.2)

one_other : (f : ℕ → Tag) (t : Tag) (p i n : ℕ) (l : Least) → Lowest f t p (suc i) n l → Lowest f t p i (suc n) l
one_other f t p i n l (inl w) = inl w
one_other f t p i n l (inr w) = inr (omega (arith, w.0), omega (arith, w.1), w.2)

by_test : (f : ℕ → Tag) (t : Tag) (p i n : ℕ) (b : Bool) (l m : Least) → Lowest f t p i n l → Lowest f t p i n m → Lowest f t p i n (cond b l m)
by_test f t p i n true l m x y = x
by_test f t p i n false l m x y = y

pub lowest_place : (cfg : Config) (f : ℕ → Tag) (t : Tag) (p i n : ℕ) → Lowest f t p i n (least_from cfg t p i (each f i n))
unfolding least_from each
lowest_place cfg f t p i zero = inl (refl, refl)
lowest_place cfg f t p i (suc n) =
    by_test f t p i (suc n) (above cfg t (f i)) (least_from cfg (f i) i (suc i) (each f (suc i) n)) (least_from cfg t p (suc i) (each f (suc i) n))
    (one_lower f t p i n _ (lowest_place cfg f (f i) i (suc i) n)) (one_other f t p i n _ (lowest_place cfg f t p (suc i) n))

-- the first place of a tag from place i on: it is here, it is further on, or there is none
module _ (f : ℕ → Tag) (i n : ℕ) (t : Tag) where
  pub place_hit : i < n → same (f i) t ≡ true → place_in t (each f i (n - i)) ≡ 0
  unfolding place_in
  place_hit h e = rw (each_step f i n h, e)

  pub place_miss : i < n → same (f i) t ≡ false → place_in t (each f i (n - i)) ≡ suc (place_in t (each f (i + 1) (n - (i + 1))))
  unfolding place_in
  place_miss h e = rw (each_step f i n h, e)

  pub place_end : n ≤ i → place_in t (each f i (n - i)) ≡ 0
  unfolding place_in
  place_end h = rw (each_end f i n h)

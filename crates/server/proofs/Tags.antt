-- Lists of tags: what is among them, the lowest of them, one replaced. Assumes nothing.
use Rattle.std.proofs.Common.{◌≡◌, suc, ◌≤◌, Bool, true, false, cond, not, ◌&&◌, ◌||◌, eqb, ltb, leb, ◌⊎◌, List, [], ◌∷◌, ◌++◌, length, sym, refl, ap, ◌∙◌, inl, inr, ⊎_elim, true≢false, arith, ltb-false, ltb-true, eqb-true, le-leb}
use borrow.Author.Tests.{eqb-false, not-true}
use Rattle.laws.proofs.Bools.{and_left, and_right}
use Rattle.config.specs.declared.Config.{Config}
use Rattle.config.specs.Config.{Valid}
use Rattle.tag.specs.declared.Tag.{Tag}
use Rattle.tag.specs.Tag.{allowed, key, same}
use Rattle.tag.proofs.Order.{Small, key_one, same_one, same_self, small}
use Rattle.protocol.specs.Tags.{lower}
use Rattle.protocol.proofs.Basics.{or_left, or_right}
use Rattle.server.specs.Within.{among, every, once}

-- tests that are joined
pub or_true : (a b : Bool) → (a || b) ≡ true → (a ≡ true) ⊎ (b ≡ true)
or_true true b h = inl refl
or_true false b h = inr h

pub or_first : (a b : Bool) → a ≡ true → (a || b) ≡ true
or_first true b h = refl
or_first false b h = absurd (true≢false (sym h))

pub or_second : (a b : Bool) → b ≡ true → (a || b) ≡ true
or_second true b h = refl
or_second false b h = h

pub both : (a b : Bool) → a ≡ true → b ≡ true → a && b ≡ true
both a b p q = rw (p, q)

-- sameness of tags is one way round as the other
pub same_turned : (a b : Tag) → same a b ≡ false → same b a ≡ false
same_turned a b h = go (same b a) refl
  where
    go : (x : Bool) → same b a ≡ x → x ≡ false
    go true e = absurd (true≢false (sym (same_self a) ∙ ap (λ (t : Tag). same a t) (sym (same_one b a e)) ∙ h))
    go false e = refl

-- a test of every tag, and of each that is among them
pub every_in : (test : Tag → Bool) (ts : List Tag) (t : Tag) → every test ts ≡ true → among t ts ≡ true → test t ≡ true
unfolding every among
every_in test [] t h i = absurd (true≢false (sym i))
every_in test (x ∷ xs) t h i =
    ⊎_elim (λ e. ap test (sym (same_one x t e)) ∙ and_left (test x) (every test xs) h)
    (λ e. every_in test xs t (and_right (test x) (every test xs) h) e) (or_true (same x t) (among t xs) i)

pub in_every : (test : Tag → Bool) (ts : List Tag) → ((t : Tag) → among t ts ≡ true → test t ≡ true) → every test ts ≡ true
unfolding every among
in_every test [] h = refl
in_every test (x ∷ xs) h =
    both (test x) (every test xs) (h x (or_first (same x x) (among x xs) (same_self x)))
    (in_every test xs (λ t i. h t (or_second (same x t) (among t xs) i)))

-- one more at the end
pub among_last : (t x : Tag) (ts : List Tag) → among t (ts ++ x ∷ []) ≡ among t ts || same x t
unfolding among
among_last t x [] = go (same x t)
  where
    go : (b : Bool) → b || false ≡ b
    go true = refl
    go false = refl
among_last t x (y ∷ ys) = rw (among_last t x ys) (go (same y t) (among t ys) (same x t))
  where
    go : (a b c : Bool) → a || (b || c) ≡ a || b || c
    go true b c = refl
    go false b c = refl

pub every_last : {A : Type 0} (test : A → Bool) (x : A) (ts : List A) → every test ts ≡ true → test x ≡ true → every test (ts ++ x ∷ []) ≡ true
unfolding every
every_last test x [] h e = rw e
every_last test x (y ∷ ys) h e =
    both (test y) (every test (ys ++ x ∷ [])) (and_left (test y) (every test ys) h) (every_last test x ys (and_right (test y) (every test ys) h) e)

or_no : (a b : Bool) → a ≡ false → b ≡ false → (a || b) ≡ false
or_no a b p q = rw (p, q)

not_no : (b : Bool) → b ≡ false → not b ≡ true
not_no b h = rw h

pub once_last : (x : Tag) (ts : List Tag) → once ts ≡ true → among x ts ≡ false → once (ts ++ x ∷ []) ≡ true
unfolding once among
once_last x [] h a = refl
once_last x (y ∷ ys) h a =
    both (not (among y (ys ++ x ∷ []))) (once (ys ++ x ∷ []))
    (not_no (among y (ys ++ x ∷ []))
    (among_last y x ys
    ∙ or_no (among y ys) (same x y) (not-true (among y ys) (and_left (not (among y ys)) (once ys) h)) (same_turned y x (or_left (same y x) (among x ys) a))))
    (once_last x ys (and_right (not (among y ys)) (once ys) h) (or_right (same y x) (among x ys) a))

-- what does not hold
pub not_in : (b : Bool) → (b ≡ true → ⊥) → b ≡ false
not_in true h = absurd (h refl)
not_in false h = refl

module _ (cfg : Config) where
  -- the lowest of t and of tags
  unfoldable pub lowest_of : Tag → List Tag → Tag
  lowest_of t [] = t
  lowest_of t (x ∷ xs) = lowest_of (lower (key cfg) t x) xs

  lower_by : (b : Bool) (t x : Tag) → ltb (key cfg x) (key cfg t) ≡ b → (key cfg (cond b x t) ≤ key cfg t) × (key cfg (cond b x t) ≤ key cfg x)
  lower_by true t x h = (omega (arith, ltb-true (key cfg x) (key cfg t) h), omega arith)
  lower_by false t x h = (omega arith, ltb-false (key cfg x) (key cfg t) h)

  lower_is : (t x : Tag) → (key cfg (lower (key cfg) t x) ≤ key cfg t) × (key cfg (lower (key cfg) t x) ≤ key cfg x)
  unfolding lower
  lower_is t x = lower_by (ltb (key cfg x) (key cfg t)) t x refl

  pub lowest_first : (t : Tag) (ts : List Tag) → key cfg (lowest_of t ts) ≤ key cfg t
  unfolding lowest_of
  lowest_first t [] = omega arith
  lowest_first t (x ∷ xs) = omega (arith, lowest_first (lower (key cfg) t x) xs, lower_is t x)

  pub lowest_all : (t : Tag) (ts : List Tag) → every (λ (x : Tag). leb (key cfg (lowest_of t ts)) (key cfg x)) ts ≡ true
  unfolding lowest_of every
  lowest_all t [] = refl
  lowest_all t (x ∷ xs) =
      let low : Tag = lowest_of (lower (key cfg) t x) xs in
      both (leb (key cfg low) (key cfg x)) (every (λ (y : Tag). leb (key cfg low) (key cfg y)) xs)
      (le-leb (key cfg low) (key cfg x) (omega (arith, lowest_first (lower (key cfg) t x) xs, lower_is t x))) (lowest_all (lower (key cfg) t x) xs)

  one_of : (b : Bool) (t x : Tag) → (cond b x t ≡ t) ⊎ (cond b x t ≡ x)
  one_of true t x = inr refl
  one_of false t x = inl refl

  lower_one : (t x : Tag) → (lower (key cfg) t x ≡ t) ⊎ (lower (key cfg) t x ≡ x)
  unfolding lower
  lower_one t x = one_of (ltb (key cfg x) (key cfg t)) t x

  found_one : (t x low : Tag) (rest : Bool) → (low ≡ t) ⊎ (low ≡ x) → (low ≡ t) ⊎ (same x low || rest ≡ true)
  found_one t x low rest (inl w) = inl w
  found_one t x low rest (inr w) = inr (or_first (same x low) rest (ap (λ (y : Tag). same x y) w ∙ same_self x))

  pub lowest_in : (t : Tag) (ts : List Tag) → (lowest_of t ts ≡ t) ⊎ (among (lowest_of t ts) ts ≡ true)
  unfolding lowest_of among
  lowest_in t [] = inl refl
  lowest_in t (x ∷ xs) =
      let low : Tag = lowest_of (lower (key cfg) t x) xs in
      ⊎_elim
      (λ e. found_one t x low (among low xs) (⊎_elim (λ w. inl (e ∙ w)) (λ w. inr (e ∙ w)) (lower_one t x)))
      (λ i. inr (or_second (same x low) (among low xs) i)) (lowest_in (lower (key cfg) t x) xs)

  -- u replaced by t
  unfoldable pub replaced : Tag → Tag → List Tag → List Tag
  replaced u t [] = []
  replaced u t (x ∷ xs) = cond (eqb (key cfg x) (key cfg u)) (t ∷ xs) (x ∷ replaced u t xs)

  long_by : (b : Bool) (t x : Tag) (xs ys : List Tag) → length ys ≡ length xs → length (cond b (t ∷ xs) (x ∷ ys)) ≡ suc (length xs)
  long_by true t x xs ys h = refl
  long_by false t x xs ys h = ap suc h

  in_by : (b : Bool) (t x y : Tag) (ys zs : List Tag) → (among x zs ≡ true → (among x ys ≡ true) ⊎ (t ≡ x)) → among x (cond b (t ∷ ys) (y ∷ zs)) ≡ true
      → (same y x || among x ys ≡ true) ⊎ (t ≡ x)
  unfolding among
  in_by true t x y ys zs f h = ⊎_elim (λ e. inr (same_one t x e)) (λ e. inl (or_second (same y x) (among x ys) e)) (or_true (same t x) (among x ys) h)
  in_by false t x y ys zs f h =
      ⊎_elim (λ e. inl (or_first (same y x) (among x ys) e))
      (λ e. ⊎_elim (λ i. inl (or_second (same y x) (among x ys) i)) (λ i. inr i) (f e)) (or_true (same y x) (among x zs) h)

  keeps_by : (b : Bool) (u t x y : Tag) (ys zs : List Tag) → eqb (key cfg y) (key cfg u) ≡ b → (key cfg x ≡ key cfg u → ⊥) → (among x ys ≡ true → among x zs ≡ true)
      → same y x || among x ys ≡ true → among x (cond b (t ∷ ys) (y ∷ zs)) ≡ true
  unfolding among
  keeps_by true u t x y ys zs e ne f h =
      ⊎_elim (λ i. absurd (ne (sym (ap (key cfg) (same_one y x i)) ∙ eqb-true (key cfg y) (key cfg u) e))) (λ i. or_second (same t x) (among x ys) i)
      (or_true (same y x) (among x ys) h)
  keeps_by false u t x y ys zs e ne f h =
      ⊎_elim (λ i. or_first (same y x) (among x zs) i) (λ i. or_second (same y x) (among x zs) (f i)) (or_true (same y x) (among x ys) h)

  new_by : (b : Bool) (u t y : Tag) (ys zs : List Tag) → eqb (key cfg y) (key cfg u) ≡ b → (among u ys ≡ true → among t zs ≡ true) → same y u || among u ys ≡ true
      → among t (cond b (t ∷ ys) (y ∷ zs)) ≡ true
  unfolding among
  new_by true u t y ys zs e f h = or_first (same t t) (among t ys) (same_self t)
  new_by false u t y ys zs e f h =
      ⊎_elim (λ i. absurd (eqb-false (key cfg y) (key cfg u) e (ap (key cfg) (same_one y u i)))) (λ i. or_second (same y t) (among t zs) (f i))
      (or_true (same y u) (among u ys) h)

  pub replaced_long : (u t : Tag) (ts : List Tag) → length (replaced u t ts) ≡ length ts
  unfolding replaced
  replaced_long u t [] = refl
  replaced_long u t (x ∷ xs) = long_by (eqb (key cfg x) (key cfg u)) t x xs (replaced u t xs) (replaced_long u t xs)

  pub replaced_in : (u t x : Tag) (ts : List Tag) → among x (replaced u t ts) ≡ true → (among x ts ≡ true) ⊎ (t ≡ x)
  unfolding replaced among
  replaced_in u t x [] h = inl h
  replaced_in u t x (y ∷ ys) h = in_by (eqb (key cfg y) (key cfg u)) t x y ys (replaced u t ys) (replaced_in u t x ys) h

  pub replaced_keeps : (u t x : Tag) (ts : List Tag) → (key cfg x ≡ key cfg u → ⊥) → among x ts ≡ true → among x (replaced u t ts) ≡ true
  unfolding replaced among
  replaced_keeps u t x [] ne h = h
  replaced_keeps u t x (y ∷ ys) ne h =
      keeps_by (eqb (key cfg y) (key cfg u)) u t x y ys (replaced u t ys) refl ne (replaced_keeps u t x ys ne) h

  pub replaced_new : (u t : Tag) (ts : List Tag) → among u ts ≡ true → among t (replaced u t ts) ≡ true
  unfolding replaced among
  replaced_new u t [] h = absurd (true≢false (sym h))
  replaced_new u t (y ∷ ys) h = new_by (eqb (key cfg y) (key cfg u)) u t y ys (replaced u t ys) refl (replaced_new u t ys) h

  -- t takes u's place: every tag is still there once
  once_by : (b : Bool) (t x : Tag) (xs zs : List Tag) → among t xs ≡ false → once xs ≡ true → among x zs ≡ false → once zs ≡ true → once (cond b (t ∷ xs) (x ∷ zs)) ≡ true
  unfolding once
  once_by true t x xs zs a o b p = both (not (among t xs)) (once xs) (not_no (among t xs) a) o
  once_by false t x xs zs a o b p = both (not (among x zs)) (once zs) (not_no (among x zs) b) p

  pub once_replaced : (u t : Tag) (ts : List Tag) → once ts ≡ true → among t ts ≡ false → once (replaced u t ts) ≡ true
  unfolding replaced once among
  once_replaced u t [] o a = refl
  once_replaced u t (x ∷ xs) o a =
      let apart : among x xs ≡ false = not-true (among x xs) (and_left (not (among x xs)) (once xs) o) in
      let rest : once xs ≡ true = and_right (not (among x xs)) (once xs) o in
      let far : among t xs ≡ false = or_right (same x t) (among t xs) a in
      let gone : among x (replaced u t xs) ≡ false =
      not_in (among x (replaced u t xs))
      (λ i. ⊎_elim (λ w. true≢false (sym w ∙ apart))
      (λ w. true≢false (sym (same_self x) ∙ ap (λ (y : Tag). same x y) (sym w) ∙ or_left (same x t) (among t xs) a)) (replaced_in u t x xs i)) in
      once_by (eqb (key cfg x) (key cfg u)) t x xs (replaced u t xs) far rest gone (once_replaced u t xs rest far)

  -- and u is not
  module _ (valid : Valid cfg) (u t : Tag) (differ : key cfg t ≡ key cfg u → ⊥) where
    gone_by : (b : Bool) (x y : Tag) (ys zs : List Tag) → eqb (key cfg y) (key cfg u) ≡ b → allowed cfg.c y ≡ true → every (allowed cfg.c) ys ≡ true → among y ys ≡ false
        → (among x zs ≡ true → key cfg x ≡ key cfg u → ⊥) → among x (cond b (t ∷ ys) (y ∷ zs)) ≡ true → key cfg x ≡ key cfg u → ⊥
    unfolding among
    gone_by true x y ys zs e ay ays apart f h k =
        ⊎_elim (λ w. differ (ap (key cfg) (same_one t x w) ∙ k))
        (λ w.
        let sx : Small x = small cfg valid x (every_in (allowed cfg.c) ys x ays w) in
        let one : x ≡ y = key_one cfg valid x y sx (small cfg valid y ay) (k ∙ sym (eqb-true (key cfg y) (key cfg u) e)) in
        true≢false (sym w ∙ ap (λ (z : Tag). among z ys) one ∙ apart))
        (or_true (same t x) (among x ys) h)
    gone_by false x y ys zs e ay ays apart f h k =
        ⊎_elim (λ w. eqb-false (key cfg y) (key cfg u) e (ap (key cfg) (same_one y x w) ∙ k)) (λ w. f w k) (or_true (same y x) (among x zs) h)

    pub replaced_gone : (x : Tag) (ts : List Tag) → every (allowed cfg.c) ts ≡ true → once ts ≡ true → among x (replaced u t ts) ≡ true → key cfg x ≡ key cfg u → ⊥
    unfolding replaced once every among
    replaced_gone x [] a o h k = true≢false (sym h)
    replaced_gone x (y ∷ ys) a o h k =
        gone_by (eqb (key cfg y) (key cfg u)) x y ys (replaced u t ys) refl (and_left (allowed cfg.c y) (every (allowed cfg.c) ys) a)
        (and_right (allowed cfg.c y) (every (allowed cfg.c) ys) a) (not-true (among y ys) (and_left (not (among y ys)) (once ys) o))
        (replaced_gone x ys (and_right (allowed cfg.c y) (every (allowed cfg.c) ys) a) (and_right (not (among y ys)) (once ys) o)) h k

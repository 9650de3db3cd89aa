-- The order of what is stored tells nothing, where each stored tag is there once: two servers that differ in it answer alike, and differ in
-- it afterwards at most. Tags are compared by any key. Assumes nothing.
use Prim.Native.Nat.{ℕ, suc, ◌+◌, ◌≤◌, ◌<◌}
use mathlib.Core.Path.{◌≡◌, refl, sym, ◌∙◌, ap, ap₂, subst₂}
use mathlib.Core.Bool.{Bool, true, false, cond, ◌||◌}
use mathlib.Core.Option.{Option, none, some}
use mathlib.Core.List.{List, [], ◌∷◌, ◌++◌}
use lib.Dec.{ltb}
use lib.ListN.{length}
use borrow.Author.Tests.{eqb-false, eqb-true, le-ltb, lt-ltb, ltb-false, ltb-true, ne_eqb}
use native.Mathlib.Omega.{arith}
use Rattle.tag.specs.declared.Tag.{Tag}
use Rattle.record.specs.declared.Kind.{Kind}
use Rattle.record.specs.declared.Kind.TheVariants.{Query, QueryAnswer, PreWrite, PreWriteAnswer, WriteFinalise, WriteFinaliseAnswer, ReadFinalise, ReadFinaliseAnswer, Cleared}
use Rattle.record.specs.Message.{Message}
use Rattle.protocol.specs.Tags.{lower, same_key}
use Rattle.protocol.specs.Server.{Server, Stored, add_last, answer_to, at_or_below_floor, drop_smallest, element_of, finalised, in_place_of, is_stored, others, pre_write, query, read_answer, read_finalise, server_step, server_step_of, smallest, store, store_element, write_finalise}
use Rattle.protocol.specs.Alike.{StoredOnce, Reordered, SameButOrder, next, swap, then}
use Rattle.protocol.proofs.Basics.{cond_elim, or_left, or_right}

-- ---- lists

module _ {A : Type 0} where
  pub same_order : (xs : List A) → Reordered xs xs
  same_order [] = Reordered.none
  same_order (x ∷ xs) = next (same_order xs)

  pub reordered_long : {xs ys : List A} → Reordered xs ys → length xs ≡ length ys
  reordered_long Reordered.none = refl
  reordered_long (next r) = ap suc (reordered_long r)
  reordered_long swap = refl
  reordered_long (then r q) = reordered_long r ∙ reordered_long q

  reordered_last : (z : A) {xs ys : List A} → Reordered xs ys → Reordered (xs ++ z ∷ []) (ys ++ z ∷ [])
  reordered_last z Reordered.none = next Reordered.none
  reordered_last z (next r) = next (reordered_last z r)
  reordered_last z swap = swap
  reordered_last z (then r q) = then (reordered_last z r) (reordered_last z q)

pub or_swap : (a b c : Bool) → a || (b || c) ≡ b || (a || c)
or_swap true true c = refl
or_swap true false c = refl
or_swap false b c = refl

-- of two choices, of which not both are taken
choose_swap : {A : Type 0} (a b : Bool) (x y z : A) → (a ≡ true → b ≡ true → ⊥) → cond a x (cond b y z) ≡ cond b y (cond a x z)
choose_swap true true x y z h = absurd (h refl refl)
choose_swap true false x y z h = refl
choose_swap false true x y z h = refl
choose_swap false false x y z h = refl

-- ---- the lower of tags that differ

module _ (key : Tag → ℕ) where
  is_new : (t u : Tag) → key u < key t → lower key t u ≡ u
  unfolding lower
  is_new t u h = rw (lt-ltb (key u) (key t) h)

  is_old : (t u : Tag) → key t ≤ key u → lower key t u ≡ t
  unfolding lower
  is_old t u h = rw (le-ltb (key u) (key t) h)

  -- the lowest of three, two of which differ
  lower_swap : (t x y : Tag) → (key x ≡ key y → ⊥) → lower key (lower key t x) y ≡ lower key (lower key t y) x
  lower_swap t x y ne = go (ltb (key x) (key t)) (ltb (key y) (key t)) (ltb (key y) (key x)) refl refl refl
    where
      by : (u v w : Tag) → lower key t x ≡ u → lower key t y ≡ v → lower key u y ≡ w → lower key v x ≡ w
          → lower key (lower key t x) y ≡ lower key (lower key t y) x
      by u v w a b c d = rw (a, b, c, d)

      go : (a b c : Bool) → ltb (key x) (key t) ≡ a → ltb (key y) (key t) ≡ b → ltb (key y) (key x) ≡ c
          → lower key (lower key t x) y ≡ lower key (lower key t y) x
      go true true true ea eb ec =
          let lx = ltb-true (key x) (key t) ea in
          let ly = ltb-true (key y) (key t) eb in
          let lyx = ltb-true (key y) (key x) ec in
          by x y y (is_new t x lx) (is_new t y ly) (is_new x y lyx) (is_old y x (omega arith))
      go true true false ea eb ec =
          let lx = ltb-true (key x) (key t) ea in
          let ly = ltb-true (key y) (key t) eb in
          let lxy = ltb-false (key y) (key x) ec in
          by x y x (is_new t x lx) (is_new t y ly) (is_old x y lxy) (is_new y x (omega arith))
      go true false c ea eb ec =
          let lx = ltb-true (key x) (key t) ea in
          let ly = ltb-false (key y) (key t) eb in
          by x t x (is_new t x lx) (is_old t y ly) (is_old x y (omega arith)) (is_new t x lx)
      go false true c ea eb ec =
          let lx = ltb-false (key x) (key t) ea in
          let ly = ltb-true (key y) (key t) eb in
          by t y y (is_old t x lx) (is_new t y ly) (is_new t y ly) (is_old y x (omega arith))
      go false false c ea eb ec =
          let lx = ltb-false (key x) (key t) ea in
          let ly = ltb-false (key y) (key t) eb in
          by t t t (is_old t x lx) (is_old t y ly) (is_old t y ly) (is_old t x lx)

-- ---- what is stored

module _ {Element : Type 0} (key : Tag → ℕ) where
  -- two of a list that has each tag once
  differ : (x y : Stored Element) (xs : List (Stored Element)) → StoredOnce key (x ∷ y ∷ xs) → key y.tag ≡ key x.tag → ⊥
  unfolding StoredOnce is_stored
  differ x y xs o = eqb-false (key y.tag) (key x.tag) (or_left (same_key key y.tag x.tag) (is_stored key x.tag xs) o.0)

  apart : (x y : Stored Element) (xs : List (Stored Element)) → StoredOnce key (x ∷ y ∷ xs) → (t : Tag) → same_key key x.tag t ≡ true
      → same_key key y.tag t ≡ true → ⊥
  apart x y xs o t e f = differ x y xs o (eqb-true (key y.tag) (key t) f ∙ sym (eqb-true (key x.tag) (key t) e))

  -- whether a tag is stored
  pub stored_reordered : (t : Tag) {xs ys : List (Stored Element)} → Reordered xs ys → is_stored key t xs ≡ is_stored key t ys
  unfolding is_stored
  stored_reordered t Reordered.none = refl
  stored_reordered t (next {x = x} r) = ap (λ b. same_key key x.tag t || b) (stored_reordered t r)
  stored_reordered t (swap {x = x} {y = y} {xs = zs}) = or_swap (same_key key x.tag t) (same_key key y.tag t) (is_stored key t zs)
  stored_reordered t (then r q) = stored_reordered t r ∙ stored_reordered t q

  -- each tag is there once in the one order as in the other
  pub once_reordered : {xs ys : List (Stored Element)} → Reordered xs ys → StoredOnce key xs → StoredOnce key ys
  unfolding StoredOnce is_stored
  once_reordered Reordered.none o = o
  once_reordered (next {x = x} r) o = (sym (stored_reordered x.tag r) ∙ o.0, once_reordered r o.1)
  once_reordered (swap {x = x} {y = y} {xs = zs}) o = (
    ap₂ ◌||◌ (ne_eqb (key x.tag) (key y.tag) (λ e. differ x y zs o (sym e))) o.1.0,
    (or_right (same_key key y.tag x.tag) (is_stored key x.tag zs) o.0, o.1.1),
  )
  once_reordered (then r q) o = once_reordered q (once_reordered r o)

  -- the element of a tag
  pub element_reordered : (t : Tag) {xs ys : List (Stored Element)} → Reordered xs ys → StoredOnce key xs → element_of key t xs ≡ element_of key t ys
  unfolding element_of StoredOnce
  element_reordered t Reordered.none o = refl
  element_reordered t (next {x = x} r) o = ap (cond (same_key key x.tag t) (some x.element)) (element_reordered t r o.1)
  element_reordered t (swap {x = x} {y = y} {xs = zs}) o =
      choose_swap (same_key key x.tag t) (same_key key y.tag t) (some x.element) (some y.element) (element_of key t zs) (apart x y zs o t)
  element_reordered t (then r q) o = element_reordered t r o ∙ element_reordered t q (once_reordered r o)

  -- the smallest of a tag and those stored
  smallest_reordered : (t : Tag) {xs ys : List (Stored Element)} → Reordered xs ys → StoredOnce key xs → smallest key t xs ≡ smallest key t ys
  unfolding smallest StoredOnce
  smallest_reordered t Reordered.none o = refl
  smallest_reordered t (next {x = x} r) o = smallest_reordered (lower key t x.tag) r o.1
  smallest_reordered t (swap {x = x} {y = y} {xs = zs}) o =
      ap (λ u. smallest key u zs) (lower_swap key t x.tag y.tag (λ e. differ x y zs o (sym e)))
  smallest_reordered t (then r q) o = smallest_reordered t r o ∙ smallest_reordered t q (once_reordered r o)

  -- a place taken by another
  place_next : (b : Bool) (x n : Stored Element) {xs ys zs ws : List (Stored Element)} → Reordered xs ys → Reordered zs ws
      → Reordered (cond b (n ∷ xs) (x ∷ zs)) (cond b (n ∷ ys) (x ∷ ws))
  place_next true x n r q = next r
  place_next false x n r q = next q

  place_swap : (a b : Bool) (x y n : Stored Element) (zs ws : List (Stored Element)) → (a ≡ true → b ≡ true → ⊥)
      → Reordered (cond a (n ∷ y ∷ zs) (x ∷ cond b (n ∷ zs) (y ∷ ws))) (cond b (n ∷ x ∷ zs) (y ∷ cond a (n ∷ zs) (x ∷ ws)))
  place_swap true true x y n zs ws h = absurd (h refl refl)
  place_swap true false x y n zs ws h = swap
  place_swap false true x y n zs ws h = swap
  place_swap false false x y n zs ws h = swap

  place_reordered : (u : Tag) (n : Stored Element) {xs ys : List (Stored Element)} → Reordered xs ys → StoredOnce key xs
      → Reordered (in_place_of key u n xs) (in_place_of key u n ys)
  unfolding in_place_of StoredOnce
  place_reordered u n Reordered.none o = Reordered.none
  place_reordered u n (next {x = x} r) o = place_next (same_key key x.tag u) x n r (place_reordered u n r o.1)
  place_reordered u n (swap {x = x} {y = y} {xs = zs}) o =
      place_swap (same_key key x.tag u) (same_key key y.tag u) x y n zs (in_place_of key u n zs) (apart x y zs o u)
  place_reordered u n (then r q) o = then (place_reordered u n r o) (place_reordered u n q (once_reordered r o))

-- ---- two servers that differ in the order alone

-- H is raised
pub finalised_same : {Element : Type 0} (key : Tag → ℕ) (t : Tag) {v w : Server Element} → SameButOrder v w → SameButOrder (finalised key v t) (finalised key w t)
unfolding finalised
finalised_same key t {v} alike =
    record {
      highest = ap (λ h. (finalised key (record { highest = h; floor = v.floor; stored = v.stored }) t).highest) alike.highest;
      floor = alike.floor;
      stored = alike.stored;
    }

-- the one has each tag once
module _ {Element : Type 0} (key : Tag → ℕ) (d : ℕ) (v w : Server Element) (alike : SameButOrder v w) (o : StoredOnce key v.stored) where
  -- storing
  module _ (y : Stored Element) where
    last_same : SameButOrder (add_last v y) (add_last w y)
    unfolding add_last
    last_same = record { highest = alike.highest; floor = alike.floor; stored = reordered_last y alike.stored }

    others_same : (b : Bool) (u : Tag) → Reordered (cond b v.stored (in_place_of key u y v.stored)) (cond b w.stored (in_place_of key u y w.stored))
    others_same true u = alike.stored
    others_same false u = place_reordered key u y alike.stored o

    abbrev low : Tag
    low = smallest key y.tag v.stored

    low_same : low ≡ smallest key y.tag w.stored
    low_same = smallest_reordered key y.tag alike.stored o

    drop_same : SameButOrder (drop_smallest key v y) (drop_smallest key w y)
    unfolding drop_smallest others
    drop_same =
        record {
          highest = alike.highest;
          floor = ap {B = Option Tag} some low_same;
          stored = rw (← low_same) (others_same (same_key key low y.tag) low);
        }

    by_tests : (a b : Bool) → SameButOrder (cond a v (cond b (add_last v y) (drop_smallest key v y))) (cond a w (cond b (add_last w y) (drop_smallest key w y)))
    by_tests true b = alike
    by_tests false true = last_same
    by_tests false false = drop_same

    store_same : SameButOrder (store key d v y) (store key d w y)
    unfolding store
    store_same =
        let a = is_stored key y.tag v.stored || at_or_below_floor key y.tag v.floor in
        let b = ltb (length v.stored) (d + 1) in
        subst₂ (λ (p q : Bool). SameButOrder (cond a v (cond b (add_last v y) (drop_smallest key v y))) (cond p w (cond q (add_last w y) (drop_smallest key w y))))
        (ap₂ ◌||◌ (stored_reordered key y.tag alike.stored) (ap (at_or_below_floor key y.tag) alike.floor))
        (ap (λ n. ltb n (d + 1)) (reordered_long alike.stored)) (by_tests a b)

  -- a step: the same answer, and the order differs at most
  module _ (s : ℕ) (m : Message Element) where
    element_stored : (e : Option Element) → SameButOrder (store_element key d v m.tag e) (store_element key d w m.tag e)
    unfolding store_element
    element_stored none = alike
    element_stored (some e) = store_same (record { tag = m.tag; element = e })

    server_by : (kind : Kind) → SameButOrder (server_step_of kind key d s v m).server (server_step_of kind key d s w m).server
    unfolding server_step_of query pre_write write_finalise read_finalise
    server_by Query = alike
    server_by QueryAnswer = alike
    server_by PreWrite = element_stored m.element
    server_by PreWriteAnswer = alike
    server_by WriteFinalise = finalised_same key m.tag alike
    server_by WriteFinaliseAnswer = alike
    server_by ReadFinalise = finalised_same key m.tag alike
    server_by ReadFinaliseAnswer = alike
    server_by Cleared = alike

    answer_by : (kind : Kind) → (server_step_of kind key d s v m).answer ≡ (server_step_of kind key d s w m).answer
    unfolding server_step_of query pre_write write_finalise read_finalise
    answer_by Query = ap {B = Option (Message Element)} (λ h. some (answer_to s m QueryAnswer h none)) alike.highest
    answer_by QueryAnswer = refl
    answer_by PreWrite = refl
    answer_by PreWriteAnswer = refl
    answer_by WriteFinalise = refl
    answer_by WriteFinaliseAnswer = refl
    answer_by ReadFinalise = ap₂ {C = Option (Message Element)} (λ (f : Option Tag) (e : Option Element). some (read_answer key s f m e)) alike.floor (element_reordered key m.tag alike.stored o)
    answer_by ReadFinaliseAnswer = refl
    answer_by Cleared = refl

    pub server_same : SameButOrder (server_step key d s v m).server (server_step key d s w m).server
    unfolding server_step
    server_same = server_by m.kind

    pub answer_same : (server_step key d s v m).answer ≡ (server_step key d s w m).answer
    unfolding server_step
    answer_same = answer_by m.kind

-- ---- a step leaves each stored tag there once

module _ {Element : Type 0} (key : Tag → ℕ) where
  -- one more at the end
  last_other : (t : Tag) (n : Stored Element) → (key n.tag ≡ key t → ⊥) → (xs : List (Stored Element)) → is_stored key t xs ≡ false
      → is_stored key t (xs ++ n ∷ []) ≡ false
  unfolding is_stored
  last_other t n ne [] h = ap₂ ◌||◌ (ne_eqb (key n.tag) (key t) ne) h
  last_other t n ne (x ∷ xs) h =
      ap₂ ◌||◌ (or_left (same_key key x.tag t) (is_stored key t xs) h) (last_other t n ne xs (or_right (same_key key x.tag t) (is_stored key t xs) h))

  last_once : (n : Stored Element) (xs : List (Stored Element)) → is_stored key n.tag xs ≡ false → StoredOnce key xs → StoredOnce key (xs ++ n ∷ [])
  unfolding StoredOnce is_stored
  last_once n [] h o = (refl, o)
  last_once n (x ∷ xs) h o =
      let first = or_left (same_key key x.tag n.tag) (is_stored key n.tag xs) h in
      let rest = or_right (same_key key x.tag n.tag) (is_stored key n.tag xs) h in
      (last_other x.tag n (λ e. eqb-false (key x.tag) (key n.tag) first (sym e)) xs o.0, last_once n xs rest o.1)

  -- one in another's place
  place_other : (t u : Tag) (n : Stored Element) → (key n.tag ≡ key t → ⊥) → (xs : List (Stored Element)) → is_stored key t xs ≡ false
      → is_stored key t (in_place_of key u n xs) ≡ false
  unfolding is_stored in_place_of
  place_other t u n ne [] h = h
  place_other t u n ne (x ∷ xs) h =
      let first = or_left (same_key key x.tag t) (is_stored key t xs) h in
      let rest = or_right (same_key key x.tag t) (is_stored key t xs) h in
      cond_elim (λ ys. is_stored key t ys ≡ false) (same_key key x.tag u) (n ∷ xs) (x ∷ in_place_of key u n xs)
      (λ _. ap₂ ◌||◌ (ne_eqb (key n.tag) (key t) ne) rest) (λ _. ap₂ ◌||◌ first (place_other t u n ne xs rest))

  place_once : (u : Tag) (n : Stored Element) (xs : List (Stored Element)) → is_stored key n.tag xs ≡ false → StoredOnce key xs → StoredOnce key (in_place_of key u n xs)
  unfolding StoredOnce is_stored in_place_of
  place_once u n [] h o = o
  place_once u n (x ∷ xs) h o =
      let first = or_left (same_key key x.tag n.tag) (is_stored key n.tag xs) h in
      let rest = or_right (same_key key x.tag n.tag) (is_stored key n.tag xs) h in
      cond_elim (StoredOnce key) (same_key key x.tag u) (n ∷ xs) (x ∷ in_place_of key u n xs)
      (λ _. (rest, o.1))
      (λ _. (place_other x.tag u n (λ e. eqb-false (key x.tag) (key n.tag) first (sym e)) xs o.0, place_once u n xs rest o.1))

  module _ (d : ℕ) (v : Server Element) (o : StoredOnce key v.stored) where
    -- a pre-write: a tag that is stored is not stored again
    store_once : (y : Stored Element) → StoredOnce key (store key d v y).stored
    unfolding store add_last drop_smallest others
    store_once y =
        let stays = is_stored key y.tag v.stored in
        let below = at_or_below_floor key y.tag v.floor in
        let low = smallest key y.tag v.stored in
        cond_elim (λ w. StoredOnce key w.stored) (stays || below) v (cond (ltb (length v.stored) (d + 1)) (add_last v y) (drop_smallest key v y)) (λ _. o)
        (λ e. cond_elim (λ w. StoredOnce key w.stored) (ltb (length v.stored) (d + 1)) (add_last v y) (drop_smallest key v y)
        (λ _. last_once y v.stored (or_left stays below e) o)
        (λ _. cond_elim (StoredOnce key) (same_key key low y.tag) v.stored (in_place_of key low y v.stored) (λ _. o)
        (λ _. place_once low y v.stored (or_left stays below e) o)))

    module _ (s : ℕ) (m : Message Element) where
      element_once : (e : Option Element) → StoredOnce key (store_element key d v m.tag e).stored
      unfolding store_element
      element_once none = o
      element_once (some e) = store_once (record { tag = m.tag; element = e })

      by_kind : (kind : Kind) → StoredOnce key (server_step_of kind key d s v m).server.stored
      unfolding server_step_of query pre_write write_finalise read_finalise finalised
      by_kind Query = o
      by_kind QueryAnswer = o
      by_kind PreWrite = element_once m.element
      by_kind PreWriteAnswer = o
      by_kind WriteFinalise = o
      by_kind WriteFinaliseAnswer = o
      by_kind ReadFinalise = o
      by_kind ReadFinaliseAnswer = o
      by_kind Cleared = o

      -- a server's step
      pub step_once : StoredOnce key (server_step key d s v m).server.stored
      unfolding server_step
      step_once = by_kind m.kind

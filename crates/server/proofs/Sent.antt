-- What is stored of a pre-write: the element sent is afterwards that of its tag, by the case that the protocol has. Assumes nothing.
use Rattle.std.proofs.Common.{◌≡◌, ℕ, ◌+◌, Bool, true, false, cond, ◌||◌, eqb, ltb, ◌⊎◌, List, [], ◌∷◌, ◌++◌, length, sym, refl, ap, ◌∙◌, ap₂, inl, inr, eq-eqb, eqb-true}
use mathlib.Core.Option.{some}
use Rattle.tag.specs.declared.Tag.{Tag}
use Rattle.protocol.specs.Server.{Server, Stored, add_last, at_or_below_floor, drop_smallest, element_of, in_place_of, is_stored, others, smallest, store}
use Rattle.protocol.specs.Tags.{lower}
use Rattle.protocol.proofs.Basics.{or_left, or_right}

module _ {Element : Type 0} (key : Tag → ℕ) where
  -- tags of one key are stored or not together
  stored_key : (u t : Tag) → key u ≡ key t → (xs : List (Stored Element)) → is_stored key u xs ≡ is_stored key t xs
  unfolding is_stored
  stored_key u t e [] = refl
  stored_key u t e (x ∷ xs) = ap₂ {A = Bool} (λ (a b : Bool). a || b) (ap (λ (k : ℕ). eqb (key x.tag) k) e) (stored_key u t e xs)

  -- the smallest of t and of what is stored is t, or is stored
  smallest_by : (b : Bool) (t : Tag) (x : Stored Element) (xs : List (Stored Element))
      → (smallest key (cond b x.tag t) xs ≡ cond b x.tag t) ⊎ (is_stored key (smallest key (cond b x.tag t) xs) xs ≡ true)
      → (smallest key (cond b x.tag t) xs ≡ t) ⊎ (is_stored key (smallest key (cond b x.tag t) xs) (x ∷ xs) ≡ true)
  unfolding is_stored
  smallest_by true t x xs (inl e) = inr (rw (eq-eqb (key x.tag) (key (smallest key x.tag xs)) (ap key (sym e))))
  smallest_by false t x xs (inl e) = inl e
  smallest_by b t x xs (inr h) = inr (or_true (eqb (key x.tag) (key (smallest key (cond b x.tag t) xs))) (is_stored key (smallest key (cond b x.tag t) xs) xs) h)
    where
      or_true : (a c : Bool) → c ≡ true → (a || c) ≡ true
      or_true true c e = refl
      or_true false c e = e

  smallest_one : (t : Tag) (xs : List (Stored Element)) → (smallest key t xs ≡ t) ⊎ (is_stored key (smallest key t xs) xs ≡ true)
  unfolding smallest lower
  smallest_one t [] = inl refl
  smallest_one t (x ∷ xs) = smallest_by (ltb (key x.tag) (key t)) t x xs (smallest_one (cond (ltb (key x.tag) (key t)) x.tag t) xs)

  module _ (t : Tag) (e : Element) where
    abbrev sent : Stored Element
    sent = record { tag = t; element = e }

    itself : (xs : List (Stored Element)) → element_of key t (sent ∷ xs) ≡ some e
    unfolding element_of
    itself xs = rw (eq-eqb (key t) (key t) refl)

    -- behind others
    behind : (x : Stored Element) (xs ys : List (Stored Element)) → is_stored key t (x ∷ xs) ≡ false → element_of key t (x ∷ ys) ≡ element_of key t ys
    unfolding element_of is_stored
    behind x xs ys h =
        ap (λ (b : Bool). cond b (some x.element) (element_of key t ys)) (or_left (eqb (key x.tag) (key t)) (is_stored key t xs) h)

    apart : (x : Stored Element) (xs : List (Stored Element)) → is_stored key t (x ∷ xs) ≡ false → is_stored key t xs ≡ false
    unfolding is_stored
    apart x xs h = or_right (eqb (key x.tag) (key t)) (is_stored key t xs) h

    element_last : (xs : List (Stored Element)) → is_stored key t xs ≡ false → element_of key t (xs ++ sent ∷ []) ≡ some e
    element_last [] h = itself []
    element_last (x ∷ xs) h = behind x xs (xs ++ sent ∷ []) h ∙ element_last xs (apart x xs h)

    place_by : (u : Tag) (b : Bool) (x : Stored Element) (xs : List (Stored Element)) → is_stored key t (x ∷ xs) ≡ false → (b || is_stored key u xs) ≡ true
        → (is_stored key u xs ≡ true → element_of key t (in_place_of key u sent xs) ≡ some e)
        → element_of key t (cond b (sent ∷ xs) (x ∷ in_place_of key u sent xs)) ≡ some e
    place_by u true x xs h i next = itself xs
    place_by u false x xs h i next = behind x xs (in_place_of key u sent xs) h ∙ next i

    element_in_place : (u : Tag) (xs : List (Stored Element)) → is_stored key t xs ≡ false → is_stored key u xs ≡ true
        → element_of key t (in_place_of key u sent xs) ≡ some e
    unfolding is_stored in_place_of
    element_in_place u [] h i = cc
    element_in_place u (x ∷ xs) h i = place_by u (eqb (key x.tag) (key u)) x xs h i (element_in_place u xs (apart x xs h))

    -- the tag's element is the one sent, or the tag is the floor
    abbrev Sent : Server Element → Type 0
    Sent w = (w.floor ≡ some t) ⊎ (element_of key t w.stored ≡ some e)

    module _ (v : Server Element) (new : is_stored key t v.stored ≡ false) where
      others_by : (b : Bool) (u : Tag) → eqb (key u) (key t) ≡ b → is_stored key u v.stored ≡ true
          → element_of key t (cond b v.stored (in_place_of key u sent v.stored)) ≡ some e
      others_by true u is h =
          let no : is_stored key u v.stored ≡ false = stored_key u t (eqb-true (key u) (key t) is) v.stored ∙ new in
          absurd_bool (sym h ∙ no)
        where
          absurd_bool : true ≡ false → element_of key t v.stored ≡ some e
          absurd_bool z = cc
      others_by false u is h = element_in_place u v.stored new h

      dropped_by : (u : Tag) → (u ≡ t) ⊎ (is_stored key u v.stored ≡ true)
          → Sent (record { highest = v.highest; floor = some u; stored = others key u sent v.stored })
      unfolding others
      dropped_by u (inl is) = inl (ap some is)
      dropped_by u (inr h) = inr (others_by (eqb (key u) (key t)) u refl h)

      room_by : (b : Bool) → Sent (cond b (add_last v sent) (drop_smallest key v sent))
      unfolding add_last drop_smallest
      room_by true = inr (element_last v.stored new)
      room_by false = dropped_by (smallest key t v.stored) (smallest_one t v.stored)

      pub sent_stored : (d : ℕ) → at_or_below_floor key t v.floor ≡ false → Sent (store key d v sent)
      unfolding store
      sent_stored d over = rw (new, over) (room_by (ltb (length v.stored) (d + 1)))

-- What a server keeps stays within question 6: the protocol's step leads from such a server to such a server. Assumes nothing.
use Rattle.std.proofs.Common.{◌≡◌, ℕ, suc, ◌+◌, ◌<◌, ◌≤◌, Bool, true, false, cond, ◌||◌, eqb, ltb, leb, List, [], ◌∷◌, ◌++◌, length, sym, refl, ap, ◌∙◌, ap₂, ⊎_elim, true≢false, arith, length-append, ltb-false, ltb-true, eq-eqb, eqb-true, le-leb, leb-true}
use mathlib.Core.Option.{Option, none, some}
use borrow.Author.Tests.{eqb-false}
use Rattle.config.specs.declared.Config.{Config}
use Rattle.config.specs.Config.{Valid, board_length}
use Rattle.laws.proofs.Bools.{and_left, and_right}
use Rattle.tag.specs.declared.Tag.{Tag}
use Rattle.tag.specs.Tag.{above, allowed, key, start}
use Rattle.tag.proofs.Order.{Small, key_above, key_one, same_eqb, small}
use Rattle.record.specs.declared.Kind.{Kind}
use Rattle.record.specs.declared.Kind.TheVariants.{Query, QueryAnswer, PreWrite, PreWriteAnswer, WriteFinalise, WriteFinaliseAnswer, ReadFinalise, ReadFinaliseAnswer, Cleared}
use Rattle.record.specs.Element.{Element}
use Rattle.record.specs.Message.{Message}
use Rattle.record.specs.Record.{all, length_of}
use Rattle.protocol.specs.Server.{Server, Stored, add_last, at_or_below_floor, drop_smallest, finalised, fresh_server, in_place_of, is_stored, others, pre_write, query, read_finalise, server_step, server_step_of, smallest, store, store_element, write_finalise}
use Rattle.protocol.specs.Tags.{higher, lower}
use Rattle.protocol.proofs.Basics.{or_left, or_right}
use Rattle.server.specs.Within.{among, every, floor_within, stored_lengths, lengths_within, once, server_within, tags_of, tags_within}
use Rattle.server.proofs.Limits.{floor_count, within_allowed, within_count, within_floor, within_highest, within_once}
use Rattle.server.proofs.Tags.{both, every_in, every_last, in_every, lowest_all, lowest_first, lowest_in, lowest_of, once_last, once_replaced, replaced, replaced_gone, replaced_in, replaced_long}

-- the clauses together
pub make_within : (cfg : Config) (highest : Tag) (floor : Option Tag) (ts : List Tag) → allowed cfg.c highest ≡ true → length ts ≤ cfg.d + 1
    → every (allowed cfg.c) ts ≡ true → once ts ≡ true → floor_within cfg floor ts ≡ true → tags_within cfg highest floor ts ≡ true
unfolding tags_within all
make_within cfg highest floor ts h c a o f = rw (h, le-leb (length ts) (cfg.d + 1) c, a, o, f)

module _ {Element : Type 0} where
  -- the tags that the protocol's server keeps are within their limits
  abbrev pub server_tags : Config → Server Element → Bool
  server_tags cfg v = tags_within cfg v.highest v.floor (tags_of v.stored)

  -- the tags of the protocol's lists
  pub tags_last : (xs : List (Stored Element)) (y : Stored Element) → tags_of (xs ++ y ∷ []) ≡ tags_of xs ++ y.tag ∷ []
  unfolding tags_of
  tags_last [] y = refl
  tags_last (x ∷ xs) y = ap {B = List Tag} (λ ts. x.tag ∷ ts) (tags_last xs y)

  pub tags_long : (xs : List (Stored Element)) → length (tags_of xs) ≡ length xs
  unfolding tags_of
  tags_long [] = refl
  tags_long (x ∷ xs) = ap suc (tags_long xs)

  pub tags_smallest : (cfg : Config) (t : Tag) (xs : List (Stored Element)) → smallest (key cfg) t xs ≡ lowest_of cfg t (tags_of xs)
  unfolding smallest lowest_of tags_of
  tags_smallest cfg t [] = refl
  tags_smallest cfg t (x ∷ xs) = tags_smallest cfg (lower (key cfg) t x.tag) xs

  tags_by : (b : Bool) (y x : Stored Element) (xs zs : List (Stored Element)) (ts : List Tag) → tags_of zs ≡ ts
      → tags_of (cond b (y ∷ xs) (x ∷ zs)) ≡ cond b (y.tag ∷ tags_of xs) (x.tag ∷ ts)
  unfolding tags_of
  tags_by true y x xs zs ts e = refl
  tags_by false y x xs zs ts e = ap {B = List Tag} (λ l. x.tag ∷ l) e

  pub tags_replaced : (cfg : Config) (u : Tag) (y : Stored Element) (xs : List (Stored Element)) → tags_of (in_place_of (key cfg) u y xs) ≡ replaced cfg u y.tag (tags_of xs)
  unfolding in_place_of replaced tags_of
  tags_replaced cfg u y [] = refl
  tags_replaced cfg u y (x ∷ xs) =
      tags_by (eqb (key cfg x.tag) (key cfg u)) y x xs (in_place_of (key cfg) u y xs) (replaced cfg u y.tag (tags_of xs)) (tags_replaced cfg u y xs)

  pub tags_stored : (cfg : Config) → Valid cfg → (t : Tag) → Small t → (xs : List (Stored Element)) → every (allowed cfg.c) (tags_of xs) ≡ true
      → is_stored (key cfg) t xs ≡ among t (tags_of xs)
  unfolding is_stored among tags_of every
  tags_stored cfg valid t st [] h = refl
  tags_stored cfg valid t st (x ∷ xs) h =
      ap₂ {A = Bool} (λ (a b : Bool). a || b)
      (sym (same_eqb cfg valid x.tag t (small cfg valid x.tag (and_left (allowed cfg.c x.tag) (every (allowed cfg.c) (tags_of xs)) h)) st))
      (tags_stored cfg valid t st xs (and_right (allowed cfg.c x.tag) (every (allowed cfg.c) (tags_of xs)) h))

-- Storing a tag that is neither stored nor at or below the floor. `ts` are the stored tags.
module _ (cfg : Config) (valid : Valid cfg) (highest : Tag) (floor : Option Tag) (ts : List Tag) (k : tags_within cfg highest floor ts ≡ true) (t : Tag)
    (ok : allowed cfg.c t ≡ true) (apart : among t ts ≡ false) where
  st : Small t
  st = small cfg valid t ok

  all_allowed : every (allowed cfg.c) ts ≡ true
  all_allowed = within_allowed cfg highest floor ts k

  -- a floor is there only where D + 1 are stored
  floor_room : (f : Option Tag) → floor_within cfg f ts ≡ true → length ts < cfg.d + 1 → (us : List Tag) → floor_within cfg f us ≡ true
  unfolding floor_within
  floor_room none h lt us = refl
  floor_room (some f) h lt us =
      absurd (omega (arith, lt, floor_count cfg f ts h))

  pub within_last : length ts < cfg.d + 1 → tags_within cfg highest floor (ts ++ t ∷ []) ≡ true
  within_last lt =
      make_within cfg highest floor (ts ++ t ∷ []) (within_highest cfg highest floor ts k) (omega (arith, length-append ts (t ∷ [])))
      (every_last (allowed cfg.c) t ts all_allowed ok) (once_last t ts (within_once cfg highest floor ts k) apart)
      (floor_room floor (within_floor cfg highest floor ts k) lt (ts ++ t ∷ []))

  -- the lowest of t and the stored tags
  abbrev u : Tag
  u = lowest_of cfg t ts

  pub low_allowed : allowed cfg.c u ≡ true
  low_allowed =
      ⊎_elim (λ e. ap (allowed cfg.c) e ∙ ok) (λ i. every_in (allowed cfg.c) ts u all_allowed i) (lowest_in cfg t ts)

  su : Small u
  su = small cfg valid u low_allowed

  pub low_of : (x : Tag) → among x ts ≡ true → key cfg u ≤ key cfg x
  low_of x i = leb-true (key cfg u) (key cfg x) (every_in (λ (y : Tag). leb (key cfg u) (key cfg y)) ts x (lowest_all cfg t ts) i)

  x_small : (x : Tag) → among x ts ≡ true → Small x
  x_small x i = small cfg valid x (every_in (allowed cfg.c) ts x all_allowed i)

  -- with the floor u, D + 1 tags us above it
  floor-full : (us : List Tag) → length us ≡ cfg.d + 1 → ((x : Tag) → among x us ≡ true → above cfg x u ≡ true) → floor_within cfg (some u) us ≡ true
  unfolding floor_within
  floor-full us n h = rw (low_allowed, eq-eqb (length us) (cfg.d + 1) n) (in_every (λ (x : Tag). above cfg x u) us h)

  module _ (full : length ts ≡ cfg.d + 1) where
    -- t itself is the lowest
    pub within_itself : key cfg u ≡ key cfg t → tags_within cfg highest (some u) ts ≡ true
    within_itself e =
        make_within cfg highest (some u) ts (within_highest cfg highest floor ts k) (omega arith) all_allowed (within_once cfg highest floor ts k)
        (floor-full ts full
        (λ x i.
        let differ : key cfg x ≡ key cfg u → ⊥ =
        λ z. true≢false (sym i ∙ ap (λ (y : Tag). among y ts) (key_one cfg valid x t (x_small x i) st (z ∙ e)) ∙ apart) in
        let le : key cfg u ≤ key cfg x = low_of x i in
        key_above cfg valid x u (x_small x i) su (omega arith)))

    -- another is, and t has its place
    pub within_replaced : (key cfg u ≡ key cfg t → ⊥) → tags_within cfg highest (some u) (replaced cfg u t ts) ≡ true
    within_replaced ne =
        let once-ts = within_once cfg highest floor ts k in
        let of : (x : Tag) → among x (replaced cfg u t ts) ≡ true → (allowed cfg.c x ≡ true) × (key cfg u ≤ key cfg x) =
        λ x i.
        ⊎_elim (λ w. (every_in (allowed cfg.c) ts x all_allowed w, low_of x w))
        (λ w. (ap (allowed cfg.c) (sym w) ∙ ok, omega (arith, lowest_first cfg t ts, ap (key cfg) w))) (replaced_in cfg u t x ts i) in
        make_within cfg highest (some u) (replaced cfg u t ts) (within_highest cfg highest floor ts k) (omega (arith, replaced_long cfg u t ts))
        (in_every (allowed cfg.c) (replaced cfg u t ts) (λ x i. (of x i).0)) (once_replaced cfg u t ts once-ts apart)
        (floor-full (replaced cfg u t ts) (replaced_long cfg u t ts ∙ full)
        (λ x i.
        let differ : key cfg x ≡ key cfg u → ⊥ = replaced_gone cfg valid u t (λ z. ne (sym z)) x ts all_allowed once-ts i in
        let le : key cfg u ≤ key cfg x = (of x i).1 in
        key_above cfg valid x u (small cfg valid x (of x i).0) su (omega arith)))

-- Storing, by cases: nothing changes, there is room, t itself is the lowest, another is.
module _ {Element : Type 0} (cfg : Config) (valid : Valid cfg) (v : Server Element) (k : server_tags cfg v ≡ true) (y : Stored Element)
    (ok : allowed cfg.c y.tag ≡ true) where
  abbrev ts : List Tag
  ts = tags_of v.stored

  abbrev t : Tag
  t = y.tag

  stored_test : is_stored (key cfg) t v.stored ≡ among t ts
  stored_test =
      tags_stored cfg valid t (small cfg valid t ok) v.stored (within_allowed cfg v.highest v.floor ts k)

  count_test : length v.stored ≡ length ts
  count_test = sym (tags_long v.stored)

  -- with a floor, and other stored tags
  abbrev pub floored : Tag → List (Stored Element) → Server Element
  floored f xs = record { highest = v.highest; floor = some f; stored = xs }

  module _ (P : Server Element → Type 0) (unchanged : (among t ts || at_or_below_floor (key cfg) t v.floor) ≡ true → P v)
      (room : among t ts ≡ false → at_or_below_floor (key cfg) t v.floor ≡ false → length ts < cfg.d + 1 → P (add_last v y))
      (itself : among t ts ≡ false → at_or_below_floor (key cfg) t v.floor ≡ false → length ts ≡ cfg.d + 1 → key cfg (lowest_of cfg t ts) ≡ key cfg t → P (floored (lowest_of cfg t ts) v.stored))
      (another : among t ts ≡ false → at_or_below_floor (key cfg) t v.floor ≡ false → length ts ≡ cfg.d + 1 → (key cfg (lowest_of cfg t ts) ≡ key cfg t → ⊥)
      → P (floored (lowest_of cfg t ts) (in_place_of (key cfg) (lowest_of cfg t ts) y v.stored))) where
    by_others : (b : Bool) → eqb (key cfg (lowest_of cfg t ts)) (key cfg t) ≡ b → among t ts ≡ false → at_or_below_floor (key cfg) t v.floor ≡ false → length ts ≡ cfg.d + 1
        → P (floored (lowest_of cfg t ts) (cond b v.stored (in_place_of (key cfg) (lowest_of cfg t ts) y v.stored)))
    by_others true e a f n = itself a f n (eqb-true (key cfg (lowest_of cfg t ts)) (key cfg t) e)
    by_others false e a f n = another a f n (eqb-false (key cfg (lowest_of cfg t ts)) (key cfg t) e)

    by_room : (b : Bool) → ltb (length ts) (cfg.d + 1) ≡ b → among t ts ≡ false → at_or_below_floor (key cfg) t v.floor ≡ false
        → P (cond b (add_last v y) (drop_smallest (key cfg) v y))
    unfolding drop_smallest others
    by_room true e a f = room a f (ltb-true (length ts) (cfg.d + 1) e)
    by_room false e a f =
        rw (tags_smallest cfg t v.stored)
        (by_others (eqb (key cfg (lowest_of cfg t ts)) (key cfg t)) refl a f
        (omega (arith, ltb-false (length ts) (cfg.d + 1) e, within_count cfg v.highest v.floor ts k)))

    by_test : (b : Bool) → (among t ts || at_or_below_floor (key cfg) t v.floor) ≡ b → P (cond b v (cond (ltb (length ts) (cfg.d + 1)) (add_last v y) (drop_smallest (key cfg) v y)))
    by_test true e = unchanged e
    by_test false e =
        by_room (ltb (length ts) (cfg.d + 1)) refl (or_left (among t ts) (at_or_below_floor (key cfg) t v.floor) e)
        (or_right (among t ts) (at_or_below_floor (key cfg) t v.floor) e)

    pub store_cases : P (store (key cfg) cfg.d v y)
    unfolding store
    store_cases = rw (stored_test, count_test) (by_test (among t ts || at_or_below_floor (key cfg) t v.floor) refl)

  tags_add_last : tags_within cfg v.highest v.floor (ts ++ t ∷ []) ≡ true → server_tags cfg (add_last v y) ≡ true
  unfolding add_last
  tags_add_last h = rw (tags_last v.stored y) h

  pub store_tags : server_tags cfg (store (key cfg) cfg.d v y) ≡ true
  store_tags =
      store_cases (λ w. server_tags cfg w ≡ true) (λ _. k) with_room with_itself with_another
    where
      with_room : among t ts ≡ false → at_or_below_floor (key cfg) t v.floor ≡ false → length ts < cfg.d + 1 → server_tags cfg (add_last v y) ≡ true
      with_room a f lt = tags_add_last (within_last cfg valid v.highest v.floor ts k t ok a lt)

      with_itself : among t ts ≡ false → at_or_below_floor (key cfg) t v.floor ≡ false → length ts ≡ cfg.d + 1 → key cfg (lowest_of cfg t ts) ≡ key cfg t
          → server_tags cfg (floored (lowest_of cfg t ts) v.stored) ≡ true
      with_itself a f n e = within_itself cfg valid v.highest v.floor ts k t ok a n e

      with_another : among t ts ≡ false → at_or_below_floor (key cfg) t v.floor ≡ false → length ts ≡ cfg.d + 1 → (key cfg (lowest_of cfg t ts) ≡ key cfg t → ⊥)
          → server_tags cfg (floored (lowest_of cfg t ts) (in_place_of (key cfg) (lowest_of cfg t ts) y v.stored)) ≡ true
      with_another a f n e =
          rw (tags_replaced cfg (lowest_of cfg t ts) y v.stored) (within_replaced cfg valid v.highest v.floor ts k t ok a n e)

-- a step keeps the tags within their limits
module _ {Element : Type 0} (cfg : Config) (valid : Valid cfg) (s : ℕ) (v : Server Element) (k : server_tags cfg v ≡ true) (m : Message Element)
    (ok : allowed cfg.c m.tag ≡ true) where
  higher_by : (b : Bool) (h t : Tag) → allowed cfg.c h ≡ true → allowed cfg.c t ≡ true → allowed cfg.c (cond b t h) ≡ true
  higher_by true h t p q = q
  higher_by false h t p q = p

  pub finalised_tags : server_tags cfg (finalised (key cfg) v m.tag) ≡ true
  unfolding finalised higher
  finalised_tags =
      make_within cfg _ v.floor (tags_of v.stored)
      (higher_by (ltb (key cfg v.highest) (key cfg m.tag)) v.highest m.tag (within_highest cfg v.highest v.floor (tags_of v.stored) k) ok)
      (within_count cfg v.highest v.floor (tags_of v.stored) k) (within_allowed cfg v.highest v.floor (tags_of v.stored) k)
      (within_once cfg v.highest v.floor (tags_of v.stored) k) (within_floor cfg v.highest v.floor (tags_of v.stored) k)

  element_tags : (e : Option Element) → server_tags cfg (store_element (key cfg) cfg.d v m.tag e) ≡ true
  unfolding store_element
  element_tags none = k
  element_tags (some e) = store_tags cfg valid v k (record { tag = m.tag; element = e }) ok

  tags_by_kind : (kind : Kind) → server_tags cfg (server_step_of kind (key cfg) cfg.d s v m).server ≡ true
  unfolding server_step_of query pre_write write_finalise read_finalise
  tags_by_kind Query = k
  tags_by_kind QueryAnswer = k
  tags_by_kind PreWrite = element_tags m.element
  tags_by_kind PreWriteAnswer = k
  tags_by_kind WriteFinalise = finalised_tags
  tags_by_kind WriteFinaliseAnswer = k
  tags_by_kind ReadFinalise = finalised_tags
  tags_by_kind ReadFinaliseAnswer = k
  tags_by_kind Cleared = k

  pub step_tags : server_tags cfg (server_step (key cfg) cfg.d s v m).server ≡ true
  unfolding server_step
  step_tags = tags_by_kind m.kind

-- the lengths of the protocol's lists, each at most V
module _ (cfg : Config) where
  abbrev fits : ℕ → Bool
  fits n = leb n (board_length cfg)

  abbrev server_lengths : List (Stored Element) → Bool
  server_lengths xs = lengths_within cfg (stored_lengths xs)

  lengths_last : (xs : List (Stored Element)) (y : Stored Element) → stored_lengths (xs ++ y ∷ []) ≡ stored_lengths xs ++ y.element.length ∷ []
  unfolding stored_lengths
  lengths_last [] y = refl
  lengths_last (x ∷ xs) y = ap {B = List ℕ} (λ ns. x.element.length ∷ ns) (lengths_last xs y)

  module _ (y : Stored Element) (ok : fits y.element.length ≡ true) where
    -- one more at the end
    lengths_added : (xs : List (Stored Element)) → server_lengths xs ≡ true → server_lengths (xs ++ y ∷ []) ≡ true
    unfolding lengths_within
    lengths_added xs h = rw (lengths_last xs y) (every_last fits y.element.length (stored_lengths xs) h ok)

    -- the place of u taken by y
    replaced_by : (b : Bool) (x : Stored Element) (xs zs : List (Stored Element)) → server_lengths (x ∷ xs) ≡ true → (server_lengths xs ≡ true → server_lengths zs ≡ true)
        → server_lengths (cond b (y ∷ xs) (x ∷ zs)) ≡ true
    unfolding lengths_within stored_lengths every
    replaced_by true x xs zs h f =
        both (fits y.element.length) (every fits (stored_lengths xs)) ok (and_right (fits x.element.length) (every fits (stored_lengths xs)) h)
    replaced_by false x xs zs h f =
        both (fits x.element.length) (every fits (stored_lengths zs)) (and_left (fits x.element.length) (every fits (stored_lengths xs)) h)
        (f (and_right (fits x.element.length) (every fits (stored_lengths xs)) h))

    lengths_replaced : (u : Tag) (xs : List (Stored Element)) → server_lengths xs ≡ true → server_lengths (in_place_of (key cfg) u y xs) ≡ true
    unfolding in_place_of
    lengths_replaced u [] h = h
    lengths_replaced u (x ∷ xs) h = replaced_by (eqb (key cfg x.tag) (key cfg u)) x xs (in_place_of (key cfg) u y xs) h (lengths_replaced u xs)

    -- stored, whatever the case
    module _ (v : Server Element) (k : server_lengths v.stored ≡ true) where
      others_by : (b : Bool) (u : Tag) → server_lengths (cond b v.stored (in_place_of (key cfg) u y v.stored)) ≡ true
      others_by true u = k
      others_by false u = lengths_replaced u v.stored k

      stored_by : (b c : Bool) → server_lengths (cond b v (cond c (add_last v y) (drop_smallest (key cfg) v y))).stored ≡ true
      unfolding add_last drop_smallest others
      stored_by true c = k
      stored_by false true = lengths_added v.stored k
      stored_by false false = others_by (eqb (key cfg (smallest (key cfg) y.tag v.stored)) (key cfg y.tag)) (smallest (key cfg) y.tag v.stored)

      store_lengths : server_lengths (store (key cfg) cfg.d v y).stored ≡ true
      unfolding store
      store_lengths = stored_by (is_stored (key cfg) y.tag v.stored || at_or_below_floor (key cfg) y.tag v.floor) (ltb (length v.stored) (cfg.d + 1))

  -- a step keeps the lengths within theirs, where that of its message is
  module _ (s : ℕ) (v : Server Element) (k : server_lengths v.stored ≡ true) (m : Message Element) (ok : fits (length_of m.element) ≡ true) where
    element_lengths : (e : Option Element) → fits (length_of e) ≡ true → server_lengths (store_element (key cfg) cfg.d v m.tag e).stored ≡ true
    unfolding store_element
    element_lengths none h = k
    element_lengths (some e) h = store_lengths (record { tag = m.tag; element = e }) h v k

    lengths_by_kind : (kind : Kind) → server_lengths (server_step_of kind (key cfg) cfg.d s v m).server.stored ≡ true
    unfolding server_step_of query pre_write write_finalise read_finalise finalised
    lengths_by_kind Query = k
    lengths_by_kind QueryAnswer = k
    lengths_by_kind PreWrite = element_lengths m.element ok
    lengths_by_kind PreWriteAnswer = k
    lengths_by_kind WriteFinalise = k
    lengths_by_kind WriteFinaliseAnswer = k
    lengths_by_kind ReadFinalise = k
    lengths_by_kind ReadFinaliseAnswer = k
    lengths_by_kind Cleared = k

    step_lengths : server_lengths (server_step (key cfg) cfg.d s v m).server.stored ≡ true
    unfolding server_step
    step_lengths = lengths_by_kind m.kind

-- the protocol's server is within question 6: its tags, and its lengths
module _ (cfg : Config) (v : Server Element) where
  pub both_within : server_tags cfg v ≡ true → lengths_within cfg (stored_lengths v.stored) ≡ true → server_within cfg v ≡ true
  unfolding server_within
  both_within = both (server_tags cfg v) (lengths_within cfg (stored_lengths v.stored))

  module _ (h : server_within cfg v ≡ true) where
    pub tags-of : server_tags cfg v ≡ true
    unfolding server_within
    tags-of = and_left (server_tags cfg v) (lengths_within cfg (stored_lengths v.stored)) h

    pub lengths-of : lengths_within cfg (stored_lengths v.stored) ≡ true
    unfolding server_within
    lengths-of = and_right (server_tags cfg v) (lengths_within cfg (stored_lengths v.stored)) h

-- a step keeps question 6
module _ (cfg : Config) (valid : Valid cfg) (s : ℕ) (v : Server Element) (k : server_within cfg v ≡ true) (m : Message Element)
    (ok : allowed cfg.c m.tag ≡ true) where
  pub step_within : leb (length_of m.element) (board_length cfg) ≡ true → server_within cfg (server_step (key cfg) cfg.d s v m).server ≡ true
  step_within fits =
      both_within cfg (server_step (key cfg) cfg.d s v m).server (step_tags cfg valid s v (tags-of cfg v k) m ok) (step_lengths cfg s v (lengths-of cfg v k) m fits)

-- H never falls
rises_by : (key : Tag → ℕ) (b : Bool) (h t : Tag) → ltb (key h) (key t) ≡ b → key h ≤ key (cond b t h)
rises_by key true h t e = omega (arith, ltb-true (key h) (key t) e)
rises_by key false h t e = omega arith

module _ {Element : Type 0} (key : Tag → ℕ) (d s : ℕ) (v : Server Element) (m : Message Element) where
  finalised_rises : key v.highest ≤ key (finalised key v m.tag).highest
  unfolding finalised higher
  finalised_rises = rises_by key (ltb (key v.highest) (key m.tag)) v.highest m.tag refl

  store_by : (b c : Bool) (y : Stored Element) → key v.highest ≤ key (cond b v (cond c (add_last v y) (drop_smallest key v y))).highest
  unfolding add_last drop_smallest
  store_by true c y = omega arith
  store_by false true y = omega arith
  store_by false false y = omega arith

  store_rises : (y : Stored Element) → key v.highest ≤ key (store key d v y).highest
  unfolding store
  store_rises y = store_by (is_stored key y.tag v.stored || at_or_below_floor key y.tag v.floor) (ltb (length v.stored) (d + 1)) y

  stored_rises : (e : Option Element) → key v.highest ≤ key (store_element key d v m.tag e).highest
  unfolding store_element
  stored_rises none = omega arith
  stored_rises (some e) = store_rises (record { tag = m.tag; element = e })

  rises_of : (kind : Kind) → key v.highest ≤ key (server_step_of kind key d s v m).server.highest
  unfolding server_step_of query pre_write write_finalise read_finalise
  rises_of Query = omega arith
  rises_of QueryAnswer = omega arith
  rises_of PreWrite = stored_rises m.element
  rises_of PreWriteAnswer = omega arith
  rises_of WriteFinalise = finalised_rises
  rises_of WriteFinaliseAnswer = omega arith
  rises_of ReadFinalise = finalised_rises
  rises_of ReadFinaliseAnswer = omega arith
  rises_of Cleared = omega arith

  pub highest_rises : key v.highest ≤ key (server_step key d s v m).server.highest
  unfolding server_step
  highest_rises = rises_of m.kind

-- a fresh server is within question 6
pub fresh_tags : {Element : Type 0} (cfg : Config) (e : Element) → server_tags cfg (fresh_server e) ≡ true
unfolding fresh_server tags_of every once among floor_within
fresh_tags cfg e =
    make_within cfg start none (start ∷ []) refl (omega arith) refl refl refl

pub fresh_within : (cfg : Config) (e : Element) → e.length ≤ board_length cfg → server_within cfg (fresh_server e) ≡ true
unfolding fresh_server lengths_within stored_lengths every
fresh_within cfg e h =
    both_within cfg (fresh_server e) (fresh_tags cfg e) (rw (le-leb e.length (board_length cfg) h))

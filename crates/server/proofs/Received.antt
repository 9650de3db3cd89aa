-- Of the tags received the D + 1 highest are stored, and the floor, if any, is the highest dropped. Assumes nothing.
use Rattle.std.proofs.Common.{◌≡◌, ℕ, ◌<◌, ◌≤◌, true, false, ◌||◌, ◌⊎◌, List, [], ◌∷◌, sym, refl, ap, ◌∙◌, inl, inr, ⊎_elim, true≢false, arith, le-leb, leb-false, leb-true}
use mathlib.Core.Option.{Option, none, some}
use native.Mathlib.Decide.{ℕ_discrete}
use Rattle.config.specs.declared.Config.{Config}
use Rattle.config.specs.Config.{Valid}
use Rattle.laws.proofs.Bools.{and_left, and_right}
use Rattle.tag.specs.declared.Tag.{Tag}
use Rattle.tag.specs.Tag.{above, allowed, key, same, start}
use Rattle.tag.proofs.Order.{Small, above_key, above_not_self, key_above, same_one, same_self, small}
use Rattle.record.specs.declared.Kind.{Kind}
use Rattle.record.specs.declared.Kind.TheVariants.{Query, QueryAnswer, PreWrite, PreWriteAnswer, WriteFinalise, WriteFinaliseAnswer, ReadFinalise, ReadFinaliseAnswer, Cleared}
use Rattle.record.specs.Message.{Message}
use Rattle.protocol.specs.Server.{Server, Stored, add_last, at_or_below_floor, finalised, fresh_server, in_place_of, pre_write, query, read_finalise, server_step, server_step_of, store, store_element, write_finalise}
use Rattle.server.specs.Within.{among, every, floor_within, tags_of}
use Rattle.server.specs.Received.{Highest, each_allowed, holds, receive, received_after, server_after, with_tag}
use Rattle.server.proofs.Limits.{floor_allowed, floor_count, floor_every, within_allowed, within_count, within_floor, within_once}
use Rattle.server.proofs.Invariant.{finalised_tags, floored, fresh_tags, server_tags, store_cases, store_tags, tags_last, tags_long, tags_replaced}
use Rattle.server.proofs.Tags.{among_last, both, every_in, lowest_in, lowest_of, not_in, or_first, or_second, or_true, replaced, replaced_in, replaced_keeps, replaced_new}

-- what holds along a run
pub record Knows {Element : Type 0} (cfg : Config) (received : List Tag) (v : Server Element) : Type 0 where
  pub within : server_tags cfg v ≡ true
  pub allowed : every (allowed cfg.c) received ≡ true
  pub stored : (t : Tag) → holds v t ≡ true → among t received ≡ true
  pub known : (t : Tag) → among t received ≡ true → (holds v t || at_or_below_floor (key cfg) t v.floor) ≡ true
  pub floor : (f : Tag) → v.floor ≡ some f → among f received ≡ true

-- of the tag at the front or of the others
module _ (t x : Tag) (ts : List Tag) where
  pub at_front : among x (t ∷ ts) ≡ true → (t ≡ x) ⊎ (among x ts ≡ true)
  unfolding among
  at_front h = ⊎_elim (λ e. inl (same_one t x e)) (λ e. inr e) (or_true (same t x) (among x ts) h)

  pub further : among x ts ≡ true → among x (t ∷ ts) ≡ true
  unfolding among
  further h = or_second (same t x) (among x ts) h

pub front : (t : Tag) (ts : List Tag) → among t (t ∷ ts) ≡ true
unfolding among
front t ts = or_first (same t t) (among t ts) (same_self t)

one_some : (f g : Tag) → some f ≡ some g → f ≡ g
one_some f g e = cc

no_floor : (f : Tag) → none ≡ some f → ⊥
no_floor f e = let z : ◌≡◌ {A = ℕ} 0 1 = cc in omega arith

-- a floor within its limits: the stored tags are above it
module _ (cfg : Config) (valid : Valid cfg) (f : Tag) (ts : List Tag) (all : every (allowed cfg.c) ts ≡ true) (h : floor_within cfg (some f) ts ≡ true) where
  pub floor_above : (x : Tag) → among x ts ≡ true → above cfg x f ≡ true
  floor_above x i = every_in (λ (y : Tag). above cfg y f) ts x (floor_every cfg f ts h) i

  pub floor_key : (x : Tag) → among x ts ≡ true → key cfg f < key cfg x
  floor_key x i =
      above_key cfg valid x f (small cfg valid x (every_in (allowed cfg.c) ts x all i)) (small cfg valid f (floor_allowed cfg f ts h)) (floor_above x i)

module _ {Element : Type 0} (cfg : Config) (valid : Valid cfg) (received : List Tag) (v : Server Element) (k : Knows cfg received v) (y : Stored Element)
    (ok : allowed cfg.c y.tag ≡ true) where
  abbrev t : Tag
  t = y.tag

  abbrev ts : List Tag
  ts = tags_of v.stored

  abbrev u : Tag
  u = lowest_of cfg t ts

  all_allowed : every (allowed cfg.c) ts ≡ true
  all_allowed = within_allowed cfg v.highest v.floor ts k.within

  now_allowed : every (allowed cfg.c) (t ∷ received) ≡ true
  unfolding every
  now_allowed = both (allowed cfg.c t) (every (allowed cfg.c) received) ok k.allowed

  -- what is at or below the old floor is at or below the lowest
  below_low : (f : Option Tag) → floor_within cfg f ts ≡ true → (x : Tag) → at_or_below_floor (key cfg) x f ≡ true → at_or_below_floor (key cfg) t f ≡ false → key cfg x ≤ key cfg u
  unfolding at_or_below_floor
  below_low none h x b c = absurd (true≢false (sym b))
  below_low (some f) h x b c =
      let le : key cfg x ≤ key cfg f = leb-true (key cfg x) (key cfg f) b in
      let lt : key cfg f < key cfg t = leb-false (key cfg t) (key cfg f) c in
      ⊎_elim (λ e. omega (arith, ap (key cfg) e)) (λ i. omega (arith, floor_key cfg valid f ts all_allowed h u i)) (lowest_in cfg t ts)

  -- by cases of storing
  with_same : (among t ts || at_or_below_floor (key cfg) t v.floor) ≡ true → Knows cfg (t ∷ received) v
  with_same e =
      record {
        within = k.within;
        allowed = now_allowed;
        stored = λ x h. further t x received (k.stored x h);
        known =
            λ x h. ⊎_elim (λ w. ap (λ (z : Tag). among z ts || at_or_below_floor (key cfg) z v.floor) (sym w) ∙ e) (λ w. k.known x w) (at_front t x received h);
        floor = λ f h. further t f received (k.floor f h);
      }

  last_holds : (x : Tag) → holds (add_last v y) x ≡ among x ts || same t x
  unfolding add_last
  last_holds x = ap (among x) (tags_last v.stored y) ∙ among_last x t ts

  last_floor : (add_last v y).floor ≡ v.floor
  unfolding add_last
  last_floor = refl

  with_room : server_tags cfg (add_last v y) ≡ true → Knows cfg (t ∷ received) (add_last v y)
  with_room q =
      record {
        within = q;
        allowed = now_allowed;
        stored =
            λ x h.
            ⊎_elim (λ w. further t x received (k.stored x w)) (λ w. ap (λ (z : Tag). among z (t ∷ received)) (sym (same_one t x w)) ∙ front t received)
            (or_true (among x ts) (same t x) (sym (last_holds x) ∙ h));
        known =
            λ x h.
            let b = at_or_below_floor (key cfg) x (add_last v y).floor in
            ⊎_elim
            (λ w. or_first (holds (add_last v y) x) b (last_holds x ∙ or_second (among x ts) (same t x) (ap (same t) (sym w) ∙ same_self t)))
            (λ w.
            ⊎_elim (λ i. or_first (holds (add_last v y) x) b (last_holds x ∙ or_first (among x ts) (same t x) i))
            (λ i. or_second (holds (add_last v y) x) b (ap (at_or_below_floor (key cfg) x) last_floor ∙ i))
            (or_true (among x ts) (at_or_below_floor (key cfg) x v.floor) (k.known x w)))
            (at_front t x received h);
        floor = λ f h. further t f received (k.floor f (sym last_floor ∙ h));
      }

  -- the floor is the lowest
  low_received : among u (t ∷ received) ≡ true
  low_received =
      ⊎_elim (λ e. ap (λ (z : Tag). among z (t ∷ received)) e ∙ front t received) (λ i. further t u received (k.stored u i)) (lowest_in cfg t ts)

  low_floor : (f : Tag) → some u ≡ some f → among f (t ∷ received) ≡ true
  low_floor f e = ap (λ (z : Tag). among z (t ∷ received)) (sym (one_some u f e)) ∙ low_received

  below_some : (x : Tag) → key cfg x ≤ key cfg u → at_or_below_floor (key cfg) x (some u) ≡ true
  unfolding at_or_below_floor
  below_some x h = le-leb (key cfg x) (key cfg u) h

  with_itself : among t ts ≡ false → at_or_below_floor (key cfg) t v.floor ≡ false → key cfg u ≡ key cfg t → server_tags cfg (floored cfg valid v k.within y ok u v.stored) ≡ true
      → Knows cfg (t ∷ received) (floored cfg valid v k.within y ok u v.stored)
  with_itself a f e q =
      record {
        within = q;
        allowed = now_allowed;
        stored = λ x h. further t x received (k.stored x h);
        known =
            λ x h.
            let b = at_or_below_floor (key cfg) x (some u) in
            ⊎_elim (λ w. or_second (among x ts) b (below_some x (omega (arith, ap (key cfg) w))))
            (λ w.
            ⊎_elim (λ i. or_first (among x ts) b i)
            (λ i. or_second (among x ts) b (below_some x (below_low v.floor (within_floor cfg v.highest v.floor ts k.within) x i f)))
            (or_true (among x ts) (at_or_below_floor (key cfg) x v.floor) (k.known x w)))
            (at_front t x received h);
        floor = low_floor;
      }

  module _ (ne : key cfg u ≡ key cfg t → ⊥) where
    low_stored : among u ts ≡ true
    low_stored = ⊎_elim (λ e. absurd (ne (ap (key cfg) e))) (λ i. i) (lowest_in cfg t ts)

    abbrev xs : List (Stored Element)
    xs = in_place_of (key cfg) u y v.stored

    taken_holds : (x : Tag) → among x (tags_of xs) ≡ among x (replaced cfg u t ts)
    taken_holds x = ap (among x) (tags_replaced cfg u y v.stored)

    still : (x : Tag) → among x ts ≡ true → (among x (tags_of xs) || at_or_below_floor (key cfg) x (some u)) ≡ true
    still x i = elim (ℕ_discrete (key cfg x) (key cfg u)) as (λ _. (among x (tags_of xs) || at_or_below_floor (key cfg) x (some u)) ≡ true) [
      | yes e ↦ or_second (among x (tags_of xs)) (at_or_below_floor (key cfg) x (some u)) (below_some x (omega arith))
      | no n ↦ or_first (among x (tags_of xs)) (at_or_below_floor (key cfg) x (some u)) (taken_holds x ∙ replaced_keeps cfg u t x ts n i)
    ]

    with_another : at_or_below_floor (key cfg) t v.floor ≡ false → server_tags cfg (floored cfg valid v k.within y ok u xs) ≡ true
        → Knows cfg (t ∷ received) (floored cfg valid v k.within y ok u xs)
    with_another f q =
        record {
          within = q;
          allowed = now_allowed;
          stored =
              λ x h.
              ⊎_elim (λ w. further t x received (k.stored x w)) (λ w. ap (λ (z : Tag). among z (t ∷ received)) (sym w) ∙ front t received)
              (replaced_in cfg u t x ts (sym (taken_holds x) ∙ h));
          known =
              λ x h.
              let b = at_or_below_floor (key cfg) x (some u) in
              ⊎_elim
              (λ w. or_first (among x (tags_of xs)) b (taken_holds x ∙ ap (λ (z : Tag). among z (replaced cfg u t ts)) (sym w) ∙ replaced_new cfg u t ts low_stored))
              (λ w.
              ⊎_elim (λ i. still x i)
              (λ i. or_second (among x (tags_of xs)) b (below_some x (below_low v.floor (within_floor cfg v.highest v.floor ts k.within) x i f)))
              (or_true (among x ts) (at_or_below_floor (key cfg) x v.floor) (k.known x w)))
              (at_front t x received h);
          floor = low_floor;
        }

  pub store_knows : Knows cfg (t ∷ received) (store (key cfg) cfg.d v y)
  store_knows =
      store_cases cfg valid v k.within y ok (λ w. server_tags cfg w ≡ true → Knows cfg (t ∷ received) w) (λ e _. with_same e) (λ a f lt q. with_room q)
      (λ a f n e q. with_itself a f e q) (λ a f n ne q. with_another ne f q) (store_tags cfg valid v k.within y ok)

-- a step
module _ {Element : Type 0} (cfg : Config) (valid : Valid cfg) (s : ℕ) (received : List Tag) (v : Server Element) (k : Knows cfg received v)
    (m : Message Element) (ok : allowed cfg.c m.tag ≡ true) where
  finalised_knows : server_tags cfg (finalised (key cfg) v m.tag) ≡ true → Knows cfg received (finalised (key cfg) v m.tag)
  unfolding finalised
  finalised_knows q = record { within = q; allowed = k.allowed; stored = k.stored; known = k.known; floor = k.floor }

  element_knows : (e : Option Element) → Knows cfg (with_tag PreWrite m.tag e received) (store_element (key cfg) cfg.d v m.tag e)
  unfolding store_element
  element_knows none = k
  element_knows (some e) = store_knows cfg valid received v k (record { tag = m.tag; element = e }) ok

  by_kind : (kind : Kind) → Knows cfg (with_tag kind m.tag m.element received) (server_step_of kind (key cfg) cfg.d s v m).server
  unfolding server_step_of query pre_write write_finalise read_finalise
  by_kind Query = k
  by_kind QueryAnswer = k
  by_kind PreWrite = element_knows m.element
  by_kind PreWriteAnswer = k
  by_kind WriteFinalise = finalised_knows (finalised_tags cfg valid s v k.within m ok)
  by_kind WriteFinaliseAnswer = k
  by_kind ReadFinalise = finalised_knows (finalised_tags cfg valid s v k.within m ok)
  by_kind ReadFinaliseAnswer = k
  by_kind Cleared = k

  pub step_knows : Knows cfg (receive m received) (server_step (key cfg) cfg.d s v m).server
  unfolding server_step
  step_knows = by_kind m.kind

-- a run
pub run_knows : {Element : Type 0} (cfg : Config) → Valid cfg → (s : ℕ) (received : List Tag) (v : Server Element) → Knows cfg received v
    → (ms : List (Message Element)) → each_allowed cfg.c ms ≡ true → Knows cfg (received_after received ms) (server_after cfg s v ms)
unfolding received_after server_after each_allowed
run_knows cfg valid s received v k [] ok = k
run_knows cfg valid s received v k (m ∷ ms) ok =
    run_knows cfg valid s (receive m received) (server_step (key cfg) cfg.d s v m).server
    (step_knows cfg valid s received v k m (and_left (allowed cfg.c m.tag) (each_allowed cfg.c ms) ok)) ms
    (and_right (allowed cfg.c m.tag) (each_allowed cfg.c ms) ok)

-- it starts with the starting board's element
pub fresh_knows : {Element : Type 0} (cfg : Config) (e : Element) → Knows cfg (start ∷ []) (fresh_server e)
unfolding fresh_server tags_of every
fresh_knows cfg e =
    record {
      within = fresh_tags cfg e;
      allowed = refl;
      stored = λ t h. h;
      known = λ t h. or_first (among t (start ∷ [])) (at_or_below_floor (key cfg) t none) h;
      floor = λ f h. absurd (no_floor f h);
    }

-- what holds along a run says which tags are stored
module _ {Element : Type 0} (cfg : Config) (valid : Valid cfg) (received : List Tag) (v : Server Element) (k : Knows cfg received v) where
  abbrev held : List Tag
  held = tags_of v.stored

  floor-of : (f : Tag) → v.floor ≡ some f → floor_within cfg (some f) held ≡ true
  floor-of f e = ap (λ (o : Option Tag). floor_within cfg o held) (sym e) ∙ within_floor cfg v.highest v.floor held k.within

  allowed_of : every (allowed cfg.c) held ≡ true
  allowed_of = within_allowed cfg v.highest v.floor held k.within

  small_of : (t : Tag) → among t received ≡ true → Small t
  small_of t h = small cfg valid t (every_in (allowed cfg.c) received t k.allowed h)

  -- a received tag that is not stored is at or below the floor
  below_of : (t : Tag) → among t received ≡ true → holds v t ≡ false → at_or_below_floor (key cfg) t v.floor ≡ true
  below_of t h n = ⊎_elim (λ e. absurd (true≢false (sym e ∙ n))) (λ e. e) (or_true (holds v t) (at_or_below_floor (key cfg) t v.floor) (k.known t h))

  key_of : (t f : Tag) → v.floor ≡ some f → among t received ≡ true → holds v t ≡ false → key cfg t ≤ key cfg f
  unfolding at_or_below_floor
  key_of t f e h n = leb-true (key cfg t) (key cfg f) (ap (at_or_below_floor (key cfg) t) (sym e) ∙ below_of t h n)

  above_by : (o : Option Tag) → v.floor ≡ o → (t x : Tag) → among t received ≡ true → holds v t ≡ false → holds v x ≡ true → above cfg x t ≡ true
  unfolding at_or_below_floor
  above_by none e t x h n i = absurd (true≢false (sym (below_of t h n) ∙ ap (at_or_below_floor (key cfg) t) e))
  above_by (some f) e t x h n i =
      key_above cfg valid x t (small cfg valid x (every_in (allowed cfg.c) held x allowed_of i)) (small_of t h)
      (omega (arith, key_of t f e h n, floor_key cfg valid f held allowed_of (floor-of f e) x i))

  all_by : v.floor ≡ none → (t : Tag) → among t received ≡ true → holds v t ≡ true
  unfolding at_or_below_floor
  all_by e t h =
      ⊎_elim (λ i. i) (λ i. absurd (true≢false (sym i ∙ ap (at_or_below_floor (key cfg) t) e))) (or_true (holds v t) (at_or_below_floor (key cfg) t v.floor) (k.known t h))

  pub highest_of : Highest cfg received v
  highest_of =
      record {
        few = omega (arith, tags_long v.stored, within_count cfg v.highest v.floor held k.within);
        once = within_once cfg v.highest v.floor held k.within;
        stored = k.stored;
        above = above_by v.floor refl;
        all = all_by;
        count = λ f e. sym (tags_long v.stored) ∙ floor_count cfg f held (floor-of f e);
        dropped =
            λ f e. (
              k.floor f e,
              not_in (holds v f)
                  (λ i. above_not_self cfg valid f (small_of f (k.floor f e)) (floor_above cfg valid f held allowed_of (floor-of f e) f i)),
            );
        highest =
            λ f t e h n.
            not_in (above cfg t f) (λ a. omega (arith, key_of t f e h n, above_key cfg valid t f (small_of t h) (small_of f (k.floor f e)) a));
      }

-- after any messages to a fresh server
pub run_highest : {Element : Type 0} (cfg : Config) → Valid cfg → (s : ℕ) (e : Element) (ms : List (Message Element)) → each_allowed cfg.c ms ≡ true
    → Highest cfg (received_after (start ∷ []) ms) (server_after cfg s (fresh_server e) ms)
run_highest cfg valid s e ms ok =
    highest_of cfg valid (received_after (start ∷ []) ms) (server_after cfg s (fresh_server e) ms)
    (run_knows cfg valid s (start ∷ []) (fresh_server e) (fresh_knows cfg e) ms ok)

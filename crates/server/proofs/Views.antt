-- What storing does to the view: one more place, or one place taken by another. Assumes nothing.
use Rattle.std.proofs.Common.{◌≡◌, ℕ, ◌+◌, ◌*◌, ◌<◌, ◌≤◌, true, false, eqb, List, [], ◌∷◌, ◌++◌, length, set, sym, ap, ◌∙◌, ap₂, inl, inr, zero-add, arith, get_or-set_other, get_or-set_same, eq-eqb, le-leb}
use borrow.Author.Tests.{lt-leb}
use Rattle.laws.specs.Parts.{over}
use Rattle.laws.proofs.Parts.{part_fits, part_other, part_own}
use Rattle.config.specs.declared.Config.{Config}
use Rattle.config.specs.Config.{Valid}
use Rattle.tag.specs.declared.Tag.{Tag}
use Rattle.tag.specs.Tag.{allowed, key, start}
use Rattle.tag.proofs.Order.{Small, same_eqb, small}
use Rattle.record.specs.Element.{Element, element_with}
use Rattle.protocol.specs.Server.{Stored, add_last, drop_smallest, in_place_of, others, smallest}
use Rattle.server.specs.declared.State.{State}
use Rattle.server.specs.inner.Keep.{appended, dropped, lowest}
use Rattle.server.specs.Within.{among, every, once}
use Rattle.server.specs.View.{each, floor_of, place_at, tag_at, tags_used, view}
use Rattle.server.proofs.Each.{Lowest, among_at, each_last, each_same, every_at, lowest_place}
use Rattle.server.proofs.Lists.{in_place, least_smallest}

-- a tag and its element with a length at place p
module _ (cfg : Config) (tags : List Tag) (lengths store : List ℕ) (p : ℕ) (t : Tag) (n : ℕ) (element : List ℕ) (sized : length element ≡ cfg.e)
    (fits : p * cfg.e + cfg.e ≤ length store) (within : p < length tags) (beside : p < length lengths) where
  abbrev after : ℕ → Stored Element
  after = place_at cfg (set tags p t) (set lengths p n) (over (p * cfg.e) cfg.e element store)

  pub put_place : after p ≡ record { tag = t; element = element_with n element }
  put_place =
      λ i.
      record {
        tag = get_or-set_same tags p t start within i;
        element = record {
          length = get_or-set_same lengths p n 0 beside i;
          bytes = part_own cfg.e p element store sized fits i;
        };
      }

  pub other_place : (j : ℕ) → (j ≡ p → ⊥) → after j ≡ place_at cfg tags lengths store j
  other_place j ne =
      λ i.
      record {
        tag = get_or-set_other tags p j t start ne i;
        element = record { length = get_or-set_other lengths p j n 0 ne i; bytes = part_other cfg.e p element store sized fits j ne i };
      }

module _ (cfg : Config) (s : State) (store : List ℕ) (t : Tag) (n : ℕ) (element : List ℕ) (sized : length element ≡ cfg.e)
    (eight : (length s.tags ≡ 8) × (length s.lengths ≡ 8)) where
  abbrev new : Stored Element
  new = record { tag = t; element = element_with n element }

  -- the places as they were
  abbrev old : ℕ → Stored Element
  old = place_at cfg s.tags s.lengths store

  -- one more place
  pub append_view : s.count < 8 → s.count * cfg.e + cfg.e ≤ length store
      → view cfg (appended s t n) (over (s.count * cfg.e) cfg.e element store) ≡ add_last (view cfg s store) new
  unfolding view appended add_last
  append_view room fits =
      let after = place_at cfg (set s.tags s.count t) (set s.lengths s.count n) (over (s.count * cfg.e) cfg.e element store) in
      let within : s.count < length s.tags = omega (arith, eight.0) in
      let beside : s.count < length s.lengths = omega (arith, eight.1) in
      let same-before : each after 0 s.count ≡ each old 0 s.count =
      each_same after old 0 s.count
      (λ j lo hi. other_place cfg s.tags s.lengths store s.count t n element sized fits within beside j (λ z. omega arith)) in
      let stored : each after 0 (s.count + 1) ≡ each old 0 s.count ++ new ∷ [] =
      each_last after 0 s.count ∙ ap (λ (j : ℕ). each after 0 s.count ++ after j ∷ []) (zero-add s.count)
      ∙ ap₂ {A = List (Stored Element)} (λ (xs : List (Stored Element)) (x : Stored Element). xs ++ x ∷ []) same-before
      (put_place cfg s.tags s.lengths store s.count t n element sized fits within beside) in
      λ i. record { highest = s.highest; floor = floor_of s.floor; stored = stored i }

  -- the lowest dropped
  module _ (valid : Valid cfg) (st : Small t) (all : every (allowed cfg.c) (tags_used s) ≡ true) (one : once (tags_used s) ≡ true)
      (apart : among t (tags_used s) ≡ false) where
    abbrev u : Tag
    u = (lowest cfg s t).tag

    abbrev p : ℕ
    p = (lowest cfg s t).place

    is_smallest : u ≡ smallest (key cfg) t (each old 0 s.count)
    is_smallest = least_smallest cfg valid old t st s.count 0 s.count all

    place_is : Lowest (tag_at s.tags) t s.count 0 s.count (lowest cfg s t)
    place_is = lowest_place cfg (tag_at s.tags) t s.count 0 s.count

    -- t itself is the lowest: nothing is stored
    itself_by : Lowest (tag_at s.tags) t s.count 0 s.count (lowest cfg s t) → s.count ≤ p → u ≡ t
    itself_by (inl w) h = w.1
    itself_by (inr w) h = absurd (omega (arith, w.1))

    pub itself_view : s.count ≤ p → view cfg (dropped cfg s t n) store ≡ drop_smallest (key cfg) (view cfg s store) new
    unfolding view dropped drop_smallest others
    itself_view h =
        let e : u ≡ t = itself_by place_is h in
        let k : eqb (key cfg u) (key cfg t) ≡ true = eq-eqb (key cfg u) (key cfg t) (ap (key cfg) e) in
        rw (le-leb s.count p h, ← is_smallest, k)

    -- another is the lowest: t has its place
    place_by : Lowest (tag_at s.tags) t s.count 0 s.count (lowest cfg s t) → p < s.count → tag_at s.tags p ≡ u
    place_by (inl w) h = absurd (omega (arith, w.0))
    place_by (inr w) h = w.2

    pub another_view : p < s.count → s.count ≤ 8 → s.count * cfg.e ≤ length store
        → view cfg (dropped cfg s t n) (over (p * cfg.e) cfg.e element store) ≡ drop_smallest (key cfg) (view cfg s store) new
    unfolding view dropped drop_smallest others
    another_view h eights room =
        let is : tag_at s.tags p ≡ u = place_by place_is h in
        let fits : p * cfg.e + cfg.e ≤ length store = omega (arith, part_fits p s.count cfg.e h) in
        let within : p < length s.tags = omega (arith, eight.0) in
        let beside : p < length s.lengths = omega (arith, eight.1) in
        let top : p < 0 + s.count = omega arith in
        let sp : Small (tag_at s.tags p) = small cfg valid (tag_at s.tags p) (every_at (tag_at s.tags) (allowed cfg.c) 0 s.count p all (omega arith) top) in
        let k : eqb (key cfg u) (key cfg t) ≡ false =
        ap (λ (x : Tag). eqb (key cfg x) (key cfg t)) (sym is) ∙ sym (same_eqb cfg valid (tag_at s.tags p) t sp st) ∙ among_at (tag_at s.tags) t 0 s.count p apart (omega arith) top in
        let after = place_at cfg (set s.tags p t) (set s.lengths p n) (over (p * cfg.e) cfg.e element store) in
        let taken : in_place_of (key cfg) u new (each old 0 s.count) ≡ each after 0 s.count =
        in_place cfg valid old u new after p is (put_place cfg s.tags s.lengths store p t n element sized fits within beside)
        (other_place cfg s.tags s.lengths store p t n element sized fits within beside) 0 s.count all one (omega arith) top in
        rw (lt-leb s.count p h, ← is_smallest, k, taken)

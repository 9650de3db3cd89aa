-- Places, as the protocol's lists have them: where a tag stands, its element, the smallest, a place taken by another. Assumes nothing.
use Rattle.std.proofs.Common.{◌≡◌, ℕ, zero, suc, ◌+◌, ◌<◌, ◌≤◌, Bool, true, false, cond, not, ◌||◌, eqb, ltb, List, ◌∷◌, sym, refl, ap, ◌∙◌, ap₂, arith, eq-eqb, ne_eqb}
use mathlib.Core.Option.{Option, none, some}
use native.Mathlib.Decide.{ℕ_discrete}
use borrow.Author.Tests.{eqb-false, not-true}
use Rattle.laws.proofs.Bools.{and_left, and_right}
use Rattle.config.specs.declared.Config.{Config}
use Rattle.config.specs.Config.{Valid}
use Rattle.tag.specs.declared.Tag.{Tag}
use Rattle.tag.specs.Tag.{above, allowed, key, same}
use Rattle.tag.proofs.Order.{Small, above_ltb, same_eqb, small}
use Rattle.protocol.specs.Server.{Stored, element_of, in_place_of, is_stored, smallest}
use Rattle.protocol.specs.Tags.{lower}
use Rattle.server.specs.declared.places.Least.{Least}
use Rattle.server.specs.inner.Places.{least_from}
use Rattle.server.specs.Within.{among, every, once}
use Rattle.server.specs.View.{each, place_in}
use Rattle.server.proofs.Each.{among_at, each_same, every_at}

-- the lower of two, by one test or the other
least_by : (b c : Bool) → b ≡ c → (l m : Least) (sm : Tag → Tag) (t x : Tag) → l.tag ≡ sm x → m.tag ≡ sm t → (cond b l m).tag ≡ sm (cond c x t)
least_by true c e l m sm t x p q = p ∙ ap (λ (z : Bool). sm (cond z x t)) e
least_by false c e l m sm t x p q = q ∙ ap (λ (z : Bool). sm (cond z x t)) e

-- places f, of which every tag is allowed
module _ {Element : Type 0} (cfg : Config) (valid : Valid cfg) (f : ℕ → Stored Element) where
  abbrev tag : ℕ → Tag
  tag i = (f i).tag

  first_small : (i n : ℕ) → every (allowed cfg.c) (each tag i (suc n)) ≡ true → Small (tag i)
  unfolding each every
  first_small i n h = small cfg valid (tag i) (and_left (allowed cfg.c (tag i)) (every (allowed cfg.c) (each tag (suc i) n)) h)

  rest_allowed : (i n : ℕ) → every (allowed cfg.c) (each tag i (suc n)) ≡ true → every (allowed cfg.c) (each tag (suc i) n) ≡ true
  unfolding each every
  rest_allowed i n h = and_right (allowed cfg.c (tag i)) (every (allowed cfg.c) (each tag (suc i) n)) h

  module _ (t : Tag) (st : Small t) where
    -- the test for being stored, and the place
    pub stored_among : (i n : ℕ) → every (allowed cfg.c) (each tag i n) ≡ true → is_stored (key cfg) t (each f i n) ≡ among t (each tag i n)
    unfolding is_stored among each
    stored_among i zero h = refl
    stored_among i (suc n) h =
        ap₂ {A = Bool} (λ (a b : Bool). a || b) (sym (same_eqb cfg valid (tag i) t (first_small i n h) st)) (stored_among (suc i) n (rest_allowed i n h))

    -- the element at the place, or none
    found_by : (b : Bool) (e : Element) (g : ℕ → Element) (i p n : ℕ) (o : Option Element) → (p < n → o ≡ some (g (suc i + p)))
        → e ≡ g i → cond b 0 (suc p) < suc n → cond b (some e) o ≡ some (g (i + cond b 0 (suc p)))
    found_by true e g i p n o h k lt =
        let z : i ≡ i + 0 = omega arith in
        ap {B = Option Element} some (k ∙ ap g z)
    found_by false e g i p n o h k lt =
        let z : suc i + p ≡ i + suc p = omega arith in
        h (omega arith) ∙ ap {B = Option Element} (λ j. some (g j)) z

    pub element_found : (i n : ℕ) → every (allowed cfg.c) (each tag i n) ≡ true → place_in t (each tag i n) < n
        → element_of (key cfg) t (each f i n) ≡ some (f (i + place_in t (each tag i n))).element
    unfolding element_of place_in each
    element_found i zero h lt = absurd (omega arith)
    element_found i (suc n) h lt =
        ap (λ (b : Bool). cond b (some (f i).element) (element_of (key cfg) t (each f (suc i) n))) (sym (same_eqb cfg valid (tag i) t (first_small i n h) st))
        ∙ found_by (same (tag i) t) (f i).element (λ j. (f j).element) i (place_in t (each tag (suc i) n)) n (element_of (key cfg) t (each f (suc i) n))
        (element_found (suc i) n (rest_allowed i n h)) refl lt

    missed_by : (b : Bool) (e : Element) (p n : ℕ) (o : Option Element) → (n ≤ p → o ≡ none) → suc n ≤ cond b 0 (suc p)
        → cond b (some e) o ≡ none
    missed_by true e p n o h le = absurd (omega arith)
    missed_by false e p n o h le = h (omega arith)

    pub element_missed : (i n : ℕ) → every (allowed cfg.c) (each tag i n) ≡ true → n ≤ place_in t (each tag i n)
        → element_of (key cfg) t (each f i n) ≡ none
    unfolding element_of place_in each
    element_missed i zero h le = refl
    element_missed i (suc n) h le =
        ap (λ (b : Bool). cond b (some (f i).element) (element_of (key cfg) t (each f (suc i) n))) (sym (same_eqb cfg valid (tag i) t (first_small i n h) st))
        ∙ missed_by (same (tag i) t) (f i).element (place_in t (each tag (suc i) n)) n (element_of (key cfg) t (each f (suc i) n))
        (element_missed (suc i) n (rest_allowed i n h)) le

  -- the smallest
  pub least_smallest : (t : Tag) → Small t → (p i n : ℕ) → every (allowed cfg.c) (each tag i n) ≡ true
      → (least_from cfg t p i (each tag i n)).tag ≡ smallest (key cfg) t (each f i n)
  unfolding least_from smallest each lower
  least_smallest t st p i zero h = refl
  least_smallest t st p i (suc n) h =
      least_by (above cfg t (tag i)) (ltb (key cfg (tag i)) (key cfg t)) (above_ltb cfg valid t (tag i) st (first_small i n h))
      (least_from cfg (tag i) i (suc i) (each tag (suc i) n)) (least_from cfg t p (suc i) (each tag (suc i) n)) (λ u. smallest (key cfg) u (each f (suc i) n)) t
      (tag i) (least_smallest (tag i) (first_small i n h) i (suc i) n (rest_allowed i n h)) (least_smallest t st p (suc i) n (rest_allowed i n h))

  -- the place of u taken by y: one place is changed
  module _ (u : Tag) (y : Stored Element) (g : ℕ → Stored Element) (p : ℕ) (is : tag p ≡ u) (here : g p ≡ y)
      (elsewhere : (j : ℕ) → (j ≡ p → ⊥) → g j ≡ f j) where
    pub in_place : (i n : ℕ) → every (allowed cfg.c) (each tag i n) ≡ true → once (each tag i n) ≡ true → i ≤ p → p < i + n
        → in_place_of (key cfg) u y (each f i n) ≡ each g i n
    unfolding in_place_of each once
    in_place i zero a o lo hi = absurd (omega arith)
    in_place i (suc n) a o lo hi = elim (ℕ_discrete i p) as (λ _. in_place_of (key cfg) u y (f i ∷ each f (suc i) n) ≡ g i ∷ each g (suc i) n) [
      | yes e ↦
          let k : key cfg (tag i) ≡ key cfg u = ap (λ (j : ℕ). key cfg (tag j)) e ∙ ap (key cfg) is in
          ap (λ (b : Bool). cond b (y ∷ each f (suc i) n) (f i ∷ in_place_of (key cfg) u y (each f (suc i) n))) (eq-eqb (key cfg (tag i)) (key cfg u) k)
          ∙ ap₂ {A = Stored Element} (λ (x : Stored Element) (xs : List (Stored Element)). x ∷ xs) (sym here ∙ ap g (sym e))
          (each_same f g (suc i) n (λ j l m. sym (elsewhere j (λ z. omega arith))))
      | no ne ↦
          let apart : among (tag i) (each tag (suc i) n) ≡ false = not-true (among (tag i) (each tag (suc i) n)) (and_left (not (among (tag i) (each tag (suc i) n))) (once (each tag (suc i) n)) o) in
          let other : same (tag p) (tag i) ≡ false = among_at tag (tag i) (suc i) n p apart (omega arith) (omega arith) in
          let sp : Small (tag p) = small cfg valid (tag p) (every_at tag (allowed cfg.c) i (suc n) p a lo hi) in
          let k : eqb (key cfg (tag p)) (key cfg (tag i)) ≡ false = sym (same_eqb cfg valid (tag p) (tag i) sp (first_small i n a)) ∙ other in
          let m : key cfg (tag i) ≡ key cfg u → ⊥ = λ z. eqb-false (key cfg (tag p)) (key cfg (tag i)) k (ap (key cfg) is ∙ sym z) in
          ap (λ (b : Bool). cond b (y ∷ each f (suc i) n) (f i ∷ in_place_of (key cfg) u y (each f (suc i) n))) (ne_eqb (key cfg (tag i)) (key cfg u) m)
          ∙ ap₂ {A = Stored Element} (λ (x : Stored Element) (xs : List (Stored Element)). x ∷ xs) (sym (elsewhere i ne))
          (in_place (suc i) n (rest_allowed i n a) (and_right (not (among (tag i) (each tag (suc i) n))) (once (each tag (suc i) n)) o) (omega arith) (omega arith))
    ]

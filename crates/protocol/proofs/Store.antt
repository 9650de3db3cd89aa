-- What a server stores after a pre-write is what it stored, and perhaps the new element; what it finds, it stores.
use Prim.Native.Nat.{ℕ, ◌+◌, ◌≤◌}
use mathlib.Core.Path.{◌≡◌, refl}
use mathlib.Core.Bool.{cond, ◌||◌}
use mathlib.Core.Logic.{◌⊎◌, inl, inr, ⊎_elim, ⊎_map}
use mathlib.Core.Option.{Option, some}
use mathlib.Core.List.Memᴰ
use mathlib.Core.List.{List, [], ◌∷◌, Memᴰ}
use lib.Dec.{ltb}
use lib.ListN.{length}
use borrow.Author.Tests.{ltb-true, ltb-false, eqb-true}
use native.Mathlib.Nat.{le_refl}
use native.Mathlib.Omega.{arith}
use Rattle.tag.specs.declared.Tag.{Tag}
use Rattle.protocol.specs.Tags.{same_key, higher}
use Rattle.protocol.specs.Server.{Server, Stored, is_stored, element_of, at_or_below_floor, smallest, in_place_of, others, drop_smallest, add_last, store}
use Rattle.protocol.proofs.Basics.{cond_elim, none≢some, some-injective}

-- the higher of two tags is at or above both, and one of them
pub higher_left : (key : Tag → ℕ) (t u : Tag) → key t ≤ key (higher key t u)
unfolding higher
higher_left key t u =
    cond_elim (λ (x : Tag). key t ≤ key x) (ltb (key t) (key u)) u t (λ e. omega (arith, ltb-true (key t) (key u) e)) (λ e. le_refl _)

pub higher_right : (key : Tag → ℕ) (t u : Tag) → key u ≤ key (higher key t u)
unfolding higher
higher_right key t u =
    cond_elim (λ (x : Tag). key u ≤ key x) (ltb (key t) (key u)) u t (λ e. le_refl _) (λ e. ltb-false (key t) (key u) e)

pub higher_elim : (key : Tag → ℕ) (P : Tag → Type 0) (t u : Tag) → P t → P u → P (higher key t u)
unfolding higher
higher_elim key P t u pt pu = cond_elim P (ltb (key t) (key u)) u t (λ e. pu) (λ e. pt)

module _ {Element : Type 0} (key : Tag → ℕ) where
  in_place_mem : (u : Tag) (y x : Stored Element) (xs : List (Stored Element)) → Memᴰ x (in_place_of key u y xs) → (x ≡ y) ⊎ Memᴰ x xs
  unfolding in_place_of
  in_place_mem u y x [] i = inr i
  in_place_mem u y x (z ∷ zs) i =
      cond_elim (λ (l : List (Stored Element)). Memᴰ x l → (x ≡ y) ⊎ Memᴰ x (z ∷ zs)) (same_key key z.tag u) (y ∷ zs) (z ∷ in_place_of key u y zs)
      (λ e j. ⊎_map (λ h. h) Memᴰ.tail (Memᴰ.cases_cons j))
      (λ e j. ⊎_elim (λ h. inr (Memᴰ.head h)) (λ h. ⊎_map (λ l. l) Memᴰ.tail (in_place_mem u y x zs h)) (Memᴰ.cases_cons j))
      i

  others_mem : (u : Tag) (y x : Stored Element) (xs : List (Stored Element)) → Memᴰ x (others key u y xs) → (x ≡ y) ⊎ Memᴰ x xs
  unfolding others
  others_mem u y x xs =
      cond_elim (λ (l : List (Stored Element)). Memᴰ x l → (x ≡ y) ⊎ Memᴰ x xs) (same_key key u y.tag) xs (in_place_of key u y xs) (λ e j. inr j) (λ e. in_place_mem u y x xs)

  -- the server after a pre-write of y
  pub store_mem : (d : ℕ) (v : Server Element) (y x : Stored Element) → Memᴰ x (store key d v y).stored → (x ≡ y) ⊎ Memᴰ x v.stored
  unfolding store add_last drop_smallest
  store_mem d v y x =
      cond_elim (λ (w : Server Element). Memᴰ x w.stored → (x ≡ y) ⊎ Memᴰ x v.stored) (is_stored key y.tag v.stored || at_or_below_floor key y.tag v.floor) v
      (cond (ltb (length v.stored) (d + 1)) (add_last v y) (drop_smallest key v y))
      (λ e i. inr i)
      (λ e. cond_elim (λ (w : Server Element). Memᴰ x w.stored → (x ≡ y) ⊎ Memᴰ x v.stored) (ltb (length v.stored) (d + 1)) (add_last v y) (drop_smallest key v y)
      (λ f i. ⊎_elim inr (λ h. inl (Memᴰ.eq_of_singleton h)) (Memᴰ.append_cases v.stored i))
      (λ f. others_mem (smallest key y.tag v.stored) y x v.stored))

  pub store_highest : (d : ℕ) (v : Server Element) (y : Stored Element) → (store key d v y).highest ≡ v.highest
  unfolding store add_last drop_smallest
  store_highest d v y =
      cond_elim (λ (w : Server Element). w.highest ≡ v.highest) (is_stored key y.tag v.stored || at_or_below_floor key y.tag v.floor) v
      (cond (ltb (length v.stored) (d + 1)) (add_last v y) (drop_smallest key v y))
      (λ e. refl)
      (λ e. cond_elim (λ (w : Server Element). w.highest ≡ v.highest) (ltb (length v.stored) (d + 1)) (add_last v y) (drop_smallest key v y) (λ f. refl) (λ f. refl))

  -- the element found for a tag is stored with that tag
  pub found : (t : Tag) (e : Element) (xs : List (Stored Element)) → element_of key t xs ≡ some e → (x : Stored Element) × Memᴰ x xs × (key x.tag ≡ key t) × (x.element ≡ e)
  unfolding element_of
  found t e [] h = absurd (none≢some h)
  found t e (x ∷ xs) h =
      cond_elim (λ (o : Option Element). o ≡ some e → (y : Stored Element) × Memᴰ y (x ∷ xs) × (key y.tag ≡ key t) × (y.element ≡ e)) (same_key key x.tag t) (some x.element) (element_of key t xs)
      (λ i j. (x, Memᴰ.head refl, eqb-true (key x.tag) (key t) i, some-injective j))
      (λ i j.
      let y = found t e xs j in
      (y.0, Memᴰ.tail y.1, y.2, y.3))
      h

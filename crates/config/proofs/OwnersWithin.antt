-- Each message's board is one that there is: so of a list of boards with one left out, and with one that there is added. Assumes nothing.
use Prim.Native.Nat.{ℕ, zero, suc, ◌+◌, ◌<◌}
use mathlib.Core.Path.{◌≡◌, refl}
use mathlib.Core.Bool.{true}
use mathlib.Core.List.{List, [], ◌∷◌, ◌++◌}
use native.Mathlib.Omega.{arith}
use lib.ListN.{length, drop, get_or, replicate, take}
use Rattle.laws.specs.Lists.{without}
use Rattle.laws.specs.Below.{all_below}
use Rattle.laws.proofs.Below.{below_all, below_at}
use Rattle.config.specs.declared.Room.{Room}
use Rattle.config.specs.Questions.{within}
use Rattle.config.specs.Room.{owners_within}

module _ (room : Room) where
  pub none_within : owners_within room [] ≡ true
  unfolding owners_within all_below
  none_within = refl

  first_within : (o : ℕ) (os : List ℕ) → owners_within room (o ∷ os) ≡ true → within 1 room.boards o ≡ true
  unfolding owners_within
  first_within o os h = below_at (length (o ∷ os)) _ h 0 (omega arith)

  rest_within : (o : ℕ) (os : List ℕ) → owners_within room (o ∷ os) ≡ true → owners_within room os ≡ true
  unfolding owners_within
  rest_within o os h = below_all (length os) _ (λ i l. below_at (length (o ∷ os)) _ h (suc i) (omega arith))

  next_within : (o : ℕ) (os : List ℕ) → within 1 room.boards o ≡ true → owners_within room os ≡ true → owners_within room (o ∷ os) ≡ true
  unfolding owners_within
  next_within o os e h = below_all (length (o ∷ os)) _ at
    where
      at : (i : ℕ) → i < length (o ∷ os) → within 1 room.boards (get_or (o ∷ os) i 0) ≡ true
      at zero l = e
      at (suc i) l = below_at (length os) _ h i (omega arith)

  take_within : (i : ℕ) (os : List ℕ) → owners_within room os ≡ true → owners_within room (take i os) ≡ true
  take_within zero os h = none_within
  take_within (suc i) [] h = h
  take_within (suc i) (o ∷ os) h = next_within o (take i os) (first_within o os h) (take_within i os (rest_within o os h))

  drop_within : (i : ℕ) (os : List ℕ) → owners_within room os ≡ true → owners_within room (drop i os) ≡ true
  drop_within zero os h = h
  drop_within (suc i) [] h = h
  drop_within (suc i) (o ∷ os) h = drop_within i os (rest_within o os h)

  pub append_within : (os ps : List ℕ) → owners_within room os ≡ true → owners_within room ps ≡ true → owners_within room (os ++ ps) ≡ true
  append_within [] ps h k = k
  append_within (o ∷ os) ps h k = next_within o (os ++ ps) (first_within o os h) (append_within os ps (rest_within o os h) k)

  pub without_within : (i : ℕ) (os : List ℕ) → owners_within room os ≡ true → owners_within room (without i os) ≡ true
  unfolding without
  without_within i os h = append_within (take i os) (drop (i + 1) os) (take_within i os h) (drop_within (i + 1) os h)

  pub added_within : (n b : ℕ) → within 1 room.boards b ≡ true → owners_within room (replicate n b) ≡ true
  added_within zero b e = none_within
  added_within (suc n) b e = next_within b (replicate n b) e (added_within n b e)

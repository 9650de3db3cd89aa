-- Question 6 of a rig, place by place: of both parties of each place, up to the greater of N and C. Assumes nothing.
use Prim.Native.Nat.{ℕ, ◌≤◌, ◌<◌}
use mathlib.Core.Path.{◌≡◌, refl, sym, ap₂, ◌∙◌}
use mathlib.Core.Bool.{Bool, true, false, ◌&&◌, true≢false}
use mathlib.Core.Option.{Option}
use native.Mathlib.Omega.{arith}
use native.Mathlib.Decide.{dec_lt}
use borrow.Author.Tests.{le-leb, lt-leb}
use lib.ListN.{length, get_or, get_elem?}
use Rattle.laws.proofs.Bools.{and_left, and_right}
use Rattle.laws.proofs.Lists.{at_get_d}
use Rattle.config.specs.declared.Config.{Config}
use Rattle.client.specs.declared.State as client
use Rattle.parties.specs.declared.Node.{Node}
use Rattle.events.specs.declared.Rig.{Rig}
use Rattle.parties.specs.Within.{client_in_place, server_in_place}
use Rattle.laws.specs.Below.{all_below}
use Rattle.events.specs.Questions.{parties_within}
use Rattle.rig.specs.inner.Within.{client_yes, server_yes, unless}
use Rattle.laws.proofs.Below.{below_all, below_at}

-- a place past n is not asked of, one below n is
pub not_asked : (n i : ℕ) (b : Bool) → n ≤ i → true ≡ unless n i b
not_asked n i b h = rw (le-leb n i h)

pub is_asked : (n i : ℕ) (b : Bool) → i < n → b ≡ unless n i b
is_asked n i b h = rw (lt-leb n i h)

asked_yes : (n i : ℕ) (b : Bool) → (i < n → b ≡ true) → unless n i b ≡ true
asked_yes n i b h = elim (dec_lt i n) as (λ _. unless n i b ≡ true) [
  | yes l ↦ sym (is_asked n i b l) ∙ h l
  | no l ↦ sym (not_asked n i b (omega (arith, l)))
]

module _ (cfg : Config) (r : Rig) where
  abbrev server_at : ℕ → Bool
  server_at i = server_in_place cfg i (get_elem? r.servers i)

  abbrev client_at : ℕ → Bool
  client_at i = client_in_place cfg i (get_elem? r.clients i)

  -- question 6 of place i
  abbrev pub place_yes : ℕ → Bool
  place_yes i = unless cfg.n i (server_at i) && unless cfg.c i (client_at i)

  -- it is asked of what stands there
  pub place_read : (i : ℕ) (x : Node) (y : client.State) → i < length r.servers → i < length r.clients
      → (server_yes cfg i (get_or r.servers i x) && client_yes cfg i (get_or r.clients i y)) ≡ place_yes i
  place_read i x y h k =
      ap₂ (λ (u : Option Node) (w : Option client.State). unless cfg.n i (server_in_place cfg i u) && unless cfg.c i (client_in_place cfg i w))
      (sym (at_get_d r.servers i x h)) (sym (at_get_d r.clients i y k))

  -- all places are in order
  pub all-within : (most : ℕ) → cfg.n ≤ most → cfg.c ≤ most → ((i : ℕ) → i < most → place_yes i ≡ true) → parties_within cfg r ≡ true
  all-within most a b h =
      ap₂ ◌&&◌
      (below_all cfg.n server_at (λ i l. is_asked cfg.n i (server_at i) l
      ∙ and_left (unless cfg.n i (server_at i)) (unless cfg.c i (client_at i)) (h i (omega (arith, l, a)))))
      (below_all cfg.c client_at (λ i l. is_asked cfg.c i (client_at i) l
      ∙ and_right (unless cfg.n i (server_at i)) (unless cfg.c i (client_at i)) (h i (omega (arith, l, b)))))

  place-yes : parties_within cfg r ≡ true → (i : ℕ) → place_yes i ≡ true
  place-yes h i =
      ap₂ ◌&&◌
      (asked_yes cfg.n i (server_at i) (below_at cfg.n server_at (and_left (all_below cfg.n server_at) (all_below cfg.c client_at) h) i))
      (asked_yes cfg.c i (client_at i) (below_at cfg.c client_at (and_right (all_below cfg.n server_at) (all_below cfg.c client_at) h) i))

  -- a place is not
  pub place_no : (i : ℕ) → place_yes i ≡ false → parties_within cfg r ≡ false
  place_no i h = go (parties_within cfg r) refl
    where
      go : (b : Bool) → parties_within cfg r ≡ b → parties_within cfg r ≡ false
      go true e = absurd (true≢false (sym (place-yes e i) ∙ h))
      go false e = e

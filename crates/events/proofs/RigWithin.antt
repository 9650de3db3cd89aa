-- Question 6 of what a rig keeps: what it says of one place, and of the rig with another part in its places. Assumes nothing.
use Prim.Native.Nat.{ℕ, ◌≤◌, ◌<◌}
use mathlib.Core.Path.{◌≡◌, refl, sym, ap, ap₂, subst, ◌∙◌}
use mathlib.Core.Bool.{Bool, true, false, ◌&&◌, true≢false}
use mathlib.Core.Option.{Option, none, some}
use mathlib.Core.List.{List}
use native.Mathlib.Omega.{arith}
use native.Mathlib.Decide.{ℕ_discrete, dec_lt}
use borrow.Author.Tests.{le-leb, leb-true}
use lib.Dec.{leb}
use lib.ListN.{length, set, get_elem?}
use Rattle.laws.proofs.Bools.{and_left, and_right}
use Rattle.laws.proofs.Lists.{at_past, at_set, at_set_other}
use Rattle.config.specs.declared.Config.{Config}
use Rattle.events.specs.declared.Part.{Part}
use Rattle.events.specs.declared.Rig.{Rig}
use Rattle.parties.specs.Within.{client_in_place, server_in_place}
use Rattle.events.specs.Questions.{parties_within, rig_within}
use Rattle.events.specs.Calls.{with_part}
use Rattle.laws.specs.Below.{all_below}
use Rattle.laws.proofs.Below.{below_all, below_at}

-- a test of what stands in each of n places
module _ {A : Type 0} (n : ℕ) (xs : List A) (fits : ℕ → Option A → Bool) (all : all_below n (λ i. fits i (get_elem? xs i)) ≡ true) where
  -- every place is taken, where none without one passes
  pub taken : ((i : ℕ) → fits i none ≡ false) → n ≤ length xs
  taken blank = elim (dec_lt (length xs) n) as (λ _. n ≤ length xs) [
    | yes l ↦ absurd (true≢false
        (sym (below_at n (λ i. fits i (get_elem? xs i)) all (length xs) l)
        ∙ ap (fits (length xs)) (at_past xs (length xs) (omega arith))
        ∙ blank (length xs)))
    | no l ↦ omega (arith, l)
  ]

  -- one of them
  pub fits_at : (i : ℕ) (a : A) → i < n → get_elem? xs i ≡ some a → fits i (some a) ≡ true
  fits_at i a l e = ap (fits i) (sym e) ∙ below_at n (λ j. fits j (get_elem? xs j)) all i l

  -- one of them changed
  pub below_set : (i : ℕ) (a : A) → i < length xs → fits i (some a) ≡ true → all_below n (λ j. fits j (get_elem? (set xs i a) j)) ≡ true
  below_set i a l k =
      below_all n (λ j. fits j (get_elem? (set xs i a) j))
      (λ j h. elim (ℕ_discrete j i) as (λ _. fits j (get_elem? (set xs i a) j) ≡ true) [
        | yes e ↦ subst (λ z. fits z (get_elem? (set xs i a) z) ≡ true) (sym e) (ap (fits i) (at_set xs i a l) ∙ k)
        | no ne ↦ ap (fits j) (at_set_other xs i j a ne) ∙ below_at n (λ z. fits z (get_elem? xs z)) all j h
      ])

module _ (cfg : Config) (m : ℕ) (r : Rig) (h : rig_within cfg m r ≡ true) where
  abbrev servers : Bool
  servers = all_below cfg.n (λ i. server_in_place cfg i (get_elem? r.servers i))

  abbrev clients : Bool
  clients = all_below cfg.c (λ i. client_in_place cfg i (get_elem? r.clients i))

  parties : parties_within cfg r ≡ true
  unfolding rig_within
  parties = and_right (leb r.count m) (parties_within cfg r) h

  pub count_most : r.count ≤ m
  unfolding rig_within
  count_most = leb-true r.count m (and_left (leb r.count m) (parties_within cfg r) h)

  pub servers_within : servers ≡ true
  servers_within = and_left servers clients parties

  pub clients_within : clients ≡ true
  clients_within = and_right servers clients parties

  pub servers_taken : cfg.n ≤ length r.servers
  unfolding server_in_place
  servers_taken = taken cfg.n r.servers (server_in_place cfg) servers_within (λ i. refl)

  pub clients_taken : cfg.c ≤ length r.clients
  unfolding client_in_place
  clients_taken = taken cfg.c r.clients (client_in_place cfg) clients_within (λ i. refl)

  -- the rig with another part in its places
  pub part-within : (p : Part) → p.count ≤ m → p.server < cfg.n → p.client < cfg.c
      → server_in_place cfg p.server (some p.pair.node) ≡ true → client_in_place cfg p.client (some p.pair.client) ≡ true
      → rig_within cfg m (with_part r p) ≡ true
  unfolding rig_within
  part-within p few s c node client =
      ap₂ ◌&&◌ (le-leb p.count m few)
      (ap₂ ◌&&◌
      (below_set cfg.n r.servers (server_in_place cfg) servers_within p.server p.pair.node (omega (arith, s, servers_taken)) node)
      (below_set cfg.c r.clients (client_in_place cfg) clients_within p.client p.pair.client (omega (arith, c, clients_taken)) client))

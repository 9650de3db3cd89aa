-- "a party is down on all boards or none": what is asked of two boards' parties is so of what is seen of them. Assumes nothing.
use Prim.Native.Nat.{ℕ, ◌+◌, ◌-◌, ◌<◌}
use mathlib.Core.Path.{◌≡◌, refl, sym, ap, ap₂, ◌∙◌}
use mathlib.Core.Bool.{Bool, true, false, not, ◌&&◌}
use mathlib.Core.Option.{Option, none, some}
use mathlib.Core.List.{List}
use native.Mathlib.Omega.{arith}
use lib.ListN.{length, get_or, get_elem?}
use Rattle.laws.specs.Below.{all_below}
use Rattle.laws.proofs.Below.{below_all, below_at}
use Rattle.laws.proofs.Bools.{and_left, and_right}
use Rattle.laws.proofs.Lists.{at_get_d}
use Rattle.config.specs.declared.Config.{Config}
use Rattle.config.specs.Questions.{within}
use Rattle.config.proofs.Questions.{within_high, within_low, within_true}
use Rattle.client.specs.declared.Phase.{Phase}
use Rattle.client.specs.declared.State as client
use Rattle.client.specs.State as clientView
use Rattle.client.specs.State.{phase_of}
use Rattle.protocol.specs.Boards.{Board}
use Rattle.protocol.specs.Client as protocol
use Rattle.protocol.specs.Client.{fresh_client}
use Rattle.protocol.proofs.Together.{SameUp}
use Rattle.events.specs.declared.Rig as one
use Rattle.events.specs.View.{Lent, client_of, client_seen, parties_of, place, up_of, up_seen}
use Rattle.boards.specs.Questions.{client_up, is_up, same, up_alike}

-- both or neither
pub same_is : (a b : Bool) → same a b ≡ true → a ≡ b
same_is true true h = refl
same_is true false h = sym h
same_is false true h = h
same_is false false h = refl

pub same_yes : (a b : Bool) → a ≡ b → same a b ≡ true
same_yes true b e = sym e
same_yes false b e = ap not (sym e)

-- it is asked of what stands in a place
pub same_read : {A : Type 0} (f : Option A → Bool) (xs ys : List A) (i : ℕ) (a b : A) → i < length xs → i < length ys
    → same (f (some (get_or xs i a))) (f (some (get_or ys i b))) ≡ same (f (get_elem? xs i)) (f (get_elem? ys i))
same_read f xs ys i a b l m = ap₂ (λ x y. same (f x) (f y)) (sym (at_get_d xs i a l)) (sym (at_get_d ys i b m))

-- a client that is up is seen up
phase_up : (cfg : Config) (p : Phase) (board : Board) (received : clientView.Slots) → protocol.is_up (phase_of cfg p board received) ≡ is_up p
unfolding phase_of protocol.is_up is_up
phase_up cfg Phase.Idle board received = refl
phase_up cfg (Phase.Asking true b c) board received = refl
phase_up cfg (Phase.Asking false b c) board received = refl
phase_up cfg (Phase.PreWriting t c) board received = refl
phase_up cfg (Phase.FinalisingWrite t c) board received = refl
phase_up cfg (Phase.FinalisingRead t c s) board received = refl
phase_up cfg Phase.Down board received = refl

seen_up : (cfg : Config) (o : Option client.State) (kept received : List ℕ) → protocol.is_up (client_seen cfg o kept received).phase ≡ client_up o
unfolding client_seen client_up fresh_client protocol.is_up clientView.view
seen_up cfg none kept received = refl
seen_up cfg (some x) kept received = phase_up cfg x.phase _ _

-- what stands in the place of a party that there is
at_place : {A : Type 0} (n i : ℕ) (xs : List A) → i < n → place n (i + 1) xs ≡ get_elem? xs i
unfolding place
at_place n i xs low =
    let e : i + 1 - 1 ≡ i = omega arith in
    rw (within_true 1 n (i + 1) (omega arith) (omega (arith, low))) (ap (get_elem? xs) e)

-- what is the same of each place in use is the same of each party
by_place : {A : Type 0} (n : ℕ) (f : Option A → Bool) (xs ys : List A) → all_below n (λ i. same (f (get_elem? xs i)) (f (get_elem? ys i))) ≡ true
    → (p : ℕ) → f (place n p xs) ≡ f (place n p ys)
unfolding place
by_place n f xs ys h p = told (within 1 n p) refl
  where
    told : (b : Bool) → within 1 n p ≡ b → f (place n p xs) ≡ f (place n p ys)
    told false e = rw e
    told true e =
        rw e
        (same_is (f (get_elem? xs (p - 1))) (f (get_elem? ys (p - 1)))
        (below_at n (λ i. same (f (get_elem? xs i)) (f (get_elem? ys i))) h (p - 1) (omega (arith, within_low 1 n p e, within_high 1 n p e))))

to_place : {A : Type 0} (n : ℕ) (f : Option A → Bool) (xs ys : List A) → ((p : ℕ) → f (place n p xs) ≡ f (place n p ys))
    → all_below n (λ i. same (f (get_elem? xs i)) (f (get_elem? ys i))) ≡ true
to_place n f xs ys h =
    below_all n (λ i. same (f (get_elem? xs i)) (f (get_elem? ys i)))
    (λ i low. same_yes (f (get_elem? xs i)) (f (get_elem? ys i)) (sym (ap f (at_place n i xs low)) ∙ h (i + 1) ∙ ap f (at_place n i ys low)))

module _ (cfg : Config) (x y : one.Rig) (l k : Lent) where
  servers_same : Bool
  servers_same = all_below cfg.n (λ i. same (up_seen (get_elem? x.servers i)) (up_seen (get_elem? y.servers i)))

  clients_same : Bool
  clients_same = all_below cfg.c (λ i. same (client_up (get_elem? x.clients i)) (client_up (get_elem? y.clients i)))

  -- a client is up as its state says
  up_is : (z : one.Rig) (m : Lent) (c : ℕ) → protocol.is_up ((parties_of cfg z m).clients c).phase ≡ client_up (place cfg.c c z.clients)
  unfolding parties_of client_of
  up_is z m c = seen_up cfg (place cfg.c c z.clients) _ _

  pub alike_up : up_alike cfg x y ≡ true → SameUp (parties_of cfg x l) (parties_of cfg y k)
  unfolding up_alike servers_same clients_same parties_of up_of
  alike_up h =
      record {
        servers = by_place cfg.n up_seen x.servers y.servers (and_left servers_same clients_same h);
        clients = λ c. up_is x l c ∙ by_place cfg.c client_up x.clients y.clients (and_right servers_same clients_same h) c ∙ sym (up_is y k c);
      }

  pub up-alike : SameUp (parties_of cfg x l) (parties_of cfg y k) → up_alike cfg x y ≡ true
  unfolding up_alike parties_of up_of
  up-alike h =
      ap₂ ◌&&◌ (to_place cfg.n up_seen x.servers y.servers h.servers)
      (to_place cfg.c client_up x.clients y.clients (λ c. sym (up_is x l c) ∙ h.clients c ∙ up_is y k c))

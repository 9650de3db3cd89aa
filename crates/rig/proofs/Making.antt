-- A fresh rig: what its questions show, its parties together, and what is seen of it. Assumes nothing.
use Rattle.std.proofs.Common.{Ok, Err}
use Prim.Native.Nat.{ℕ, ◌+◌, ◌-◌, ◌*◌, ◌≤◌, ◌<◌}
use mathlib.Core.Path.{◌≡◌, refl, sym, ap, ap₂, subst, fun_ext, ◌∙◌}
use mathlib.Core.Bool.{Bool, true, false, cond, ◌&&◌}
use mathlib.Core.Option.{Option, some}
use mathlib.Core.List.{List, [], ◌++◌}
use native.Mathlib.Omega.{arith}
use native.Mathlib.Decide.{ℕ_discrete}
use lib.Dec.{eqb}
use borrow.Author.Tests.{eq-eqb, eqb-true, le-leb}
use lib.ListN.{length, take, drop, set, get_elem?}
use Rattle.laws.specs.Parts.{over, part}
use Rattle.laws.proofs.Bools.{and_left, and_right}
use Rattle.laws.proofs.Lists.{at_set, at_set_other}
use Rattle.laws.proofs.Parts.{lent_length, over_lent, part_other, part_own}
use Rattle.config.specs.declared.Config.{Config}
use Rattle.config.specs.Refusal.{refusal_number}
use Rattle.config.specs.Config.{Valid, board_length, rig_questions, store_length}
use Rattle.config.specs.declared.Refusal.{Refusal}
use Rattle.config.proofs.Refusals.{refusal_some}
use Rattle.config.specs.Questions.{first_no, within}
use Rattle.config.proofs.Questions.{none_first, within_high, within_low, within_true}
use Rattle.server.specs.Calls as server
use Rattle.client.specs.declared.State as client
use Rattle.client.specs.State as clientView
use Rattle.client.specs.State.{phase_of}
use Rattle.flight.specs.Flight.{records}
use Rattle.protocol.specs.Boards.{encode, fresh_parties, fresh_rig, starting_board}
use Rattle.protocol.specs.Client.{fresh_client}
use Rattle.protocol.specs.Parties as parties
use Rattle.protocol.specs.Rig as rig
use Rattle.protocol.specs.Server.{fresh_server, no_server}
use Rattle.parties.specs.declared.Node.{Node}
use Rattle.parties.specs.declared.fresh.NewNode.{NewNode}
use Rattle.parties.specs.Fresh.{FreshServerPost, fresh_node, fresh_state, server_no}
use Rattle.events.specs.declared.Rig.{Rig}
use Rattle.events.specs.View.{Lent, client_of, client_seen, messages_of, parties_of, place, server_of, server_seen, up_of, up_seen, view}
use Rattle.parties.specs.Within.{client_in_place, server_in_place}
use Rattle.parties.proofs.Making.{client_within, node_within}
use Rattle.events.specs.Questions.{rig_within, sized, sized_by}
use Rattle.rig.specs.Calls.{MakePost, least_rig, make_no, make_questions}
use Rattle.rig.specs.inner.Fresh.{FreshClients, FreshServer, FreshServers, FreshStore, RigPost, RigPre}
use Rattle.laws.proofs.Below.{below_all}
use Rattle.events.proofs.Asked.{is_valid, six}
use Rattle.events.proofs.Lengths.{stores_are}

-- ---- no question is answered no

-- a making that got no number
module _ (cfg : Config) (m : ℕ) (start : List ℕ) (l : Lent) (h : first_no (make_questions cfg m start l) ≡ 0) where
  abbrev start_is : Bool
  start_is = eqb (length start) (board_length cfg)

  pub make_five : first_no (rig_questions cfg m) ≡ 0
  unfolding make_questions
  make_five = none_first (rig_questions cfg m) _ h

  pub make_valid : Valid cfg
  unfolding make_questions
  make_valid = is_valid cfg m (start_is && sized cfg m l) [] h

  made_shaped : (start_is && sized cfg m l) ≡ true
  unfolding make_questions
  made_shaped = (six cfg m (start_is && sized cfg m l) [] h).0

  pub make_board : length start ≡ board_length cfg
  make_board = eqb-true (length start) (board_length cfg) (and_left start_is (sized cfg m l) made_shaped)

  pub make_sized : sized cfg m l ≡ true
  make_sized = and_right start_is (sized cfg m l) made_shaped

-- ---- one party

-- server 1 of a board of one byte is made where it can be, and is given where none can
pub least_node : {cfg : Config} → board_length cfg ≡ 1 → {start before after : List ℕ} {r : NewNode} → FreshServerPost cfg 1 start before after r
    → r.node ≡ fresh_node 1 1
least_node {cfg} one {start} {before} {after} {r} post = elim (ℕ_discrete (server_no cfg 1 start before) 0) as (λ _. r.node ≡ fresh_node 1 1) [
  | yes z ↦ post.made z ∙ ap (λ n. fresh_node n 1) one
  | no n ↦ (post.refused n).0
]

-- ---- one place more

places_more : {A : Type 0} (P : ℕ → Option A → Type 0) (i : ℕ) (xs : List A) (x : A) → i < length xs → ((j : ℕ) → j < i → P j (get_elem? xs j)) → P i (some x)
    → (j : ℕ) → j < i + 1 → P j (get_elem? (set xs i x) j)
places_more P i xs x room below here j h = elim (ℕ_discrete j i) as (λ _. P j (get_elem? (set xs i x) j)) [
  | yes e ↦ subst (λ k. P k (get_elem? (set xs i x) k)) (sym e) (subst (P i) (sym (at_set xs i x room)) here)
  | no n ↦ subst (P j) (sym (at_set_other xs i j x n)) (below j (omega (arith, h, n)))
]

pub clients_more : (i : ℕ) (states : List client.State) (x : client.State) → i < length states → FreshClients i states → x ≡ fresh_state (i + 1)
    → FreshClients (i + 1) (set states i x)
clients_more i states x room below here = places_more (λ j o. o ≡ some (fresh_state (j + 1))) i states x room below (ap some here)

-- a server, with its part of the stores, as the code lends it and puts it back
module _ (cfg : Config) (start : List ℕ) (i : ℕ) (nodes : List Node) (x : Node) (stores after : List ℕ) (fits : i * store_length cfg + store_length cfg ≤ length stores) where
  abbrev wide : ℕ
  wide = store_length cfg

  abbrev at : ℕ
  at = i * wide

  pub servers_more : {r : NewNode} → FreshServerPost cfg (i + 1) start (take (at + wide - at) (drop at stores)) after r
      → server_no cfg (i + 1) start (take (at + wide - at) (drop at stores)) ≡ 0 → x ≡ r.node → i < length nodes → FreshServers cfg start i nodes stores
      → FreshServers cfg start (i + 1) (set nodes i x) (take at stores ++ (after ++ drop (at + wide - at) (drop at stores)))
  servers_more post none is room below =
      let long : length after ≡ wide = post.long ∙ lent_length stores at wide fits in
      let stores' = over at wide after stores in
      subst (FreshServers cfg start (i + 1) (set nodes i x)) (sym (over_lent at wide after stores))
      (places_more (λ j o. FreshServer cfg start j o (part wide j stores')) i nodes x room
      (λ j h. subst (FreshServer cfg start j (get_elem? nodes j)) (sym (part_other wide i after stores long fits j (λ e. omega (arith, e, h)))) (below j h))
      (subst (FreshServer cfg start i (some x)) (sym (part_own wide i after stores long fits)) (record { is = ap some (is ∙ post.made none); seen = post.seen none })))

-- ---- the rig

module _ (cfg : Config) (m : ℕ) (start : List ℕ) (l : Lent) (got : ℕ) (asked : got ≡ make_no cfg m start l) where
  -- a making that is refused
  pub make_refused : (why : Refusal) → refusal_number why ≡ got → (r : Rig) → r ≡ least_rig
      → MakePost cfg m start l (record { verdict = Err why; rig = r }) l
  make_refused why e r least =
      let some = (refusal_some why (e ∙ asked)).1 in
      record {
        number = e ∙ asked;
        seen = λ z. absurd (some z);
        within = λ z. absurd (some z);
        lengths = refl;
        held = λ _. refl;
        refused = λ _. least;
      }

  -- one that is not
  module _ (none_no : got ≡ 0) where
    abbrev passed : make_no cfg m start l ≡ 0
    passed = sym asked ∙ none_no

    pub making : RigPre cfg start l.stores
    making =
        record {
          valid = make_valid cfg m start l passed;
          start_length = make_board cfg m start l passed;
          stores_length =
              stores_are cfg m (length l.messages) (length l.stores) (length l.boards) (length l.elements) (make_sized cfg m start l passed);
        }

    module _ (stores' : List ℕ) (r : Rig) (post : RigPost cfg start l.stores stores' r) where
      abbrev l' : Lent
      l' = record { messages = l.messages; stores = stores'; boards = l.boards; elements = l.elements }

      -- the place of party p
      inside : (p n : ℕ) → within 1 n p ≡ true → (p - 1 < n) × (p - 1 + 1 ≡ p)
      inside p n h = (omega (arith, within_low 1 n p h, within_high 1 n p h), omega (arith, within_low 1 n p h))

      server-at : (s : ℕ) (b : Bool) → within 1 cfg.n s ≡ b
          → (server_of cfg r l' s ≡ cond b (fresh_server (encode cfg (starting_board cfg start) s)) no_server) × (up_of cfg r s ≡ true)
      unfolding server_of up_of place server_seen up_seen
      server-at s false h = rw h (refl, refl)
      server-at s true h =
          let i = inside s cfg.n h in
          let fresh = post.servers.fresh (s - 1) i.0 in
          let stood : get_elem? r.servers (s - 1) ≡ some (fresh_node (board_length cfg) s) =
          fresh.is ∙ ap (λ p. some (fresh_node (board_length cfg) p)) i.1 in
          rw (h, stood)
          (subst (λ p. FreshStore cfg p start (part (store_length cfg) (s - 1) stores')) i.1 fresh.seen, refl)

      client-at : (c : ℕ) (b : Bool) → within 1 cfg.c c ≡ b → client_of cfg r l' c ≡ fresh_client
      unfolding client_of place client_seen clientView.view phase_of fresh_client
      client-at c false h = rw h
      client-at c true h = rw (h, post.clients (c - 1) (inside c cfg.c h).0)

      parties_seen : parties_of cfg r l' ≡ fresh_parties cfg (starting_board cfg start)
      unfolding parties_of parties.fresh_parties
      parties_seen =
          let servers = fun_ext (λ s. (server-at s (within 1 cfg.n s) refl).0) in
          let up = fun_ext (λ s. (server-at s (within 1 cfg.n s) refl).1) in
          let clients = fun_ext (λ c. client-at c (within 1 cfg.c c) refl) in
          λ j. record { servers = servers j; up = up j; clients = clients j }

      sees : view cfg r l' ≡ fresh_rig cfg (starting_board cfg start)
      unfolding view rig.fresh_rig records
      sees =
          ap₂ (λ p n. record { parties = p; in_flight = messages_of cfg (records n l.messages) }) parties_seen post.nothing

      server-within : (i : ℕ) → i < cfg.n → server_in_place cfg i (get_elem? r.servers i) ≡ true
      unfolding server_in_place server.fresh_state
      server-within i h =
          let fresh = post.servers.fresh i h in
          ap (server_in_place cfg i) fresh.is
          ∙ ap₂ ◌&&◌ (eq-eqb (i + 1) (i + 1) refl)
          (node_within cfg (i + 1) _ _ (omega arith) (within_true 1 cfg.n (i + 1) (omega arith) (omega (arith, h))) fresh.seen)

      client_stands : (i : ℕ) → i < cfg.c → client_in_place cfg i (get_elem? r.clients i) ≡ true
      unfolding client_in_place
      client_stands i h =
          ap (client_in_place cfg i) (post.clients i h)
          ∙ ap₂ ◌&&◌ (eq-eqb (i + 1) (i + 1) refl)
          (client_within cfg (i + 1) making.valid (within_true 1 cfg.c (i + 1) (omega arith) (omega (arith, h))))

      stands : rig_within cfg m r ≡ true
      unfolding rig_within
      stands =
          ap₂ ◌&&◌ (le-leb r.count m (omega (arith, post.nothing)))
          (ap₂ ◌&&◌
          (below_all cfg.n (λ i. server_in_place cfg i (get_elem? r.servers i)) server-within)
          (below_all cfg.c (λ i. client_in_place cfg i (get_elem? r.clients i)) client_stands))

      pub make_done : MakePost cfg m start l (record { verdict = (Ok tt); rig = r }) l'
      make_done =
          record {
            number = sym passed;
            seen = λ _. sees;
            within = λ _. stands;
            lengths = ap (λ n. sized_by cfg m (length l.messages) n (length l.boards) (length l.elements)) post.servers.long;
            held = λ n. absurd (n passed);
            refused = λ n. absurd (n passed);
          }

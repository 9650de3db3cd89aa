-- An event by the part that it names, where questions 1 to 6 and 21 are answered yes: what they show of the part, of its pair and of the lent buffers.
-- Assumes nothing.
use Prim.Native.Nat.{ℕ, ◌+◌, ◌*◌, ◌≤◌, ◌<◌}
use mathlib.Core.Path.{◌≡◌, sym, ap, ap₂, subst, ◌∙◌}
use mathlib.Core.Bool.{true, ◌&&◌}
use mathlib.Core.Option.{some}
use mathlib.Core.List.{List}
use native.Mathlib.Omega.{arith}
use borrow.Author.Tests.{eqb-true}
use lib.Dec.{eqb}
use lib.ListN.{length}
use Rattle.laws.proofs.Bools.{and_left, and_right}
use Rattle.laws.proofs.Parts.{part_length}
use Rattle.config.specs.declared.Config.{Config}
use Rattle.config.specs.Config.{Valid, board_length}
use Rattle.config.specs.Number.{client_number, server_number}
use Rattle.config.specs.Questions.{within}
use Rattle.config.specs.Config.{store_length}
use Rattle.server.specs.Within.{state_within as server_state_within}
use Rattle.client.specs.State.{state_within}
use Rattle.protocol.proofs.Cut.{length_cut}
use Rattle.parties.specs.Acts.{among, pair_within}
use Rattle.events.specs.declared.Call.{Call}
use Rattle.events.specs.declared.Part.{Part}
use Rattle.events.specs.declared.Rig.{Rig}
use Rattle.events.specs.View.{Lent, parties_of}
use Rattle.parties.specs.Within.{client_in_place, server_in_place}
use Rattle.events.specs.Questions.{place_for, rig_within, sized}
use Rattle.events.specs.Calls.{called}
use Rattle.events.specs.inner.Turn.{Ready}
use Rattle.events.proofs.RigWithin.{clients_within, count_most, fits_at, servers_within}
use Rattle.events.proofs.Pairs.{pair_among, parts_of}
use Rattle.events.proofs.Six.{six_board, six_most, six_read, six_sized, six_valid, six_within}
use Rattle.events.proofs.Lengths.{boards_are, elements_are, messages_are, stores_are}
use Rattle.events.proofs.named.Laws.{by_party, names_client, names_server, place_back}

module _ {cfg : Config} {m : ℕ} {r : Rig} {p : Part} {a : Call} {board read : List ℕ} {l : Lent} (ready : Ready cfg m r p a board read l) where
  pub is_valid : Valid cfg
  is_valid = six_valid cfg m r (called a board) read l ready.yes

  pub is_most : m ≤ 512
  is_most = six_most cfg m r (called a board) read l ready.yes

  pub is_within : rig_within cfg m r ≡ true
  is_within = six_within cfg m r (called a board) read l ready.yes

  pub board_long : length board ≡ board_length cfg
  board_long = sym (length_cut a.length board) ∙ six_board cfg m r (called a board) read l ready.yes

  pub read_long : length read ≡ board_length cfg
  read_long = six_read cfg m r (called a board) read l ready.yes

  sizes : sized cfg m l ≡ true
  sizes = six_sized cfg m r (called a board) read l ready.yes

  pub messages_long : length l.messages ≡ 80 * m
  messages_long = messages_are cfg m (length l.messages) (length l.stores) (length l.boards) (length l.elements) sizes

  pub stores_long : length l.stores ≡ cfg.n * store_length cfg
  stores_long = stores_are cfg m (length l.messages) (length l.stores) (length l.boards) (length l.elements) sizes

  pub boards_long : length l.boards ≡ cfg.c * board_length cfg
  boards_long = boards_are cfg m (length l.messages) (length l.stores) (length l.boards) (length l.elements) sizes

  pub elements_long : length l.elements ≡ cfg.c * (cfg.n * cfg.e)
  elements_long = elements_are cfg m (length l.messages) (length l.stores) (length l.boards) (length l.elements) sizes

  pub server_below : p.server < cfg.n
  server_below = names_server is_valid ready.names

  pub client_below : p.client < cfg.c
  client_below = names_client is_valid ready.names

  pub count_below : p.count ≤ m
  count_below = subst (λ i. i ≤ m) ready.part.count (count_most cfg m r is_within)

  -- the records in flight stand in the messages
  pub count_fits : 80 * p.count ≤ length l.messages
  count_fits = omega (arith, count_below, messages_long)

  -- its parts have their lengths
  pub store_long : length (parts_of cfg p l).store ≡ store_length cfg
  store_long = part_length (store_length cfg) p.server cfg.n l.stores server_below stores_long

  pub kept_long : length (parts_of cfg p l).kept ≡ board_length cfg
  kept_long = part_length (board_length cfg) p.client cfg.c l.boards client_below boards_long

  pub received_long : length (parts_of cfg p l).elements ≡ cfg.n * cfg.e
  received_long = part_length (cfg.n * cfg.e) p.client cfg.c l.elements client_below elements_long

  -- question 6 of its server
  server-yes : server_in_place cfg p.server (some p.pair.node) ≡ true
  server-yes =
      fits_at cfg.n r.servers (server_in_place cfg) (servers_within cfg m r is_within) p.server p.pair.node server_below ready.part.node

  pub server_me : server_number p.pair.node.state.me ≡ p.server + 1
  unfolding server_in_place
  server_me =
      eqb-true (server_number p.pair.node.state.me) (p.server + 1)
      (and_left (eqb (server_number p.pair.node.state.me) (p.server + 1)) (server_state_within cfg p.pair.node.state) server-yes)

  pub server_kept : server_state_within cfg p.pair.node.state ≡ true
  unfolding server_in_place
  server_kept = and_right (eqb (server_number p.pair.node.state.me) (p.server + 1)) (server_state_within cfg p.pair.node.state) server-yes

  -- and of its client
  client-yes : client_in_place cfg p.client (some p.pair.client) ≡ true
  client-yes =
      fits_at cfg.c r.clients (client_in_place cfg) (clients_within cfg m r is_within) p.client p.pair.client client_below ready.part.client

  pub client_me : client_number p.pair.client.me ≡ p.client + 1
  unfolding client_in_place
  client_me =
      eqb-true (client_number p.pair.client.me) (p.client + 1)
      (and_left (eqb (client_number p.pair.client.me) (p.client + 1)) (state_within cfg p.pair.client) client-yes)

  pub client_within : state_within cfg p.pair.client ≡ true
  unfolding client_in_place
  client_within = and_right (eqb (client_number p.pair.client.me) (p.client + 1)) (state_within cfg p.pair.client) client-yes

  pub pair-within : pair_within cfg p.pair ≡ true
  pair-within = ap₂ ◌&&◌ server_kept client_within

  -- the party that an event names, but for event 3, is the part's, if there is one
  pub party_server : (a.code ≡ 3 → ⊥) → within 1 cfg.n a.party ≡ true → p.server + 1 ≡ a.party
  party_server ne =
      place_back cfg.n a.party p.server
      (ready.names.server ∙ ap (place_for cfg.n) (sym (by_party p.count a.code a.party a.position 2 l.messages ne)))

  pub party_client : (a.code ≡ 3 → ⊥) → within 1 cfg.c a.party ≡ true → p.client + 1 ≡ a.party
  party_client ne =
      place_back cfg.c a.party p.client
      (ready.names.client ∙ ap (place_for cfg.c) (sym (by_party p.count a.code a.party a.position 1 l.messages ne)))

  -- its pair is among the rig's parties
  pub own-among : among cfg (parties_of cfg r l) p.pair (parts_of cfg p l) ≡ parties_of cfg r l
  own-among = pair_among cfg r l p server_below client_below ready.part server_me client_me

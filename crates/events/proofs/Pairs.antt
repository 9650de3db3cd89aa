-- The pair of a part among the parties of its rig: it is there as it stands, and the rig with another in its places, and with other parts in
-- the lent buffers, has that one among the same parties. Assumes nothing.
use Prim.Native.Nat.{ℕ, ◌+◌, ◌-◌, ◌*◌, ◌≤◌, ◌<◌}
use mathlib.Core.Path.{◌≡◌, refl, sym, ap, ap₂, ◌∙◌}
use mathlib.Core.List.{List}
use native.Mathlib.Omega.{arith}
use lib.ListN.{length}
use Rattle.laws.specs.Parts.{over, part}
use Rattle.laws.proofs.Lists.{set_same}
use Rattle.laws.proofs.Parts.{over_same, part_other, part_own}
use Rattle.config.specs.declared.Config.{Config}
use Rattle.config.specs.Config.{board_length}
use Rattle.config.specs.Number.{client_number, server_number}
use Rattle.config.specs.Config.{store_length}
use Rattle.server.specs.View as serverView
use Rattle.client.specs.State as clientView
use Rattle.protocol.specs.Boards.{BoardParties}
use Rattle.protocol.specs.Number.{upd}
use Rattle.protocol.specs.Parties.{with_pair}
use Rattle.protocol.proofs.Pairs.{pair_own}
use Rattle.parties.specs.declared.Pair.{Pair}
use Rattle.parties.specs.Acts.{Parts, among, parts}
use Rattle.events.specs.declared.Part.{Part}
use Rattle.events.specs.declared.Rig.{Rig}
use Rattle.events.specs.View.{Lent, client_of, client_seen, parties_of, server_of, server_seen, up_of, up_seen}
use Rattle.events.specs.Calls.{PartOf, with_part}
use Rattle.events.proofs.Seen.{place_at, seen_upd}

-- the parts of the lent buffers that are its pair's
abbrev pub parts_of : Config → Part → Lent → Parts
parts_of cfg p l =
    parts (part (store_length cfg) p.server l.stores) (part (board_length cfg) p.client l.boards)
    (part (cfg.n * cfg.e) p.client l.elements)

-- the buffers with other parts in their places
pub record Back (cfg : Config) (p : Part) (l : Lent) (ps : Parts) (l' : Lent) : Type 0 where
  pub stores : l'.stores ≡ over (p.server * store_length cfg) (store_length cfg) ps.store l.stores
  pub boards : l'.boards ≡ over (p.client * board_length cfg) (board_length cfg) ps.kept l.boards
  pub elements : l'.elements ≡ over (p.client * (cfg.n * cfg.e)) (cfg.n * cfg.e) ps.elements l.elements

-- nothing is put back
pub back_same : (cfg : Config) (p : Part) (l : Lent) (messages : List ℕ)
    → Back cfg p l (parts_of cfg p l) (record { messages = messages; stores = l.stores; boards = l.boards; elements = l.elements })
back_same cfg p l messages =
    record {
      stores = sym (over_same (p.server * store_length cfg) (store_length cfg) l.stores);
      boards = sym (over_same (p.client * board_length cfg) (board_length cfg) l.boards);
      elements = sym (over_same (p.client * (cfg.n * cfg.e)) (cfg.n * cfg.e) l.elements);
    }

back : (i : ℕ) → i + 1 - 1 ≡ i
back i = omega arith

-- the part with another pair and another count
abbrev pub another : Part → Pair → ℕ → Part
another p y n = record { server = p.server; client = p.client; pair = y; count = n }

-- the part as it was, put back
pub put_same : {r : Rig} {p : Part} → PartOf r p → with_part r p ≡ r
put_same {r} {p} o = λ i. record {
  servers = set_same r.servers p.server p.pair.node o.node i;
  clients = set_same r.clients p.client p.pair.client o.client i;
  count = sym o.count i;
}

module _ (cfg : Config) (r : Rig) (l : Lent) (p : Part) (server : p.server < cfg.n) (client : p.client < cfg.c) where
  abbrev q : BoardParties
  q = parties_of cfg r l

  abbrev s : ℕ
  s = p.server + 1

  abbrev c : ℕ
  c = p.client + 1

  -- its server and its client stand in the rig
  module _ (o : PartOf r p) where
    pub server-at : (parties_of cfg r l).servers s ≡ serverView.view cfg p.pair.node.state (parts_of cfg p l).store
    unfolding parties_of server_of server_seen
    server-at =
        ap₂ (λ x i. server_seen cfg x (part (store_length cfg) i l.stores)) (place_at cfg.n p.server r.servers server ∙ o.node) (back p.server)

    pub up_at : (parties_of cfg r l).up s ≡ p.pair.node.up
    unfolding parties_of up_of up_seen
    up_at = ap up_seen (place_at cfg.n p.server r.servers server ∙ o.node)

    pub client-at : (parties_of cfg r l).clients c ≡ clientView.view cfg p.pair.client (parts_of cfg p l).kept (parts_of cfg p l).elements
    unfolding parties_of client_of client_seen
    client-at =
        ap₂ (λ x i. client_seen cfg x (part (board_length cfg) i l.boards) (part (cfg.n * cfg.e) i l.elements))
        (place_at cfg.c p.client r.clients client ∙ o.client) (back p.client)

    -- its pair is among the rig's parties
    pub pair_among : server_number p.pair.node.state.me ≡ s → client_number p.pair.client.me ≡ c
        → among cfg (parties_of cfg r l) p.pair (parts_of cfg p l) ≡ parties_of cfg r l
    pair_among es ec =
        (λ i. with_pair q (es i) (sym server-at i) (sym up_at i) (ec i) (sym client-at i)) ∙ pair_own q s c

  -- another pair with other parts, put in the places
  module _ (y : Pair) (ps : Parts) (l' : Lent) (put : Back cfg p l ps l')
      (servers-room : cfg.n ≤ length r.servers) (clients-room : cfg.c ≤ length r.clients)
      (store_long : length ps.store ≡ store_length cfg) (kept_long : length ps.kept ≡ board_length cfg) (elements_long : length ps.elements ≡ cfg.n * cfg.e)
      (store_room : p.server * store_length cfg + store_length cfg ≤ length l.stores)
      (kept_room : p.client * board_length cfg + board_length cfg ≤ length l.boards)
      (elements_room : p.client * (cfg.n * cfg.e) + cfg.n * cfg.e ≤ length l.elements)
    where
      abbrev stores : Lent → ℕ → List ℕ
      stores z i = part (store_length cfg) i z.stores

      abbrev client_parts : Lent → ℕ → List ℕ × List ℕ
      client_parts z i = (part (board_length cfg) i z.boards, part (cfg.n * cfg.e) i z.elements)

      own_store : stores l' p.server ≡ ps.store
      own_store =
          ap (part (store_length cfg) p.server) put.stores ∙ part_own (store_length cfg) p.server ps.store l.stores store_long store_room

      own_kept : part (board_length cfg) p.client l'.boards ≡ ps.kept
      own_kept =
          ap (part (board_length cfg) p.client) put.boards ∙ part_own (board_length cfg) p.client ps.kept l.boards kept_long kept_room

      own_elements : part (cfg.n * cfg.e) p.client l'.elements ≡ ps.elements
      own_elements =
          ap (part (cfg.n * cfg.e) p.client) put.elements
          ∙ part_own (cfg.n * cfg.e) p.client ps.elements l.elements elements_long elements_room

      other_store : (i : ℕ) → (i ≡ p.server → ⊥) → stores l' i ≡ stores l i
      other_store i ne =
          ap (part (store_length cfg) i) put.stores ∙ part_other (store_length cfg) p.server ps.store l.stores store_long store_room i ne

      other_client : (i : ℕ) → (i ≡ p.client → ⊥) → client_parts l' i ≡ client_parts l i
      other_client i ne =
          ap₂ (λ (a b : List ℕ). (a, b))
          (ap (part (board_length cfg) i) put.boards ∙ part_other (board_length cfg) p.client ps.kept l.boards kept_long kept_room i ne)
          (ap (part (cfg.n * cfg.e) i) put.elements
          ∙ part_other (cfg.n * cfg.e) p.client ps.elements l.elements elements_long elements_room i ne)

      module _ (n : ℕ) where
        abbrev r' : Rig
        r' = with_part r (another p y n)

        servers_seen : server_of cfg r' l' ≡ upd (server_of cfg r l) s (serverView.view cfg y.node.state ps.store)
        unfolding server_of server_seen
        servers_seen =
            seen_upd (server_seen cfg) (λ a b. refl) cfg.n p.server r.servers y.node (stores l) (stores l') server servers-room other_store
            ∙ ap (λ b. upd (server_of cfg r l) s (serverView.view cfg y.node.state b)) own_store

        ups_seen : up_of cfg r' ≡ upd (up_of cfg r) s y.node.up
        unfolding up_of up_seen
        ups_seen =
            seen_upd (λ o (i : ℕ). up_seen o) (λ a b. refl) cfg.n p.server r.servers y.node (λ i. i) (λ i. i) server servers-room (λ i ne. refl)

        clients_seen : client_of cfg r' l' ≡ upd (client_of cfg r l) c (clientView.view cfg y.client ps.kept ps.elements)
        unfolding client_of client_seen
        clients_seen =
            seen_upd (λ o (x : List ℕ × List ℕ). client_seen cfg o x.0 x.1) (λ a b. refl) cfg.c p.client r.clients y.client
            (client_parts l) (client_parts l') client clients-room other_client
            ∙ ap₂ (λ (a b : List ℕ). upd (client_of cfg r l) c (clientView.view cfg y.client a b)) own_kept own_elements

        pub put_among : server_number y.node.state.me ≡ s → client_number y.client.me ≡ c
            → parties_of cfg (with_part r (another p y n)) l' ≡ among cfg (parties_of cfg r l) y ps
        unfolding parties_of with_pair
        put_among es ec =
            (λ i. record { servers = servers_seen i; up = ups_seen i; clients = clients_seen i })
            ∙ ap₂ (λ a b. with_pair q a (serverView.view cfg y.node.state ps.store) y.node.up b (clientView.view cfg y.client ps.kept ps.elements))
            (sym es) (sym ec)

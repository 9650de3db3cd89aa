-- Parties of which one server and one client are given: an event that names no other changes no other.
use Prim.Native.Nat.{ℕ}
use mathlib.Core.Path.{◌≡◌, ◌∙◌, ap}
use mathlib.Core.Bool.{Bool, true, false}
use mathlib.Core.Option.{Option}
use mathlib.Core.List.{List}
use Rattle.config.specs.declared.Config.{Config}
use Rattle.tag.specs.declared.Tag.{Tag}
use Rattle.record.specs.Kinds.{is_for_server}
use Rattle.record.specs.Message.{Message}
use Rattle.protocol.specs.Number.{upd, to_list}
use Rattle.protocol.specs.Server.{Server, Served, server_step}
use Rattle.protocol.specs.Client.{Client, Moved, down, begin_client, client_step}
use Rattle.protocol.specs.Board.{nothing_ended}
use Rattle.protocol.specs.Parties.{Parties, with_server, with_client, with_pair, quiet, server_acts, client_acts, answer_of, begin, deliver, with_up, crash_client}
use Rattle.protocol.proofs.Basics.{upd_same, upd_own, upd_twice}

module _ {Value Element : Type 0} (p : Parties Value Element) (s : ℕ) (v : Server Element) (up : Bool) (c : ℕ) (x : Client Value Element) where
  abbrev now : Parties Value Element
  now = with_pair p s v up c x

  -- what is given is there
  pub pair_server : (with_pair p s v up c x).servers s ≡ v
  unfolding with_pair
  pair_server = upd_same p.servers s v

  pub pair_up : (with_pair p s v up c x).up s ≡ up
  unfolding with_pair
  pair_up = upd_same p.up s up

  pub pair_client : (with_pair p s v up c x).clients c ≡ x
  unfolding with_pair
  pair_client = upd_same p.clients c x

  -- what is given last stays
  pub pair_twice : (v' : Server Element) (up' : Bool) (x' : Client Value Element) → with_pair (with_pair p s v up c x) s v' up' c x' ≡ with_pair p s v' up' c x'
  unfolding with_pair
  pair_twice v' up' x' = λ i. record {
    servers = upd_twice p.servers s v v' i;
    up = upd_twice p.up s up up' i;
    clients = upd_twice p.clients c x x' i;
  }

  -- the server changes
  pub server_pair : (v' : Server Element) → with_server (with_pair p s v up c x) s v' ≡ with_pair p s v' up c x
  unfolding with_server with_pair
  server_pair v' = λ i. record { servers = upd_twice p.servers s v v' i; up = upd p.up s up; clients = upd p.clients c x }

  -- the client changes
  pub client_pair : (x' : Client Value Element) → with_client (with_pair p s v up c x) c x' ≡ with_pair p s v up c x'
  unfolding with_client with_pair
  client_pair x' = λ i. record { servers = upd p.servers s v; up = upd p.up s up; clients = upd_twice p.clients c x x' i }

  -- the client makes a move
  pub client-acts : (o : Moved Value Element) → client_acts (with_pair p s v up c x) c o
      ≡ record { parties = with_pair p s v up c o.client; sends = o.sends; answer = answer_of c o.ended }
  unfolding client_acts
  client-acts o = λ i. record { parties = client_pair o.client i; sends = o.sends; answer = answer_of c o.ended }

  -- the server does its step
  pub server-acts : (o : Served Element) → server_acts (with_pair p s v up c x) s o
      ≡ record { parties = with_pair p s o.server up c x; sends = to_list o.answer; answer = nothing_ended }
  unfolding server_acts
  server-acts o = λ i. record { parties = server_pair o.server i; sends = to_list o.answer; answer = nothing_ended }

  -- events 1 and 2
  pub begin_pair : (cfg : Config) (board : Option Value) → begin cfg (with_pair p s v up c x) c board
      ≡ record { parties = with_pair p s v up c (begin_client cfg c x board).client; sends = (begin_client cfg c x board).sends; answer = nothing_ended }
  unfolding begin answer_of begin_client
  begin_pair cfg board =
      ap (λ (y : Client Value Element). client_acts now c (begin_client cfg c y board)) pair_client ∙ client-acts (begin_client cfg c x board)

  -- events 6 and 8, and 7
  pub up_pair : (now-up : Bool) → quiet (with_up (with_pair p s v up c x) s now-up) ≡ quiet (with_pair p s v now-up c x)
  unfolding with_pair
  up_pair now-up =
      ap quiet (λ i. record { servers = upd p.servers s v; up = upd_twice p.up s up now-up i; clients = upd p.clients c x })

  pub crash_client_pair : crash_client (with_pair p s v up c x) c ≡ quiet (with_pair p s v up c (record { operation = x.operation; phase = down }))
  unfolding crash_client
  crash_client_pair =
      ap (λ (y : Client Value Element). quiet (with_client now c (record { operation = y.operation; phase = down }))) pair_client
      ∙ ap quiet (client_pair (record { operation = x.operation; phase = down }))

-- parties are given what they have
pub pair_own : {Value Element : Type 0} (p : Parties Value Element) (s c : ℕ) → with_pair p s (p.servers s) (p.up s) c (p.clients c) ≡ p
unfolding with_pair
pair_own p s c = λ i. record { servers = upd_own p.servers s i; up = upd_own p.up s i; clients = upd_own p.clients c i }

-- event 3: the message is for the server, which is up, for the server, which is not, or for the client
module _ {Value Element : Type 0} (key : Tag → ℕ) (encode : Value → ℕ → Element) (decode : List (ℕ × Element) → Value) (cfg : Config)
    (p : Parties Value Element) (v : Server Element) (x : Client Value Element) (m : Message Element)
  where
    pub deliver_up : (c : ℕ) → is_for_server m.kind ≡ true → deliver key encode decode cfg (with_pair p m.server v true c x) m
        ≡ record {
          parties = with_pair p m.server (server_step key cfg.d m.server v m).server true c x;
          sends = to_list (server_step key cfg.d m.server v m).answer;
          answer = nothing_ended;
        }
    unfolding deliver
    deliver_up c e =
        rw (e, pair_up p m.server v true c x, pair_server p m.server v true c x)
        (server-acts p m.server v true c x (server_step key cfg.d m.server v m))

    pub deliver_down : (c : ℕ) → is_for_server m.kind ≡ true → deliver key encode decode cfg (with_pair p m.server v false c x) m
        ≡ quiet (with_pair p m.server v false c x)
    unfolding deliver
    deliver_down c e = rw (e, pair_up p m.server v false c x)

    pub deliver_client : (s : ℕ) (up : Bool) → is_for_server m.kind ≡ false → deliver key encode decode cfg (with_pair p s v up m.client x) m
        ≡ record {
          parties = with_pair p s v up m.client (client_step key encode decode cfg m.client x m).client;
          sends = (client_step key encode decode cfg m.client x m).sends;
          answer = answer_of m.client (client_step key encode decode cfg m.client x m).ended;
        }
    unfolding deliver
    deliver_client s up e =
        rw (e, pair_client p s v up m.client x) (client-acts p s v up m.client x (client_step key encode decode cfg m.client x m))

-- The parties of document 01's rig, over the models of server and client: who they are, what an event asks of them, and what they do in
-- it. What they send is a list of its own: of the messages in flight nothing is known here.
use Rattle.std.specs.Prelude.{ℕ, Bool, true, false, cond, not, List, [], ◌∷◌}
use Rattle.std.proofs.Math.Option.{Option}
use Rattle.config.specs.declared.Config.{Config}
use Rattle.config.specs.Questions.{Question, ask, within}
use Rattle.tag.specs.declared.Tag.{Tag}
use Rattle.record.specs.Kinds.{is_for_server}
use Rattle.record.specs.Message.{Message}
use Rattle.protocol.specs.Number.{upd, to_list}
use Rattle.protocol.specs.Server.{Server, Served, fresh_server, no_server, server_step}
use Rattle.protocol.specs.Client.{Client, Moved, Ended, down, fresh_client, is_up, begin_questions, begin_client, client_step}
use Rattle.protocol.specs.Board.{Answer, nothing_ended, written_by, spent_by, read_by}

-- Servers and clients by their numbers. Which servers are up is kept beside them; a client that is down says so itself.
pub record Parties (Value Element : Type 0) : Type 0 where
  pub servers : ℕ → Server Element
  pub up : ℕ → Bool
  pub clients : ℕ → Client Value Element

-- what the parties do in an event: the parties that it leaves, the messages sent, in order, and its answer
pub record Acted (Value Element : Type 0) : Type 0 where
  pub parties : Parties Value Element
  pub sends : List (Message Element)
  pub answer : Answer Value

-- "An event's answer is nothing ended or, each naming the client whose operation ended, .."
unfoldable pub answer_of : {Value : Type 0} → ℕ → Ended Value → Answer Value
answer_of c Ended.nothing = nothing_ended
answer_of c (Ended.written t) = written_by c t
answer_of c Ended.spent = spent_by c
answer_of c (Ended.read t v) = read_by c t v

module _ {Value Element : Type 0} where
  -- fresh servers, 1 to N, and clients, with a starting board: "all parties up, clients idle"
  unfoldable pub fresh_parties : Config → (Value → ℕ → Element) → Value → Parties Value Element
  fresh_parties cfg encode start =
      record {
        servers = λ s. cond (within 1 cfg.n s) (fresh_server (encode start s)) no_server;
        up = λ s. true;
        clients = λ c. fresh_client;
      }

  -- the parties with server s changed
  unfoldable pub with_server : Parties Value Element → ℕ → Server Element → Parties Value Element
  with_server p s v = record { servers = upd p.servers s v; up = p.up; clients = p.clients }

  -- the parties with client c changed
  unfoldable pub with_client : Parties Value Element → ℕ → Client Value Element → Parties Value Element
  with_client p c x = record { servers = p.servers; up = p.up; clients = upd p.clients c x }

  -- the parties with server s, which is up or not, and client c changed: the part of them that an event can touch
  unfoldable pub with_pair : Parties Value Element → ℕ → Server Element → Bool → ℕ → Client Value Element → Parties Value Element
  with_pair p s v up c x = record { servers = upd p.servers s v; up = upd p.up s up; clients = upd p.clients c x }

  -- nothing is sent and nothing ends; the parties are these
  unfoldable pub quiet : Parties Value Element → Acted Value Element
  quiet p = record { parties = p; sends = []; answer = nothing_ended }

  -- server s does its step
  unfoldable pub server_acts : Parties Value Element → ℕ → Served Element → Acted Value Element
  server_acts p s o = record { parties = with_server p s o.server; sends = to_list o.answer; answer = nothing_ended }

  -- client c makes its move; 14 inside it counts as accepted
  unfoldable pub client_acts : Parties Value Element → ℕ → Moved Value Element → Acted Value Element
  client_acts p c o = record { parties = with_client p c o.client; sends = o.sends; answer = answer_of c o.ended }

  -- events 1 and 2, "begin write (client, V bytes)" and "begin read (client)": client c begins, with the board to write or none
  unfoldable pub begin : Config → Parties Value Element → ℕ → Option Value → Acted Value Element
  begin cfg p c board = client_acts p c (begin_client cfg c (p.clients c) board)

  -- the parties with server s up or down: what it keeps stays
  abbrev pub with_up : Parties Value Element → ℕ → Bool → Parties Value Element
  with_up p s up = record { servers = p.servers; up = upd p.up s up; clients = p.clients }

  -- event 6, "crash a server"
  unfoldable pub crash_server : Parties Value Element → ℕ → Acted Value Element
  crash_server p s = quiet (with_up p s false)

  -- event 7, "crash a client": it is down
  unfoldable pub crash_client : Parties Value Element → ℕ → Acted Value Element
  crash_client p c = quiet (with_client p c (record { operation = (p.clients c).operation; phase = down }))

  -- event 8, which "starts a crashed server again with its store, highest finalised tag and floor exactly as they stood at the crash"
  unfoldable pub restart_server : Parties Value Element → ℕ → Acted Value Element
  restart_server p s = quiet (with_up p s true)

  -- The questions of an event that names a party, in order. Of events 1 and 2: "8. Does the named client, .. exist?", and 9 to 11 of a
  -- client that is to begin.
  unfoldable pub questions_to_begin : Config → Parties Value Element → ℕ → List Question
  questions_to_begin cfg p c = ask 8 (within 1 cfg.c c) ∷ begin_questions (p.clients c)

  -- of event 6: "8. Does the named .. server .. exist? 9. Is the party to begin or crash up?"
  unfoldable pub questions_to_crash_server : Config → Parties Value Element → ℕ → List Question
  questions_to_crash_server cfg p s = ask 8 (within 1 cfg.n s) ∷ ask 9 (p.up s) ∷ []

  -- of event 7, likewise
  unfoldable pub questions_to_crash_client : Config → Parties Value Element → ℕ → List Question
  questions_to_crash_client cfg p c = ask 8 (within 1 cfg.c c) ∷ ask 9 (is_up (p.clients c).phase) ∷ []

  -- of event 8: 8 likewise, and "for this event question 9 reads: is the server down?"
  unfoldable pub questions_to_restart_server : Config → Parties Value Element → ℕ → List Question
  questions_to_restart_server cfg p s = ask 8 (within 1 cfg.n s) ∷ ask 9 (not (p.up s)) ∷ []

-- Event 3: a message is handed to the server or to the client that it is for. "Handed to a crashed party it is gone": a client that is
-- down awaits nothing.
unfoldable pub deliver : {Value Element : Type 0} → (Tag → ℕ) → (Value → ℕ → Element) → (List (ℕ × Element) → Value) → Config
    → Parties Value Element → Message Element → Acted Value Element
deliver key encode decode cfg p m =
    cond (is_for_server m.kind)
    (cond (p.up m.server) (server_acts p m.server (server_step key cfg.d m.server (p.servers m.server) m)) (quiet p))
    (client_acts p m.client (client_step key encode decode cfg m.client (p.clients m.client) m))

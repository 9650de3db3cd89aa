-- The client of document 01, as the protocol sees it: what it keeps, its begin and its step on a message. Boards and elements are of
-- any types; encoding, decoding and the tags' key are parameters.
use Rattle.std.specs.Prelude.{ℕ, ◌+◌, Bool, true, false, cond, not, ◌&&◌, List, [], ◌∷◌, eqb, leb, ltb, length, take}
use Rattle.std.proofs.Math.Option.{Option, none, some}
use Rattle.config.specs.declared.Config.{Config}
use Rattle.config.specs.Config.{quorum_of}
use Rattle.config.specs.Questions.{Question, ask}
use Rattle.tag.specs.declared.Tag.{Tag}
use Rattle.tag.specs.Tag.{start}
use Rattle.record.specs.declared.Kind.{Kind}
use Rattle.record.specs.declared.Kind.TheVariants.{Query, PreWrite, WriteFinalise, ReadFinalise}
use Rattle.record.specs.Message.{Message}
use Rattle.record.specs.Record.{kind_number}
pub use Rattle.record.specs.Record.{highest_number}
use Rattle.protocol.specs.Number.{upd, count, to_each, present, nobody, nothing_yet}
use Rattle.protocol.specs.Tags.{same_key, higher}

-- "Its state is idle, asking, pre-writing, finalising a write, finalising a read, or down."
pub data Phase (Value Element : Type 0) : Type 0 where
  idle : Phase Value Element
  -- the board to write or none, the best tag so far, the servers counted
  asking : Option Value → Tag → (ℕ → Bool) → Phase Value Element
  -- the tag, the servers counted
  pre_writing : Tag → (ℕ → Bool) → Phase Value Element
  -- the tag, the servers counted
  finalising_write : Tag → (ℕ → Bool) → Phase Value Element
  -- the tag, the servers counted, the elements received
  finalising_read : Tag → (ℕ → Bool) → (ℕ → Option Element) → Phase Value Element
  down : Phase Value Element

-- a client keeps its operation number and its phase
pub record Client (Value Element : Type 0) : Type 0 where
  pub operation : ℕ
  pub phase : Phase Value Element

-- how a step ends the operation, if it does: written, spent, or read with tag and board
pub data Ended (Value : Type 0) : Type 0 where
  nothing : Ended Value
  written : Tag → Ended Value
  spent : Ended Value
  read : Tag → Value → Ended Value

-- what a step leaves: the client, what it sends, how the operation ends
pub record Moved (Value Element : Type 0) : Type 0 where
  pub client : Client Value Element
  pub sends : List (Message Element)
  pub ended : Ended Value

-- "All sends go out in server order": one of a kind to each server, 1 to N, from client c in operation o, of a tag, with the
-- element that is due to the server, or none
unfoldable pub send_each : {Element : Type 0} → Config → Kind → ℕ → ℕ → Tag → (ℕ → Option Element) → List (Message Element)
send_each cfg kind c o t e =
    to_each cfg.n (λ s. record { kind = kind; client = c; server = s; operation = o; tag = t; element = e s })

-- kind 9: the element was cleared
abbrev pub is_cleared : Kind → Bool
is_cleared kind = eqb (kind_number kind) 9

-- the number as which an answer's kind is judged: kind 9 is "judged as a kind 8 is"
abbrev pub judged : Kind → ℕ
judged kind = cond (is_cleared kind) 8 (kind_number kind)

-- "A client counts one answer per server and phase": the answer is judged as of this kind, and its server is not counted yet
unfoldable pub is_first : {Element : Type 0} → ℕ → (ℕ → Bool) → Message Element → Bool
is_first kind cs m = eqb (judged m.kind) kind && not (cs m.server)

-- at least q answers
unfoldable pub enough : Config → (ℕ → Bool) → Bool
enough cfg cs = leb (quorum_of cfg) (count cs cfg.n)

-- "at least q answers and at least k elements"
unfoldable pub enough_to_read : {Element : Type 0} → Config → (ℕ → Bool) → (ℕ → Option Element) → Bool
enough_to_read cfg cs es = enough cfg cs && leb cfg.k (length (present cfg.n es))

-- the tag that a write of client c takes: "adds 1 to its number, sets its own client number"
unfoldable pub next_tag : Tag → ℕ → Tag
next_tag t c = record { number = t.number + 1; client = c }

module _ {Value Element : Type 0} where
  -- a fresh client is idle, its operation number 0
  unfoldable pub fresh_client : Client Value Element
  fresh_client = record { operation = 0; phase = idle }

  -- the client is idle
  unfoldable pub is_idle : Phase Value Element → Bool
  is_idle idle = true
  is_idle (asking b t cs) = false
  is_idle (pre_writing t cs) = false
  is_idle (finalising_write t cs) = false
  is_idle (finalising_read t cs es) = false
  is_idle down = false

  -- the client is up
  unfoldable pub is_up : Phase Value Element → Bool
  is_up idle = true
  is_up (asking b t cs) = true
  is_up (pre_writing t cs) = true
  is_up (finalising_write t cs) = true
  is_up (finalising_read t cs es) = true
  is_up down = false

  -- The questions of a client that is to begin, each with its number, in order: "9. Is the party to begin or crash up? 10. Is the
  -- beginning client idle? 11. Is its operation number below 4,294,967,295?"
  unfoldable pub begin_questions : Client Value Element → List Question
  begin_questions x =
      ask 9 (is_up x.phase) ∷ ask 10 (is_idle x.phase) ∷ ask 11 (ltb x.operation highest_number) ∷ []

  -- client c asks with operation number o: it "sends a query to each server, 1 to N". The board to write, or none for a read, is kept while asking; nobody
  -- is counted.
  abbrev pub send_queries : Config → ℕ → ℕ → Option Value → Moved Value Element
  send_queries cfg c o board =
      record {
        client = record { operation = o; phase = asking board start nobody };
        sends = send_each cfg Query c o start nothing_yet;
        ended = nothing;
      }

  -- "Beginning adds 1 to its operation number (0 when fresh) and sends a query to each server, 1 to N."
  unfoldable pub begin_client : Config → ℕ → Client Value Element → Option Value → Moved Value Element
  begin_client cfg c x board = send_queries cfg c (x.operation + 1) board

  -- the phase awaits the answer: judged as of its kind, of a server not yet counted and, for kinds 4, 6 and 8, of its tag
  unfoldable pub awaits : (Tag → ℕ) → Phase Value Element → Message Element → Bool
  awaits key idle m = false
  awaits key (asking b t cs) m = is_first 2 cs m
  awaits key (pre_writing t cs) m = is_first 4 cs m && same_key key m.tag t
  awaits key (finalising_write t cs) m = is_first 6 cs m && same_key key m.tag t
  awaits key (finalising_read t cs es) m = is_first 8 cs m && same_key key m.tag t
  awaits key down m = false

  -- Question 14, "is the answer awaited?": not one with "wrong operation number, kind or phase, a server already counted, or, for
  -- kinds 4, 6 and 8, another tag"
  unfoldable pub awaited : (Tag → ℕ) → Client Value Element → Message Element → Bool
  awaited key x m = eqb m.operation x.operation && awaits key x.phase m

  -- the phase with the answer counted, which kind 9 is not: while asking the highest tag is kept, while finalising a read the element
  unfoldable pub counting : (Tag → ℕ) → Phase Value Element → Message Element → Phase Value Element
  counting key idle m = idle
  counting key (asking b t cs) m = asking b (higher key t m.tag) (upd cs m.server true)
  counting key (pre_writing t cs) m = pre_writing t (upd cs m.server true)
  counting key (finalising_write t cs) m = finalising_write t (upd cs m.server true)
  counting key (finalising_read t cs es) m = finalising_read t (upd cs m.server true) (upd es m.server m.element)
  counting key down m = down

  -- the client with the answer counted: the first half of its step
  unfoldable pub counted : (Tag → ℕ) → Client Value Element → Message Element → Client Value Element
  counted key x m = record { operation = x.operation; phase = counting key x.phase m }

  -- nothing is sent and nothing ends
  unfoldable pub stays : Client Value Element → Moved Value Element
  stays x = record { client = x; sends = []; ended = nothing }

  -- the operation ends: the client is idle, nothing is sent
  unfoldable pub ends : ℕ → Ended Value → Moved Value Element
  ends o how = record { client = record { operation = o; phase = idle }; sends = []; ended = how }

  -- "A write adds 1 to its number, sets its own client number and sends pre-writes"
  unfoldable pub send_pre_writes : (Value → ℕ → Element) → Config → ℕ → ℕ → Value → Tag → Moved Value Element
  send_pre_writes encode cfg c o v t =
      record {
        client = record { operation = o; phase = pre_writing t nobody };
        sends = send_each cfg PreWrite c o t (λ s. some (encode v s));
        ended = nothing;
      }

  -- "A read sends read finalises of that tag."
  unfoldable pub send_read_finalises : Config → ℕ → ℕ → Tag → Moved Value Element
  send_read_finalises cfg c o t =
      record {
        client = record { operation = o; phase = finalising_read t nobody nothing_yet };
        sends = send_each cfg ReadFinalise c o t nothing_yet;
        ended = nothing;
      }

  -- "Asking, at least q answers: take the highest tag. A write ..; at number 4,294,967,295 it ends spent, idle. A read .."
  unfoldable pub asked : (Value → ℕ → Element) → Config → ℕ → ℕ → Option Value → Tag → Moved Value Element
  asked encode cfg c o none t = send_read_finalises cfg c o t
  asked encode cfg c o (some v) t =
      cond (ltb t.number highest_number) (send_pre_writes encode cfg c o v (next_tag t c)) (ends o spent)

  -- "Pre-writing, at least q answers: send write finalises."
  unfoldable pub send_write_finalises : Config → ℕ → ℕ → Tag → Moved Value Element
  send_write_finalises cfg c o t =
      record {
        client = record { operation = o; phase = finalising_write t nobody };
        sends = send_each cfg WriteFinalise c o t nothing_yet;
        ended = nothing;
      }

  -- "decode from the k lowest server numbers that sent one; ends with tag and board"
  unfoldable pub end_read : (List (ℕ × Element) → Value) → Config → ℕ → Tag → (ℕ → Option Element) → Moved Value Element
  end_read decode cfg o t es = ends o (read t (decode (take cfg.k (present cfg.n es))))

  -- what client c does in operation o once an answer is counted, by its phase; without enough of them it stays
  unfoldable pub settling : (Value → ℕ → Element) → (List (ℕ × Element) → Value) → Config → ℕ → ℕ → Phase Value Element → Moved Value Element
  settling encode decode cfg c o idle = stays (record { operation = o; phase = idle })
  settling encode decode cfg c o (asking b t cs) =
      cond (enough cfg cs) (asked encode cfg c o b t) (stays (record { operation = o; phase = asking b t cs }))
  settling encode decode cfg c o (pre_writing t cs) =
      cond (enough cfg cs) (send_write_finalises cfg c o t) (stays (record { operation = o; phase = pre_writing t cs }))
  -- "Finalising a write, at least q answers: ends written."
  settling encode decode cfg c o (finalising_write t cs) =
      cond (enough cfg cs) (ends o (written t)) (stays (record { operation = o; phase = finalising_write t cs }))
  settling encode decode cfg c o (finalising_read t cs es) =
      cond (enough_to_read cfg cs es) (end_read decode cfg o t es)
      (stays (record { operation = o; phase = finalising_read t cs es }))
  settling encode decode cfg c o down = stays (record { operation = o; phase = down })

  -- the second half of client c's step: an answer has been counted
  unfoldable pub settle : (Value → ℕ → Element) → (List (ℕ × Element) → Value) → Config → ℕ → Client Value Element → Moved Value Element
  settle encode decode cfg c x = settling encode decode cfg c x.operation x.phase

  -- "A reader in its finalise phase that receives an awaited kind 9 .. raises its operation number by 1 and queries again. If the number is
  -- already 4,294,967,295 the read ends spent." It is client c, with operation number o.
  unfoldable pub ask_again : Config → ℕ → ℕ → Moved Value Element
  ask_again cfg c o = cond (ltb o highest_number) (send_queries cfg c (o + 1) none) (ends o spent)

  -- what client c does on an answer that is awaited: kind 9 is not counted, the client asks again; any other is counted, and then the client
  -- settles
  unfoldable pub receives : (Tag → ℕ) → (Value → ℕ → Element) → (List (ℕ × Element) → Value) → Config → ℕ → Client Value Element → Message Element → Moved Value Element
  receives key encode decode cfg c x m =
      cond (is_cleared m.kind) (ask_again cfg c x.operation) (settle encode decode cfg c (counted key x m))

  -- The step of client c on an answer: "An answer that isn't awaited changes nothing and sends nothing (14)".
  unfoldable pub client_step : (Tag → ℕ) → (Value → ℕ → Element) → (List (ℕ × Element) → Value) → Config → ℕ → Client Value Element → Message Element → Moved Value Element
  client_step key encode decode cfg c x m = cond (awaited key x m) (receives key encode decode cfg c x m) (stays x)

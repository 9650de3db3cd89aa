-- Rigs in which every tag's client is at most a limit: the fresh rig is one, and what parties do where no tags are compared keeps it one. Assumes nothing.
use Prim.Native.Nat.{ℕ, zero-le, ◌+◌, ◌≤◌}
use mathlib.Core.Path.{refl, sym, subst}
use mathlib.Core.Bool.{Bool, cond}
use mathlib.Core.Logic.{⊎_elim}
use mathlib.Core.Option.{Option, none, some}
use mathlib.Core.List.Memᴰ
use mathlib.Core.List.{List, [], ◌∷◌, ◌++◌, Memᴰ}
use lib.Dec.{ltb}
use Rattle.config.specs.declared.Config.{Config}
use Rattle.config.specs.Questions.{within}
use Rattle.tag.specs.declared.Tag.{Tag}
use Rattle.tag.specs.Tag.{start}
use Rattle.record.specs.declared.Kind.{Kind}
use Rattle.record.specs.declared.Kind.TheVariants.{Query, PreWrite, WriteFinalise, ReadFinalise}
use Rattle.record.specs.Message.{Message}
use Rattle.protocol.specs.Number.{nothing_yet, to_list}
use Rattle.protocol.specs.Server.{Server, Served, fresh_server, no_server}
use Rattle.protocol.specs.Client.{Moved, Phase, idle, asking, pre_writing, finalising_write, finalising_read, down, ask_again, asked, end_read, ends, enough, enough_to_read, fresh_client, highest_number, next_tag, send_each, send_pre_writes, send_queries, send_read_finalises, send_write_finalises, settling, stays}
use Rattle.protocol.specs.Parties as parties
use Rattle.protocol.specs.Parties.{client_acts, fresh_parties, quiet, server_acts, with_client, with_server}
use Rattle.protocol.specs.Rig.{Rig, fresh_rig, leaves}
use Rattle.protocol.proofs.Basics.{cond_elim, upd_elim}
use Rattle.protocol.proofs.Send.{to_each_all}

-- one of two, of which something holds
pub one_of : {A : Type 0} (P : A → Type 0) (b : Bool) {x y : A} → P x → P y → P (cond b x y)
one_of P b {x} {y} h k = cond_elim P b x y (λ _. h) (λ _. k)

-- ---- what holds of each of a list

pub record Every {A : Type 0} (P : A → Type 0) (xs : List A) : Type 0 where
  pub each : (x : A) → Memᴰ x xs → P x

module _ {A : Type 0} {P : A → Type 0} where
  pub no_one : Every P []
  no_one = record { each = λ x i. absurd (Memᴰ.not-nil i) }

  pub one_more : {x : A} {xs : List A} → P x → Every P xs → Every P (x ∷ xs)
  one_more h every = record { each = λ y i. ⊎_elim (λ e. subst P (sym e) h) (every.each y) (Memᴰ.cases_cons i) }

  pub first : {x : A} {xs : List A} → Every P (x ∷ xs) → P x
  first {x} every = every.each x (Memᴰ.head refl)

  pub among : {xs ys : List A} → ((y : A) → Memᴰ y ys → Memᴰ y xs) → Every P xs → Every P ys
  among from every = record { each = λ y i. every.each y (from y i) }

  pub later : {x : A} {xs : List A} → Every P (x ∷ xs) → Every P xs
  later = among (λ y. Memᴰ.tail)

  pub joined : {xs ys : List A} → Every P xs → Every P ys → Every P (xs ++ ys)
  joined {xs} h k = record { each = λ y i. ⊎_elim (h.each y) (k.each y) (Memᴰ.append_cases xs i) }

-- ---- tags whose client is at most a limit

abbrev pub Limited : ℕ → Tag → Type 0
Limited limit t = t.client ≤ limit

-- a server whose tags are such
pub record LimitedServer {Element : Type 0} (limit : ℕ) (v : Server Element) : Type 0 where
  pub highest : Limited limit v.highest
  pub floor : Every (Limited limit) (to_list v.floor)
  pub stored : Every (λ x. Limited limit x.tag) v.stored

-- a client's phase whose tag, if it has one, is such
abbrev pub LimitedPhase : {Value Element : Type 0} → ℕ → Phase Value Element → Type 0
LimitedPhase limit idle = Unit {0}
LimitedPhase limit (asking b t cs) = Limited limit t
LimitedPhase limit (pre_writing t cs) = Limited limit t
LimitedPhase limit (finalising_write t cs) = Limited limit t
LimitedPhase limit (finalising_read t cs es) = Limited limit t
LimitedPhase limit down = Unit {0}

-- a message with such a tag, of such a client
pub record LimitedMessage {Element : Type 0} (limit : ℕ) (m : Message Element) : Type 0 where
  pub client : m.client ≤ limit
  pub tag : Limited limit m.tag

-- a rig in which all are such
pub record WithinLimit {Value Element : Type 0} (limit : ℕ) (r : Rig Value Element) : Type 0 where
  pub servers : (s : ℕ) → LimitedServer limit (r.parties.servers s)
  pub clients : (c : ℕ) → LimitedPhase limit (r.parties.clients c).phase
  pub messages : Every (LimitedMessage limit) r.in_flight

-- what a server's step leaves, and a client's
abbrev pub LimitedServed : {Element : Type 0} → ℕ → Served Element → Type 0
LimitedServed limit o = LimitedServer limit o.server × Every (LimitedMessage limit) (to_list o.answer)

abbrev pub LimitedMoved : {Value Element : Type 0} → ℕ → Moved Value Element → Type 0
LimitedMoved limit x = LimitedPhase limit x.client.phase × Every (LimitedMessage limit) x.sends

-- ---- where no tags are compared

sent_each : {Element : Type 0} {limit : ℕ} (cfg : Config) (kind : Kind) (c o : ℕ) (t : Tag) (e : ℕ → Option Element) → c ≤ limit → Limited limit t
    → Every (LimitedMessage limit) (send_each cfg kind c o t e)
unfolding send_each
sent_each {limit = limit} cfg kind c o t e high h =
    record {
      each = to_each_all (LimitedMessage limit) (λ s. record { kind = kind; client = c; server = s; operation = o; tag = t; element = e s })
          (λ s. record { client = high; tag = h }) cfg.n;
    }

module _ {Value Element : Type 0} {limit : ℕ} where
  -- client c moves
  module _ (cfg : Config) (c : ℕ) (high : c ≤ limit) where
    pub queries : (o : ℕ) (board : Option Value) → LimitedMoved limit (send_queries {Element = Element} cfg c o board)
    queries o board = (zero-le, sent_each cfg Query c o start nothing_yet high zero-le)

    module _ (encode : Value → ℕ → Element) (decode : List (ℕ × Element) → Value) (o : ℕ) where
      pub asks_again : LimitedMoved limit (ask_again {Value = Value} {Element = Element} cfg c o)
      unfolding ask_again ends
      asks_again = one_of (LimitedMoved limit) (ltb o highest_number) (queries (o + 1) none) (tt, no_one)

      asking_ends : (board : Option Value) (t : Tag) → Limited limit t → LimitedMoved limit (asked encode cfg c o board t)
      unfolding asked send_read_finalises send_pre_writes next_tag ends
      asking_ends none t h = (h, sent_each cfg ReadFinalise c o t nothing_yet high h)
      asking_ends (some v) t h =
          one_of (LimitedMoved limit) (ltb t.number highest_number) (high, sent_each cfg PreWrite c o (next_tag t c) (λ s. some (encode v s)) high high) (tt, no_one)

      pub settles : (p : Phase Value Element) → LimitedPhase limit p → LimitedMoved limit (settling encode decode cfg c o p)
      unfolding settling send_write_finalises end_read ends stays
      settles idle h = (h, no_one)
      settles (asking b t cs) h = one_of (LimitedMoved limit) (enough cfg cs) (asking_ends b t h) (h, no_one)
      settles (pre_writing t cs) h = one_of (LimitedMoved limit) (enough cfg cs) (h, sent_each cfg WriteFinalise c o t nothing_yet high h) (h, no_one)
      settles (finalising_write t cs) h = one_of (LimitedMoved limit) (enough cfg cs) (tt, no_one) (h, no_one)
      settles (finalising_read t cs es) h = one_of (LimitedMoved limit) (enough_to_read cfg cs es) (tt, no_one) (h, no_one)
      settles down h = (h, no_one)

  -- a party acts, and these messages are left in flight
  module _ {r : Rig Value Element} (limited : WithinLimit limit r) {ms : List (Message Element)} (rest : Every (LimitedMessage limit) ms) where
    -- no party is changed, but for who is up
    pub still : (up : ℕ → Bool) → WithinLimit limit (record { parties = record { servers = r.parties.servers; up = up; clients = r.parties.clients }; in_flight = ms ++ [] })
    still up = record { servers = limited.servers; clients = limited.clients; messages = joined rest no_one }

    pub server-acts : (s : ℕ) (o : Served Element) → LimitedServed limit o → WithinLimit limit (leaves ms (server_acts r.parties s o)).rig
    unfolding leaves server_acts with_server
    server-acts s o h =
        record {
          servers = λ n. upd_elim (LimitedServer limit) r.parties.servers s o.server n (λ _. h.0) (λ _. limited.servers n);
          clients = limited.clients;
          messages = joined rest h.1;
        }

    pub client-acts : (c : ℕ) (x : Moved Value Element) → LimitedMoved limit x → WithinLimit limit (leaves ms (client_acts r.parties c x)).rig
    unfolding leaves client_acts with_client
    client-acts c x h =
        record {
          servers = limited.servers;
          clients = λ n. upd_elim (λ y. LimitedPhase limit y.phase) r.parties.clients c x.client n (λ _. h.0) (λ _. limited.clients n);
          messages = joined rest h.1;
        }

    pub client_crashed : (c : ℕ) → WithinLimit limit (leaves ms (parties.crash_client r.parties c)).rig
    unfolding leaves quiet parties.crash_client client_acts stays
    client_crashed c = client-acts c (stays (record { operation = (r.parties.clients c).operation; phase = down })) (tt, no_one)

  -- "all parties up, clients idle, nothing in flight"
  pub fresh_limited : (cfg : Config) (encode : Value → ℕ → Element) (board : Value) → WithinLimit limit (fresh_rig cfg encode board)
  unfolding fresh_rig fresh_parties fresh_server no_server fresh_client to_list
  fresh_limited cfg encode board =
      record {
        servers = λ s.
            one_of (LimitedServer limit) (within 1 cfg.n s) (record { highest = zero-le; floor = no_one; stored = one_more zero-le no_one })
            (record { highest = zero-le; floor = no_one; stored = no_one });
        clients = λ c. tt;
        messages = no_one;
      }

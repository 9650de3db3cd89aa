-- Reads that ask again, evaluated in the model: boards of one byte, N 3, k 1, D 0, so q 2, as in the example.
use Prim.Native.Nat.{ℕ}
use mathlib.Core.Path.{◌≡◌, refl}
use mathlib.Core.Bool.{true}
use mathlib.Core.Option.{Option, none, some}
use mathlib.Core.List.{List, [], ◌∷◌, ◌++◌}
use lib.ListN.{replicate}
use Rattle.config.specs.declared.Config.{Config}
use Rattle.config.specs.Config.{no_ranks}
use Rattle.config.specs.Questions.{first_no}
use Rattle.tag.specs.declared.Tag.{Tag}
use Rattle.tag.specs.Tag.{key}
use Rattle.record.specs.declared.Kind.{Kind}
use Rattle.record.specs.declared.Kind.TheVariants.{PreWrite, ReadFinalise, ReadFinaliseAnswer, Cleared}
use Rattle.record.specs.Message.{Message}
use Rattle.protocol.specs.Rig
use Rattle.protocol.specs.Rig.{Rig as RigOf}
use Rattle.protocol.specs.Board.{Call, Event, nothing_ended, written_by, spent_by, read_by, left_out, no_operation, unended_write, wrote, showed, history}
use Rattle.protocol.specs.Client.{Client, Moved, Ended, finalising_read, client_step, ends, highest_number, send_queries, stays}
use Rattle.protocol.specs.Server.{Server, Served, fresh_server, server_step}
use Rattle.protocol.specs.Number.{upd, nobody, nothing_yet}
use Rattle.protocol.specs.Parties.{fresh_parties, with_client}
use Rattle.protocol.proofs.Evaluate.{answers_to, computed}
use Rattle.protocol.proofs.Example.{config, decode, encode}

abbrev tag : ℕ → ℕ → Tag
tag number client = record { number = number; client = client }

-- ---- lists of events

abbrev write : ℕ → ℕ → Call ℕ
write client byte = record { code = 1; party = client; position = 0; board = byte }

abbrev read : ℕ → Call ℕ
read client = record { code = 2; party = client; position = 0; board = 0 }

-- the messages at these positions are handed over, one after the other
abbrev hand : List ℕ → List (Call ℕ)
hand [] = []
hand (i ∷ positions) = record { code = 3; party = 0; position = i; board = 0 } ∷ hand positions

abbrev double : ℕ → Call ℕ
double i = record { code = 5; party = 0; position = i; board = 0 }

-- Client 1 reads, and its asking takes (0, 0). Client 2's pre-write of 171 clears that at servers 1 and 2, and server 1 says so to the read's
-- finalise (event 13); that record is doubled. Client 1 asks again (15), and the double is not awaited (16). The write ends (22), and the read (30).
abbrev late_read : List (Call ℕ)
late_read =
    read 1 ∷ hand (0 ∷ 0 ∷ 1 ∷ 1 ∷ []) ++ write 2 171 ∷ hand (4 ∷ 4 ∷ 5 ∷ 5 ∷ 5 ∷ 5 ∷ 1 ∷ [])
    ++ double 7 ∷ hand (7 ∷ 7 ∷ 5 ∷ 5 ∷ 8 ∷ 8 ∷ 9 ∷ 9 ∷ 5 ∷ 5 ∷ 7 ∷ 7 ∷ 7 ∷ 7 ∷ 8 ∷ 8 ∷ 1 ∷ 7 ∷ [])

pub late-read : answers_to (key config) encode decode config (λ v. true) 64 0 late_read
    ≡ replicate 21 nothing_ended ++ written_by 2 (tag 1 2) ∷ replicate 7 nothing_ended ++ read_by 1 (tag 1 2) 171 ∷ nothing_ended ∷ nothing_ended ∷ []
unfolding answers_to
late-read = refl

abbrev late_events : List (Event ℕ)
late_events = Rig.run (key config) encode decode config (λ v. true) 64 (Rig.fresh_rig config encode 0) late_read

-- "To the history this is one read, begun once": at its begin, and nothing begins where it asks again
pub one_read : (history late_events 0 ≡ showed 171 29) × (history late_events 14 ≡ no_operation) × (history late_events 5 ≡ wrote 171 21)
unfolding answers_to computed
one_read = (refl, refl, refl)

-- "a spent read is left out like a spent write"
abbrev spent_read : List (Event ℕ)
spent_read = record { call = read 1; answer = nothing_ended } ∷ record { call = double 0; answer = nothing_ended } ∷ record { call = double 1; answer = spent_by 1 } ∷ []

pub spent_left_out : history spent_read 0 ≡ left_out
unfolding computed
spent_left_out = refl

-- With a third client. Client 2 has written 34; the finalise of client 3's write of 51 has reached one server, 2, when client 1's read asks
-- servers 1 and 2, and it takes (2, 3). Client 2's write of 68 clears that; the read asks again, servers 1 and 3 answer, and it ends with the
-- lower tag (1, 2).
abbrev three : Config
three = record { n = 3; k = 1; d = 0; e = 1; c = 3; ranks = no_ranks }

abbrev lower_tag : List (Call ℕ)
lower_tag =
    write 2 34 ∷ hand (1 ∷ 2 ∷ 1 ∷ 1 ∷ 2 ∷ 3 ∷ 2 ∷ 2 ∷ 3 ∷ 4 ∷ 3 ∷ 3 ∷ [])
    ++ write 3 51 ∷ hand (3 ∷ 5 ∷ 3 ∷ 4 ∷ 4 ∷ 6 ∷ 4 ∷ 5 ∷ 6 ∷ [])
    ++ read 1 ∷ hand (8 ∷ 10 ∷ 8 ∷ 9 ∷ [])
    ++ write 2 68 ∷ hand (13 ∷ 14 ∷ 13 ∷ 13 ∷ 14 ∷ 10 ∷ 15 ∷ 15 ∷ 17 ∷ 16 ∷ 16 ∷ 16 ∷ 18 ∷ 17 ∷ 17 ∷ [])

pub lower-tag : answers_to (key three) encode decode three (λ v. true) 64 0 lower_tag
    ≡ replicate 12 nothing_ended ++ written_by 2 (tag 1 2) ∷ replicate 30 nothing_ended ++ read_by 1 (tag 1 2) 34 ∷ []
unfolding answers_to
lower-tag = refl

abbrev lower_events : List (Event ℕ)
lower_events = Rig.run (key three) encode decode three (λ v. true) 64 (Rig.fresh_rig three encode 0) lower_tag

pub lower-history :
    (history lower_events 0 ≡ wrote 34 12)
    × (history lower_events 13 ≡ unended_write 51)
    × (history lower_events 23 ≡ showed 34 43)
    × (history lower_events 28 ≡ unended_write 68)
unfolding answers_to computed
lower-history = (refl, refl, refl, refl)

-- ---- one step

-- client 1 finalises a read of (2, 1) with this operation number: server 2 has answered, with an element, and so k have
abbrev reading : ℕ → Client ℕ ℕ
reading o = record { operation = o; phase = finalising_read (tag 2 1) (upd nobody 2 true) (upd nothing_yet 2 (some 7)) }

-- kind 9 of a server, for a tag and an operation number
abbrev cleared : ℕ → Tag → ℕ → Message ℕ
cleared s t o = record { kind = Cleared; client = 1; server = s; operation = o; tag = t; element = none }

abbrev step : Client ℕ ℕ → Message ℕ → Moved ℕ ℕ
step x m = client_step (key config) encode decode config 1 x m

-- "raises its operation number by 1 and queries again", and the number 4,294,967,295 is taken too
pub asks_again : (step (reading 5) (cleared 1 (tag 2 1) 5) ≡ send_queries config 1 6 none)
    × (step (reading 4294967294) (cleared 1 (tag 2 1) 4294967294) ≡ send_queries config 1 highest_number none)
unfolding answers_to
asks_again = (refl, refl)

-- "If the number is already 4,294,967,295 the read ends spent."
pub ends_spent : step (reading highest_number) (cleared 1 (tag 2 1) highest_number) ≡ ends highest_number Ended.spent
unfolding answers_to
ends_spent = refl

-- "judged as a kind 8 is": not of a server already counted, of another tag, or of another operation number; nor while asking
pub not_awaited :
    (step (reading 5) (cleared 2 (tag 2 1) 5) ≡ stays (reading 5))
    × (step (reading 5) (cleared 1 (tag 1 1) 5) ≡ stays (reading 5))
    × (step (reading 5) (cleared 1 (tag 2 1) 4) ≡ stays (reading 5))
    × (step (reading 5) (cleared 1 (tag 2 1) 6) ≡ stays (reading 5))
    × (step (send_queries config 1 6 none).client (cleared 1 (tag 2 1) 6) ≡ stays (send_queries config 1 6 none).client)
unfolding answers_to
not_awaited = (refl, refl, refl, refl, refl)

-- ---- a server

-- a message of client 3 to server 1, in its operation 4
abbrev message : Kind → Tag → Option ℕ → Message ℕ
message kind t e = record { kind = kind; client = 3; server = 1; operation = 4; tag = t; element = e }

abbrev serves : Server ℕ → Message ℕ → Served ℕ
serves v m = server_step (key config) 0 1 v m

-- fresh, and after pre-writes of (1, 1) and (2, 1): the floor is (1, 1), and H is still (0, 0)
abbrev fresh : Server ℕ
fresh = fresh_server 0

abbrev dropped : Server ℕ
dropped = (serves (serves fresh (message PreWrite (tag 1 1) (some 7))).server (message PreWrite (tag 2 1) (some 8))).server

-- "Where a server step gave 15 it now sends a record of kind 9, which repeats client, operation number and tag and has no element": of (1, 1),
-- and H is raised to it; of (0, 0)
pub tells : ((serves dropped (message ReadFinalise (tag 1 1) none)).answer ≡ some (message Cleared (tag 1 1) none))
    × ((serves dropped (message ReadFinalise (tag 1 1) none)).server.highest ≡ tag 1 1)
    × ((serves dropped (message ReadFinalise (tag 0 0) none)).answer ≡ some (message Cleared (tag 0 0) none))
unfolding answers_to
tells = (refl, refl, refl)

-- kind 8 of a tag that is stored, with its element, of one above the floor, and where there is no floor
pub answers_still : ((serves dropped (message ReadFinalise (tag 2 1) none)).answer ≡ some (message ReadFinaliseAnswer (tag 2 1) (some 8)))
    × ((serves dropped (message ReadFinalise (tag 1 2) none)).answer ≡ some (message ReadFinaliseAnswer (tag 1 2) none))
    × ((serves fresh (message ReadFinalise (tag 1 1) none)).answer ≡ some (message ReadFinaliseAnswer (tag 1 1) none))
unfolding answers_to
answers_still = (refl, refl, refl)

-- ---- question 13

-- client 1 reads so, and two such records are in flight
abbrev full : ℕ → RigOf ℕ ℕ
full o =
    record {
      parties = with_client (fresh_parties config encode 0) 1 (reading o);
      in_flight = cleared 1 (tag 2 1) o ∷ cleared 3 (tag 2 1) o ∷ [];
    }

abbrev first : Call ℕ
first = record { code = 3; party = 0; position = 0; board = 0 }

abbrev hands : ℕ → ℕ → ℕ
hands most o = first_no (Rig.questions (key config) encode decode config most (full o) first true (some Rig.handOver))

-- "13. Would at most M be in flight afterwards?": one is left and three queries come; a read that ends spent sends none
pub thirteen : (hands 4 5 ≡ 0) × (hands 3 5 ≡ 13) × (hands 1 highest_number ≡ 0)
unfolding answers_to
thirteen = (refl, refl, refl)

-- and then nothing moves: the record is still in flight
pub nothing_moves : (Rig.event (key config) encode decode config (λ v. true) 3 (full 5) first).rig ≡ full 5
unfolding answers_to
nothing_moves = refl

-- Document 01, "Figures to hold to": "These are proved together as one table". `proofs/Figures.antt` proves it.
use Rattle.std.specs.Prelude.{ℕ, ◌≡◌, true, List, [], ◌∷◌, map, length, replicate}
use Rattle.std.proofs.Math.Option.{Option, none, some}
use Rattle.config.specs.declared.Config.{Config}
use Rattle.config.specs.Config.{no_ranks, quorum_of}
use Rattle.config.specs.Questions.{first_no}
use Rattle.field.specs.Field.{times}
use Rattle.code.specs.Element.{element}
use Rattle.code.specs.Decoded.{decoded}
use Rattle.tag.specs.declared.Tag.{Tag}
use Rattle.tag.specs.Tag.{above, key, start}
use Rattle.record.specs.declared.Kind.{Kind}
use Rattle.record.specs.declared.Kind.TheVariants.{Cleared, PreWrite, PreWriteAnswer, ReadFinalise, ReadFinaliseAnswer}
use Rattle.record.specs.Element.{Element, element_with}
use Rattle.record.specs.Message.{Message}
use Rattle.record.specs.Record.{all, of_config, record_of}
use Rattle.protocol.specs.Server.{Server, Served, element_of, fresh_server, server_step}
use Rattle.std.specs.Prelude.{Some}
use Rattle.server.specs.declared.State.{State}
use Rattle.server.specs.Calls.{step_questions}
use Rattle.server.specs.View.{view}

-- N servers, any k, D, E and C clients, all of rank 0
abbrev pub config : ℕ → ℕ → ℕ → ℕ → ℕ → Config
config n k d e c = record { n = n; k = k; d = d; e = e; c = c; ranks = no_ranks }

-- (z, c)
abbrev pub tag : ℕ → ℕ → Tag
tag z c = record { number = z; client = c }

-- the quorum of N and k
abbrev pub q : ℕ → ℕ → ℕ
q n k = quorum_of (config n k 0 1 1)

-- N 5, k 3, E 1, and N 3, k 2, E 1
abbrev pub five : Config
five = config 5 3 0 1 1

abbrev pub three : Config
three = config 3 2 0 1 1

-- N 1, k 1, D 0, E 1, and two clients
abbrev pub one : Config
one = config 1 1 0 1 2

-- a message of client c to server 1, in its operation 1
abbrev pub message : Kind → ℕ → Tag → Option Element → Message Element
message kind c t e = record { kind = kind; client = c; server = 1; operation = 1; tag = t; element = e }

-- a pre-write of (z, c), by client c, with the element z of a board with length 1; a read finalise by client 1
abbrev pub pre_write : ℕ → ℕ → Message Element
pre_write z c = message PreWrite c (tag z c) (some (element_with 1 (z ∷ [])))

abbrev pub read_finalise : ℕ → ℕ → Message Element
read_finalise z c = message ReadFinalise 1 (tag z c) none

-- server 1 with D 0 is handed a message
abbrev pub step : Server Element → Message Element → Served Element
step v m = server_step (key one) 0 1 v m

-- "D 0, fresh", and after each of the pre-writes
abbrev pub server_0 : Server Element
server_0 = fresh_server (element_with 1 (0 ∷ []))

abbrev pub server_1 : Server Element
server_1 = (step server_0 (pre_write 1 1)).server

abbrev pub server_2 : Server Element
server_2 = (step server_1 (pre_write 2 1)).server

abbrev pub server_3 : Served Element
server_3 = step server_2 (pre_write 1 2)

-- the last of these as a state with its store, and the number that a step in it gets
abbrev pub state_3 : State
state_3 =
    record {
      me = record { 0 = 1 };
      highest = start;
      floor = Some (tag 1 2);
      count = 1;
      tags = replicate 8 (tag 2 1);
      lengths = replicate 8 1;
    }

abbrev pub store_3 : List ℕ
store_3 = 2 ∷ []

abbrev pub gets : Message Element → ℕ
gets m = first_no (step_questions one state_3 (record_of one m) (length store_3) 80)

pub record Figures : Type 0 where
  -- "(N, k) gives q: (5, 3) 4; (5, 5) 5; (6, 3) 5; (16, 1) 9."
  pub quorum_5_3 : q 5 3 ≡ 4
  pub quorum_5_5 : q 5 5 ≡ 5
  pub quorum_6_3 : q 6 3 ≡ 5
  pub quorum_16_1 : q 16 1 ≡ 9
  -- "Products: 2 and 128 give 29; 3 and 7 give 9."
  pub product_2_128 : times 2 128 ≡ 29
  pub product_3_7 : times 3 7 ≡ 9
  -- "N 5, k 3, E 1, board 10 20 30: elements 0 90 80 167 173; servers 2, 4, 5 give it back."
  pub element_1 : element five (10 ∷ 20 ∷ 30 ∷ []) 1 ≡ 0 ∷ []
  pub element_2 : element five (10 ∷ 20 ∷ 30 ∷ []) 2 ≡ 90 ∷ []
  pub element_3 : element five (10 ∷ 20 ∷ 30 ∷ []) 3 ≡ 80 ∷ []
  pub element_4 : element five (10 ∷ 20 ∷ 30 ∷ []) 4 ≡ 167 ∷ []
  pub element_5 : element five (10 ∷ 20 ∷ 30 ∷ []) 5 ≡ 173 ∷ []
  pub decoded_2_4_5 : decoded five (2 ∷ 4 ∷ 5 ∷ []) (90 ∷ 167 ∷ 173 ∷ []) ≡ 10 ∷ 20 ∷ 30 ∷ []
  -- "Board 1 2 with k 2, N 3: 3 5 7."
  pub two_1 : element three (1 ∷ 2 ∷ []) 1 ≡ 3 ∷ []
  pub two_2 : element three (1 ∷ 2 ∷ []) 2 ≡ 5 ∷ []
  pub two_3 : element three (1 ∷ 2 ∷ []) 3 ≡ 7 ∷ []
  -- "Tag (2, 1) is above (1, 9), and (2, 3) above (2, 1)."
  pub tag_by_number : above (config 1 1 0 1 9) (tag 2 1) (tag 1 9) ≡ true
  pub tag_by_client : above (config 1 1 0 1 9) (tag 2 3) (tag 2 1) ≡ true
  -- "D 0, fresh: pre-write (1, 1) gives floor (0, 0); then (2, 1) gives floor (1, 1);"
  pub floor_1 : server_1.floor ≡ some (tag 0 0)
  pub floor_2 : server_2.floor ≡ some (tag 1 1)
  -- "then (1, 2) gives floor (1, 2), not stored, acknowledged;"
  pub floor_3 : server_3.server.floor ≡ some (tag 1 2)
  pub not_stored : element_of (key one) (tag 1 2) server_3.server.stored ≡ none
  pub acknowledged : server_3.answer ≡ some (message PreWriteAnswer 2 (tag 1 2) none)
  -- "a read finalise of (1, 1) gets 15; one of (3, 1) is answered without an element." In document 02: "Where a server step gave 15 it now sends
  -- a record of kind 9".
  pub seen_3 : view one state_3 store_3 ≡ server_3.server
  pub accepted_1_1 : gets (read_finalise 1 1) ≡ 0
  pub read_1_1 : (step server_3.server (read_finalise 1 1)).answer ≡ some (message Cleared 1 (tag 1 1) none)
  pub accepted_3_1 : gets (read_finalise 3 1) ≡ 0
  pub read_3_1 : (step server_3.server (read_finalise 3 1)).answer ≡ some (message ReadFinaliseAnswer 1 (tag 3 1) none)
  -- each of these messages is one of the configuration
  pub formed : all (map (of_config one) (pre_write 1 1 ∷ pre_write 2 1 ∷ pre_write 1 2 ∷ read_finalise 1 1 ∷ read_finalise 3 1 ∷ [])) ≡ true

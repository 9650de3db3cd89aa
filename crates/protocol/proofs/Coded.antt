-- A write and two reads with N 5, k 3 and so q 4, evaluated in the model, with a lost pre-write, a doubled answer, a late answer, answers out of
-- order and a crash. Here a board is a list of numbers, an element is the whole board, and what a read shows is the servers decoded from and
-- the element of the first of them.
use Prim.Native.Nat.{ℕ}
use mathlib.Core.Path.{◌≡◌, refl}
use mathlib.Core.Bool.{Bool, true}
use mathlib.Core.Option.{some, none}
use mathlib.Core.List.{List, [], ◌∷◌, ◌++◌, map}
use lib.ListN.{replicate}
use Rattle.config.specs.declared.Config.{Config}
use Rattle.config.specs.Config.{no_ranks}
use Rattle.config.specs.Questions.{first_no}
use Rattle.tag.specs.declared.Tag.{Tag}
use Rattle.tag.specs.Tag.{key}
use Rattle.record.specs.declared.Kind.TheVariants.{QueryAnswer, PreWrite}
use Rattle.record.specs.Message.{Message}
use Rattle.protocol.specs.Board.{Call, nothing_ended, written_by, read_by}
use Rattle.protocol.specs.Client.{Client, Moved, Ended, asking, idle, client_step, begin_questions}
use Rattle.protocol.specs.Server.{Server, server_step, fresh_server}
use Rattle.protocol.proofs.Evaluate.{answers_to}

abbrev config : Config
config = record { n = 5; k = 3; d = 1; e = 1; c = 2; ranks = no_ranks }

abbrev encode : List ℕ → ℕ → List ℕ
encode v s = v

abbrev first : List (ℕ × List ℕ) → List ℕ
first [] = []
first (x ∷ xs) = x.1

abbrev decode : List (ℕ × List ℕ) → List ℕ
decode xs = map (λ x. x.0) xs ++ first xs

abbrev tag : ℕ → ℕ → Tag
tag z c = record { number = z; client = c }

abbrev call : ℕ → ℕ → ℕ → Call (List ℕ)
call code party position = record { code = code; party = party; position = position; board = 7 ∷ [] }

-- the message at a position is handed over, so many times
abbrev hand : ℕ → ℕ → List (Call (List ℕ))
hand times position = replicate times (call 3 0 position)

-- Client 1 writes 7: it begins, and its queries are handed over; the answer of server 1 is doubled, and is counted once; three answers are
-- too few; the fourth sends pre-writes. That to server 2 is lost. The late answer of server 5 is not awaited. Three acknowledgements are too
-- few, in either phase.
abbrev writing : List (Call (List ℕ))
writing =
    call 1 1 0 ∷ hand 5 0 ++ call 5 0 0 ∷ hand 1 0 ++ hand 1 4 ++ hand 3 0 ++ call 4 0 2 ∷ hand 4 1 ++ hand 5 0 ++ hand 4 0 ++ hand 4 1

-- The late acknowledgement of server 5 is not awaited. Client 2 reads: servers 5, 4, 3 and 1 answer, each with an element, and the three
-- lowest are decoded from.
abbrev reading : List (Call (List ℕ))
reading =
    hand 2 0 ++ call 2 2 0 ∷ hand 5 0 ++ hand 4 0 ++ call 4 0 0 ∷ hand 1 0 ++ hand 3 1 ++ hand 1 4 ++ hand 1 3 ++ hand 1 2 ++ hand 1 1

-- Server 5 crashes, and what is handed to it is gone. Client 1 reads: servers 4, 3 and 1 answer with an element, which are too few answers;
-- then server 2 answers without one.
abbrev reading_again : List (Call (List ℕ))
reading_again =
    call 4 0 0 ∷ call 6 5 0 ∷ call 2 1 0 ∷ hand 4 0 ++ hand 1 0 ++ hand 4 0 ++ hand 4 0 ++ hand 1 4 ++ hand 1 3 ++ hand 2 1

pub write_and_read : answers_to (key config) encode decode config (λ v. true) 64 [] (writing ++ reading ++ reading_again)
    ≡ replicate 29 nothing_ended
    ++ written_by 1 (tag 1 1)
    ∷ replicate 20 nothing_ended
    ++ read_by 2 (tag 1 1) (1 ∷ 3 ∷ 4 ∷ 7 ∷ [])
    ∷ replicate 19 nothing_ended
    ++ read_by 1 (tag 1 1) (1 ∷ 3 ∷ 4 ∷ 7 ∷ [])
    ∷ []
unfolding answers_to
write_and_read = refl

-- client 1 has asked in its operation 1 to write 7, with the best tag of this number, and the answers of three servers are counted
abbrev asked : ℕ → Client (List ℕ) (List ℕ)
asked number = record { operation = 1; phase = asking (some (7 ∷ [])) (tag number 2) three }
  where
    three : ℕ → Bool
    three s = lib.Dec.leb s 3

-- the answer of server 4
abbrev fourth : Message (List ℕ)
fourth = record { kind = QueryAnswer; client = 1; server = 4; operation = 1; tag = tag 1 1; element = none }

abbrev step : Client (List ℕ) (List ℕ) → Moved (List ℕ) (List ℕ)
step x = client_step (key config) encode decode config 1 x fourth

-- "at number 4,294,967,295 it ends spent, idle", and at the number before it does not
pub spent_at : ((step (asked 4294967295)).ended ≡ Ended.spent) × ((step (asked 4294967295)).sends ≡ [])
    × ((step (asked 4294967295)).client ≡ record { operation = 1; phase = idle }) × ((step (asked 4294967294)).ended ≡ Ended.nothing)
unfolding answers_to
spent_at = (refl, refl, refl, refl)

-- "11. Is its operation number below 4,294,967,295?"
pub numbers_used_up : first_no (begin_questions {Value = List ℕ} {Element = List ℕ} (record { operation = 4294967295; phase = idle })) ≡ 11
unfolding answers_to
numbers_used_up = refl

-- D 1: two tags are kept; the third drops the smallest, whose place it takes
abbrev pre_written : Tag → Server (List ℕ) → Server (List ℕ)
pre_written t v =
    (server_step (key config) 1 1 v (record { kind = PreWrite; client = 1; server = 1; operation = 1; tag = t; element = some (t.number ∷ []) })).server

pub two_kept : pre_written (tag 2 1) (pre_written (tag 1 1) (fresh_server (0 ∷ [])))
    ≡ record {
      highest = tag 0 0;
      floor = some (tag 0 0);
      stored = record { tag = tag 2 1; element = 2 ∷ [] } ∷ record { tag = tag 1 1; element = 1 ∷ [] } ∷ [];
    }
unfolding answers_to
two_kept = refl

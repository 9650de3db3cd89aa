-- Document 01's example of ten events, evaluated in the model: N 3, k 1, D 0, E 1, C 2, M 64, starting board 0. With k 1 and E 1 a board
-- is one byte, and every server's element is that byte.
use Prim.Native.Nat.{ℕ}
use mathlib.Core.Path.{◌≡◌, refl}
use mathlib.Core.Bool.{Bool, true, false}
use mathlib.Core.Option.{some}
use mathlib.Core.List.{List, [], ◌∷◌, ◌++◌}
use lib.ListN.{length, replicate}
use native.Mathlib.Omega.{arith}
use Rattle.config.specs.declared.Config.{Config}
use Rattle.laws.specs.Below.{all_below}
use Rattle.config.specs.Config.{no_ranks, questions, rank, ranks_within}
use Rattle.config.specs.Questions.{first_no}
use Rattle.config.proofs.Valid.{valid}
use Rattle.tag.specs.Tag.{key}
use Rattle.protocol.specs.Rig
use Rattle.protocol.specs.Laws.{TagOrder, Coding, Rising, ElementsOf}
use Rattle.protocol.proofs.Evaluate.{answers_to, computed}
use Rattle.protocol.proofs.Theorem.{atomic_calls}
use Rattle.protocol.proofs.Boards.{tag_order}
use Rattle.protocol.specs.Board.{Atomic, Call, Answer, Event, refused, nothing_ended, written_by, read_by, wrote, showed, history, StandsFirst}

abbrev pub config : Config
config = record { n = 3; k = 1; d = 0; e = 1; c = 2; ranks = no_ranks }

abbrev pub encode : ℕ → ℕ → ℕ
encode v s = v

abbrev pub decode : List (ℕ × ℕ) → ℕ
decode [] = 0
decode (x ∷ xs) = x.1

pub tags : TagOrder config (key config)
unfolding first_no questions ranks_within rank all_below
tags = tag_order config (valid config refl)

-- one element is the board
pub coding : Coding config (λ (v : ℕ). Unit {0}) encode decode
unfolding ElementsOf
coding = record { back = back }
  where
    back : (v : ℕ) → Unit {0} → (xs : List (ℕ × ℕ)) → length xs ≡ 1 → Rising 0 3 xs → ElementsOf encode v xs → decode xs ≡ v
    back v b [] h r e = absurd (omega arith)
    back v b (x ∷ xs) h r e = e.0

-- an event of the example: code, party, position
abbrev call : ℕ → ℕ → ℕ → Call ℕ
call code party position = record { code = code; party = party; position = position; board = 0 }

-- "Events (code, party, position): 2 1 0; 3 0 0; 3 0 0; 3 0 1; 3 0 1; 3 0 1; 3 0 1; 3 0 2; 3 0 2; 1 3 0."
pub calls : List (Call ℕ)
calls =
    call 2 1 0 ∷ call 3 0 0 ∷ call 3 0 0 ∷ call 3 0 1 ∷ call 3 0 1 ∷ call 3 0 1 ∷ call 3 0 1 ∷ call 3 0 2 ∷ call 3 0 2 ∷ call 1 3 0 ∷ []

-- the printed answers: eight times `ok`, `read 0 0 00`, `no 8`
pub answers : List (Answer ℕ)
answers =
    nothing_ended ∷
    nothing_ended ∷
    nothing_ended ∷
    nothing_ended ∷
    nothing_ended ∷
    nothing_ended ∷
    nothing_ended ∷ nothing_ended ∷ read_by 1 (record { number = 0; client = 0 }) 0 ∷ refused 8 ∷ []

pub example : answers_to (key config) encode decode config (λ v. true) 64 0 calls ≡ answers
unfolding answers_to calls answers
example = refl

-- Questions 7 to 10 and 13 with M 3, each the first that is answered with no: no event 9; client 1 asks; it is not idle; client 2 would make it six
-- messages; there is no fourth; client 2 crashes, and is not up any more; there is no client 3 and no server 4; server 3 crashes, and is
-- not up any more; nothing can be doubled; the message to server 3 is gone; then one can be doubled, and no more.
pub refusals : List (Call ℕ)
refusals =
    call 9 0 0 ∷
    call 2 1 0 ∷
    call 2 1 0 ∷
    call 2 2 0 ∷
    call 3 0 3 ∷
    call 7 2 0 ∷
    call 1 2 0 ∷
    call 7 2 0 ∷
    call 1 3 0 ∷
    call 6 4 0 ∷ call 6 3 0 ∷ call 6 3 0 ∷ call 5 0 0 ∷ call 3 0 2 ∷ call 5 0 0 ∷ call 5 0 0 ∷ []

pub refusal_answers : List (Answer ℕ)
refusal_answers =
    refused 7 ∷
    nothing_ended ∷
    refused 10 ∷
    refused 13 ∷
    refused 8 ∷
    nothing_ended ∷
    refused 9 ∷
    refused 9 ∷
    refused 8 ∷
    refused 8 ∷ nothing_ended ∷ refused 9 ∷ refused 13 ∷ nothing_ended ∷ nothing_ended ∷ refused 13 ∷ []

pub refused_so : answers_to (key config) encode decode config (λ v. true) 3 0 refusals ≡ refusal_answers
unfolding answers_to refusals refusal_answers
refused_so = refl

-- Question 12 comes before 13: client 1 asks, and the first of its three messages would be handed over. An ill-formed one gets 12, whether M is
-- 64 or 2; a well-formed one gets 13 if M is 2, since its answer is a third.
abbrev asks : Rig.Rig ℕ ℕ
asks = (Rig.event (key config) encode decode config (λ v. true) 64 (Rig.fresh_rig config encode 0) (call 2 1 0)).rig

abbrev hands : ℕ → Bool → ℕ
hands most formed = first_no (Rig.questions (key config) encode decode config most asks (call 3 0 0) formed (some Rig.handOver))

pub twelve_first : (hands 64 true ≡ 0) × (hands 64 false ≡ 12) × (hands 2 false ≡ 12) × (hands 2 true ≡ 13)
unfolding answers_to
twelve_first = (refl, refl, refl, refl)

-- the theorem, for this configuration and code: every list of calls has a history with an order that fits
pub example_atomic : (calls : List (Call ℕ)) → Atomic (key config) 0 (Rig.run (key config) encode decode config (λ v. true) 64 (Rig.fresh_rig config encode 0) calls)
example_atomic calls =
    atomic_calls config (key config) tags (λ v. Unit {0}) encode decode coding (omega arith) 0 tt (λ v. true) 64 calls (λ a i e f. tt)

-- A write and a read of it: client 1 begins to write 7, and what is first in flight is handed over 18 times; then client 2 begins to read, and it is
-- handed over 12 times more.
abbrev handed : ℕ → List (Call ℕ)
handed times = replicate times (call 3 0 0)

pub write-then-read : List (Call ℕ)
write-then-read = record { code = 1; party = 1; position = 0; board = 7 } ∷ handed 18 ++ call 2 2 0 ∷ handed 12

pub write_then_read_answers : answers_to (key config) encode decode config (λ v. true) 64 0 write-then-read
    ≡ replicate 17 nothing_ended
    ++ written_by 1 (record { number = 1; client = 1 })
    ∷ replicate 12 nothing_ended
    ++ read_by 2 (record { number = 1; client = 1 }) 7
    ∷ nothing_ended
    ∷ []
unfolding answers_to write-then-read
write_then_read_answers = refl

abbrev events : List (Event ℕ)
events = Rig.run (key config) encode decode config (λ v. true) 64 (Rig.fresh_rig config encode 0) write-then-read

-- the event at place 17 ends the write, and that at place 30 the read, of what was written
pub write_then_read_history : (history events 0 ≡ wrote 7 17) × (history events 19 ≡ showed 7 30)
unfolding answers_to computed write-then-read
write_then_read_history = (refl, refl)

-- in the order that the theorem finds, the write stands before the read
pub write_stands_first : StandsFirst 0 19 (example_atomic write-then-read).order
unfolding answers_to computed write-then-read
write_stands_first =
    let fits = (example_atomic write-then-read).fits in
    fits.in_time 0 19 (fits.ended 0 tt) (fits.ended 19 tt) (omega arith)

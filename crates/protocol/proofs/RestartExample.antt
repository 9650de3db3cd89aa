-- A server that comes back, evaluated in the model: N 3, k 1, D 0, E 1, C 2, M 64, starting board 0.
use Prim.Native.Nat.{ℕ}
use mathlib.Core.Path.{◌≡◌, refl}
use mathlib.Core.Bool.{true}
use mathlib.Core.List.{List, [], ◌∷◌, ◌++◌, map}
use lib.ListN.{replicate}
use Rattle.tag.specs.Tag.{key}
use Rattle.protocol.specs.Server.{fresh_server}
use Rattle.protocol.specs.Parties.{with_server}
use Rattle.protocol.specs.Rig as rig
use Rattle.protocol.specs.Board.{Call, nothing_ended, read_by, refused, written_by}
use Rattle.protocol.proofs.Evaluate.{answers_to}
use Rattle.protocol.proofs.Example.{config, decode, encode}

abbrev call : ℕ → ℕ → Call ℕ
call code party = record { code = code; party = party; position = 0; board = 0 }

-- messages are handed over, at these positions
abbrev hands_over : List ℕ → List (Call ℕ)
hands_over positions = map (λ i. record { code = 3; party = 0; position = i; board = 0 }) positions

-- client 1 writes 17 at servers 1 and 2; server 1 crashes
abbrev written : List (Call ℕ)
written =
    record { code = 1; party = 1; position = 0; board = 17 }
    ∷ hands_over (0 ∷ 0 ∷ 1 ∷ 1 ∷ 1 ∷ 1 ∷ 2 ∷ 2 ∷ 2 ∷ 2 ∷ 3 ∷ 3 ∷ [])
    ++ call 6 1
    ∷ []

-- client 2 reads from servers 1 and 3; server 3 got nothing of the write
abbrev reads : List (Call ℕ)
reads = call 2 2 ∷ hands_over (3 ∷ 4 ∷ 4 ∷ 4 ∷ 4 ∷ 5 ∷ 5 ∷ 5 ∷ [])

-- server 1 comes back, and has what it had: the read shows what was written
pub restarted : answers_to (key config) encode decode config (λ v. true) 64 0 (written ++ call 8 1 ∷ reads)
    ≡ replicate 12 nothing_ended
    ++ written_by 1 (record { number = 1; client = 1 })
    ∷ replicate 10 nothing_ended
    ++ read_by 2 (record { number = 1; client = 1 }) 17
    ∷ []
unfolding answers_to
restarted = refl

-- the rig that calls leave
pub left_by : rig.Rig ℕ ℕ → List (Call ℕ) → rig.Rig ℕ ℕ
left_by r [] = r
left_by r (a ∷ later) = left_by (rig.event (key config) encode decode config (λ v. true) 64 r a).rig later

-- server 1 as at first
abbrev afresh : rig.Rig ℕ ℕ → rig.Rig ℕ ℕ
afresh r = record { parties = with_server r.parties 1 (fresh_server (encode 0 1)); in_flight = r.in_flight }

-- if it came back afresh, the read would show the starting board, though 17 was written before it began
pub fresh_instead : map (λ x. x.answer)
    (rig.run (key config) encode decode config (λ v. true) 64 (afresh (left_by (rig.fresh_rig config encode 0) (written ++ call 8 1 ∷ []))) reads)
    ≡ replicate 8 nothing_ended
    ++ read_by 2 (record { number = 0; client = 0 }) 0
    ∷ []
unfolding answers_to left_by
fresh_instead = refl

-- Questions 7 to 9 of event 8, each the first that is answered with no: the server is up; there is no server 4 and no server 0; server 1 crashes, and
-- comes back once; a client does not come back; there is no event 9.
pub refusals : answers_to (key config) encode decode config (λ v. true) 64 0
    (call 8 1 ∷ call 8 4 ∷ call 8 0 ∷ call 6 1 ∷ call 6 1 ∷ call 8 1 ∷ call 8 1 ∷ call 6 1 ∷ call 7 2 ∷ call 8 2 ∷ call 2 2 ∷ call 9 1 ∷ [])
    ≡ refused 9
    ∷ refused 8
    ∷ refused 8
    ∷ nothing_ended
    ∷ refused 9
    ∷ nothing_ended
    ∷ refused 9
    ∷ nothing_ended
    ∷ nothing_ended
    ∷ refused 9
    ∷ refused 9
    ∷ refused 7
    ∷ []
unfolding answers_to
refusals = refl

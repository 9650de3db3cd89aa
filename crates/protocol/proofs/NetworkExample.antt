-- Two boards over one network, evaluated in the model: N 3, k 1, D 0, E 1, C 2, M 8, shares 3 and 3, boards of one byte, as in the example. Two
-- messages beyond the shares may be in flight.
use Prim.Native.Nat.{ℕ, zero, suc}
use mathlib.Core.Path.{◌≡◌, refl}
use mathlib.Core.Bool.{true}
use mathlib.Core.List.{List, [], ◌∷◌, ◌++◌, map}
use lib.ListN.{replicate}
use Rattle.laws.specs.Below
use Rattle.laws.specs.Lists
use Rattle.laws.specs.Owners
use Rattle.config.specs.declared.Room.{Room}
use Rattle.config.specs.Room as room
use Rattle.tag.specs.Tag.{key}
use Rattle.protocol.specs.Agree as agreement
use Rattle.protocol.specs.Agree.{answers_of, calls_for}
use Rattle.protocol.specs.Board.{Answer, Call, Event, nothing_ended, read_by, refused, written_by}
use Rattle.protocol.specs.Network
use Rattle.protocol.specs.Network.{On, fresh_network, network_run}
use Rattle.protocol.proofs.Evaluate.{answers_to}
use Rattle.protocol.proofs.Example.{config, decode, encode}

abbrev shared : Room
shared = record { m = 8; boards = 2; shares = 3 ∷ 3 ∷ replicate 6 0 }

-- the events of a list of calls, from a fresh network with starting boards 0
unfoldable pub events_in : Room → List (On (Call ℕ)) → List (On (Event ℕ))
unfolding answers_to Below.sum_below Lists.without Owners.own Owners.count_of Owners.place_of room.shares_sum room.beyond room.fits_room Network.names_board Network.board_exists Network.asked_board Network.owners_kept Network.owners_after Network.is_of Network.events_of Network.rig_of Network.among_all Network.placed Network.no_parties Network.fresh_network Network.on_each Network.turned_on_each Network.turned_on Network.network_to11 Network.unless_refused Network.board_move Network.network_move Network.network_move_of Network.network_from7 Network.network_questions Network.network_event Network.network_run agreement.is_on_every_board agreement.concerns agreement.calls_for agreement.answers_of
events_in r calls = network_run (key config) encode decode config (λ v. true) r (fresh_network config r encode (λ b. 0)) calls

-- an event: code, party, position, board
abbrev on : ℕ → ℕ → ℕ → ℕ → On (Call ℕ)
on code party position board = record { board = board; it = record { code = code; party = party; position = position; board = 0 } }

-- Client 1 reads board 1, and client 2 may not: three messages beyond the share. The same on board 2. One of board 1's is doubled and one of board
-- 2's, and no more. Position 4 is not there on board 2; the message at 3 is lost, and one of board 1's can be doubled. There is no board 3. An
-- unknown event and a crash name no board; a write to board 0 does.
abbrev calls : List (On (Call ℕ))
calls =
    on 2 1 0 1 ∷
    on 2 2 0 1 ∷
    on 2 1 0 2 ∷
    on 2 2 0 2 ∷
    on 5 0 0 1 ∷
    on 5 0 0 2 ∷
    on 5 0 0 1 ∷
    on 4 0 4 2 ∷
    on 4 0 3 2 ∷ on 5 0 0 1 ∷ on 2 1 0 3 ∷ on 11 0 0 9 ∷ on 6 4 0 9 ∷ on 6 3 0 9 ∷ on 1 1 0 0 ∷ []

abbrev answers : List (Answer ℕ)
answers =
    nothing_ended ∷
    refused 13 ∷
    nothing_ended ∷
    refused 13 ∷
    nothing_ended ∷
    nothing_ended ∷
    refused 13 ∷
    refused 8 ∷
    nothing_ended ∷ nothing_ended ∷ refused 22 ∷ refused 7 ∷ refused 8 ∷ nothing_ended ∷ refused 22 ∷ []

pub example : map (λ x. x.it.answer) (events_in shared calls) ≡ answers
unfolding events_in
example = refl

-- ---- 13 tells of other boards

-- client 1 reads board 1, and a message of it is doubled; without, and with two messages of board 2 beyond its share
abbrev quiet : List (On (Call ℕ))
quiet = on 2 1 0 1 ∷ on 5 0 0 1 ∷ []

abbrev crowded : List (On (Call ℕ))
crowded = on 2 1 0 2 ∷ on 5 0 0 2 ∷ on 5 0 0 2 ∷ quiet

-- the same calls for board 1, and other answers: agreement asks that the board meets no 13
pub thirteen_tells : (calls_for 1 quiet ≡ calls_for 1 crowded)
    × (answers_of 1 (events_in shared quiet) ≡ nothing_ended ∷ nothing_ended ∷ [])
    × (answers_of 1 (events_in shared crowded) ≡ nothing_ended ∷ refused 13 ∷ [])
unfolding events_in
thirteen_tells = (refl, refl, refl)

-- ---- one operation open on each board

-- Client 1 begins to write 7 to board 1 and to read board 2; then what is first in flight is handed over, of the one board and of the other in
-- turn.
abbrev both : ℕ → List (On (Call ℕ))
both zero = []
both (suc n) = on 3 0 0 1 ∷ on 3 0 0 2 ∷ both n

abbrev open_on_both : List (On (Call ℕ))
open_on_both = record { board = 1; it = record { code = 1; party = 1; position = 0; board = 7 } } ∷ on 2 1 0 2 ∷ both 18

abbrev roomy : Room
roomy = record { m = 64; boards = 2; shares = 3 ∷ 3 ∷ replicate 6 0 }

pub one_on_each : (answers_of 1 (events_in roomy open_on_both)
    ≡ replicate 17 nothing_ended ++ written_by 1 (record { number = 1; client = 1 }) ∷ nothing_ended ∷ [])
    × (answers_of 2 (events_in roomy open_on_both)
    ≡ replicate 11 nothing_ended ++ read_by 1 (record { number = 0; client = 0 }) 0 ∷ nothing_ended ∷ replicate 6 (refused 8))
unfolding events_in
one_on_each = (refl, refl)

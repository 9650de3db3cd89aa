-- How many messages an event leaves in flight: at most M. Assumes nothing.
use Prim.Native.Nat.{ℕ, ◌≤◌}
use mathlib.Core.Path.{◌≡◌, refl}
use mathlib.Core.Bool.{Bool, true, false, cond}
use mathlib.Core.Option.{Option, none, some}
use mathlib.Core.List.{List, [], ◌∷◌, ◌++◌}
use native.Mathlib.Omega.{arith}
use borrow.Author.Tests.{eqb-true, leb-true}
use lib.Dec.{eqb}
use lib.ListN.{length}
use Rattle.config.specs.declared.Config.{Config}
use Rattle.config.specs.Questions.{ask, first_no, numbered}
use Rattle.config.proofs.Questions.{none_rest, yes_next}
use Rattle.tag.specs.declared.Tag.{Tag}
use Rattle.protocol.specs.Board.{Call, refused}
use Rattle.protocol.specs.Client.{begin_questions}
use Rattle.protocol.specs.Parties.{questions_to_begin, questions_to_crash_client, questions_to_crash_server, questions_to_restart_server}
use Rattle.protocol.specs.Rig.{Rig, Code, begin_write, begin_read, handOver, lose, double, crash_server, crash_client, restart_server, code_of, event, has_room, move, move_of, position_questions, questions, questions_after6, questions_to11, unless_no, write_fits}

-- the questions 8 to 11 have questions' numbers
pub numbered_to_11 : {Value Element : Type 0} (cfg : Config) (r : Rig Value Element) (a : Call Value) (w : Code) → numbered (questions_to11 cfg r a w) ≡ true
unfolding numbered questions_to11 questions_to_begin begin_questions questions_to_crash_server questions_to_crash_client questions_to_restart_server position_questions
numbered_to_11 cfg r a begin_write = refl
numbered_to_11 cfg r a begin_read = refl
numbered_to_11 cfg r a handOver = refl
numbered_to_11 cfg r a lose = refl
numbered_to_11 cfg r a double = refl
numbered_to_11 cfg r a crash_server = refl
numbered_to_11 cfg r a crash_client = refl
numbered_to_11 cfg r a restart_server = refl

module _ {Value Element : Type 0} (key : Tag → ℕ) (encode : Value → ℕ → Element) (decode : List (ℕ × Element) → Value) (cfg : Config) (fits : Value → Bool)
    (most : ℕ) (r : Rig Value Element) (a : Call Value) (few : length r.in_flight ≤ most)
  where
    abbrev asked : Option Code → ℕ
    asked w = first_no (questions_after6 key encode decode cfg fits most r a true w)

    by_number : (w : Option Code) (b : Bool) → eqb (asked w) 0 ≡ b
        → length (cond b (move_of key encode decode cfg r a w) (record { rig = r; answer = refused (asked w) })).rig.in_flight ≤ most
    unfolding questions move_of write_fits first_no has_room
    by_number w false e = few
    by_number none true e = absurd (omega (arith, eqb-true 7 0 e))
    by_number (some w) true e =
        let left = move key encode decode cfg r a w in
        let room = ask 13 (has_room most left) ∷ [] in
        let fit = yes_next 19 (write_fits fits a (some w)) (questions key encode decode cfg most r a true (some w)) (omega arith) (eqb-true _ 0 e) in
        let seven = yes_next 7 true (questions_to11 cfg r a w ++ ask 12 true ∷ room) (omega arith) fit.1 in
        let twelve = none_rest (questions_to11 cfg r a w) (ask 12 true ∷ room) (numbered_to_11 cfg r a w) seven.1 in
        let thirteen = (yes_next 13 (has_room most left) [] (omega arith) (yes_next 12 true room (omega arith) twelve).1).0 in
        leb-true (length left.rig.in_flight) most thirteen

    pub event_few : length (event key encode decode cfg fits most r a).rig.in_flight ≤ most
    unfolding event unless_no
    event_few = by_number (code_of a.code) (eqb (asked (code_of a.code)) 0) refl

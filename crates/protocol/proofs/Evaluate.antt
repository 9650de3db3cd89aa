-- The answers of the model to a list of calls, and the history of a list of events, evaluated: whoever unfolds `answers_to` unfolds the model, and
-- whoever unfolds `computed` the history.
use Prim.Native.Nat.{ℕ}
use mathlib.Core.Bool.{Bool}
use mathlib.Core.List.{List, map}
use Rattle.config.specs.declared.Config.{Config}
use Rattle.config.specs.Config.{rank}
use Rattle.config.specs.Questions
use Rattle.tag.specs.declared.Tag.{Tag}
use Rattle.tag.specs.Tag.{key}
use Rattle.protocol.specs.Board
use Rattle.protocol.specs.Board.{Call, Answer, Event, Operation}
use Rattle.protocol.specs.Number
use Rattle.protocol.specs.Tags
use Rattle.protocol.specs.Server
use Rattle.protocol.specs.Client
use Rattle.protocol.specs.Parties
use Rattle.protocol.specs.Rig

-- from the fresh rig of a starting board, with M the most that may be in flight
unfoldable pub answers_to : {Value Element : Type 0} → (Tag → ℕ) → (Value → ℕ → Element) → (List (ℕ × Element) → Value) → Config → (Value → Bool) → ℕ → Value
    → List (Call Value) → List (Answer Value)
unfolding Number.upd Number.count Number.to_each Number.to_list Number.pair_of Number.present Tags.higher Tags.lower Server.fresh_server Server.no_server Server.is_stored Server.element_of Server.at_or_below_floor Server.smallest Server.in_place_of Server.others Server.drop_smallest Server.add_last Server.store Server.store_element Server.finalised Server.answer_to Server.query Server.pre_write Server.write_finalise Server.read_answer Server.read_finalise Server.server_step_of Server.server_step Client.send_each Client.is_first Client.enough Client.enough_to_read Client.next_tag Client.fresh_client Client.is_idle Client.is_up Client.begin_questions Client.begin_client Client.awaits Client.awaited Client.counting Client.counted Client.stays Client.ends Client.send_pre_writes Client.send_read_finalises Client.asked Client.send_write_finalises Client.end_read Client.settling Client.settle Client.ask_again Client.receives Client.client_step Questions.first_no Parties.answer_of Parties.fresh_parties Parties.with_server Parties.with_client Parties.quiet Parties.server_acts Parties.client_acts Parties.begin Parties.crash_server Parties.crash_client Parties.restart_server Parties.questions_to_begin Parties.questions_to_crash_server Parties.questions_to_crash_client Parties.questions_to_restart_server Parties.deliver Rig.code_of Rig.without Rig.doubled Rig.position_questions Rig.fresh_rig Rig.leaves Rig.questions_to11 Rig.has_room Rig.unless_no Rig.deliver_at Rig.move Rig.move_of Rig.questions Rig.write_fits Rig.event Rig.run key rank
answers_to order encode decode cfg fits most start calls =
    map (λ x. x.answer) (Rig.run order encode decode cfg fits most (Rig.fresh_rig cfg encode start) calls)

-- the history, and what an operation of it may, must and shows
unfoldable pub computed : {Value : Type 0} → List (Event Value) → ℕ → Operation Value
unfolding Board.history Board.operation_of Board.end_of Board.end_at Board.begun_by Board.first_naming Board.names Board.is_accepted Board.write_of Board.read_of Board.ended_write Board.ended_read Board.MustStand Board.MayStand Board.EndedBefore Board.ShowsState Board.after
computed = Board.history

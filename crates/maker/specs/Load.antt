-- Document 02, L3, "A load we can quote": what is drawn for a record, the record's bytes, and the records of a count and a seed.
use Rattle.std.specs.Prelude.{ℕ, zero, suc, ◌+◌, ◌%◌, cond, List, [], ◌∷◌, ◌++◌, map, eqb, length}
use Rattle.laws.specs.Bytes.{joined}
use Rattle.record.specs.Record.{two_bytes}
use Rattle.protocol.specs.Boards.{BoardCall, BoardRig, event, fresh_rig, starting_board}
use Rattle.events.specs.declared.Call.{Call}
use Rattle.events.specs.Calls.{called}
use Rattle.lines.specs.Program.{program, program_messages, program_start}
use Rattle.draws.specs.Draws.{draw}

-- What is drawn for a record: its event as it is called, its board byte, and the last draw, after which the next record's draws come.
pub record Drawn : Type 0 where
  pub call : Call
  pub byte : ℕ
  pub last : ℕ

-- "Event code is the draw modulo 5, plus 1."
abbrev pub code_by : ℕ → ℕ
code_by x = x % 5 + 1

-- "The next draw gives the party, modulo 2, plus 1, for codes 1 and 2."
abbrev pub party_by : ℕ → ℕ
party_by x = x % 2 + 1

-- "For codes 3, 4 and 5 it gives the position, modulo the number the rig has in flight after the records made so far; if none, the draw is
-- taken and the position is 0."
abbrev pub position_by : ℕ → ℕ → ℕ
position_by in_flight x = cond (eqb in_flight 0) 0 (x % in_flight)

-- "A write takes one more draw, modulo 256, as its board byte and has length 1. Unused fields are 0." Here x is the draw that gives the
-- party.
abbrev pub write_by : ℕ → Drawn
write_by x = record { call = record { code = 1; party = party_by x; position = 0; length = 1 }; byte = draw x % 256; last = draw x }

abbrev pub read_by : ℕ → Drawn
read_by x = record { call = record { code = 2; party = party_by x; position = 0; length = 0 }; byte = 0; last = x }

-- codes 3, 4 and 5
abbrev pub message_by : ℕ → ℕ → ℕ → Drawn
message_by code in_flight x = record { call = record { code = code; party = 0; position = position_by in_flight x; length = 0 }; byte = 0; last = x }

-- by the code and the draw after it
abbrev pub drawn_by : ℕ → ℕ → ℕ → Drawn
drawn_by code in_flight x = cond (eqb code 1) (write_by x) (cond (eqb code 2) (read_by x) (message_by code in_flight x))

-- what is drawn after a draw, or after the seed, with so many in flight
unfoldable pub drawn : ℕ → ℕ → Drawn
drawn last in_flight = let first = draw last in drawn_by (code_by first) in_flight (draw first)

-- its record: "code, party (0 if unused), position (2 bytes), board byte", and "two bytes of length at the end"
abbrev pub event_record : Drawn → List ℕ
event_record d = d.call.code ∷ d.call.party ∷ two_bytes d.call.position ++ d.byte ∷ two_bytes d.call.length

-- its call, as the program has it
abbrev pub call_of : Drawn → BoardCall
call_of d = called d.call (d.byte ∷ [])

-- the program's rig, before its first event
abbrev pub fresh : BoardRig
fresh = fresh_rig program (starting_board program program_start)

-- What is drawn for n records, from a rig, after a draw or the seed. Each record is an event of the rig, which the next one's draws see: "the
-- rig has in flight after the records made so far". A refused one counts as made, and leaves the rig as it was.
unfoldable pub drawn_from : ℕ → ℕ → BoardRig → List Drawn
drawn_from zero last rig = []
drawn_from (suc n) last rig =
    let d = drawn last (length rig.in_flight) in
    d ∷ drawn_from n d.last (event program program_messages rig (call_of d)).rig

-- the records' bytes, one behind the other
abbrev pub made_from : ℕ → ℕ → BoardRig → List ℕ
made_from n last rig = joined (map event_record (drawn_from n last rig))

-- "a maker of a stated count of event records for the program .. starts from a stated seed"
abbrev pub made : ℕ → ℕ → List ℕ
made count seed = made_from count seed fresh

-- the calls that the records are
abbrev pub calls_from : ℕ → ℕ → BoardRig → List BoardCall
calls_from n last rig = map call_of (drawn_from n last rig)

abbrev pub calls : ℕ → ℕ → List BoardCall
calls count seed = calls_from count seed fresh

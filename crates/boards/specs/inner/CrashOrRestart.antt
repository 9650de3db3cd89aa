-- A crash, or a restart, on every board.
use Rattle.std.specs.Prelude.{ℕ, ◌≤◌, ◌<◌, ◌≡◌, List, length}
use Rattle.std.proofs.Math.Option.{some}
use Rattle.std.proofs.Math.ListN.{get_elem?}
use Rattle.config.specs.declared.Config.{Config}
use Rattle.config.specs.declared.Room.{Room}
use Rattle.events.specs.declared.Turn.{Turn as OneTurn}
use Rattle.events.specs.declared.Call as one
use Rattle.rig.specs.Calls.{AlonePost}
use Rattle.boards.specs.declared.Call.{Call}
use Rattle.boards.specs.declared.OneBoard.{OneBoard}
use Rattle.boards.specs.declared.Rig.{Rig}
use Rattle.boards.specs.declared.Turn.{Turn}
use Rattle.boards.specs.View.{board_by, rig_at}

-- the board in place i has had the event
pub record TurnedAt (cfg : Config) (m : ℕ) (r : Rig) (a : one.Call) (boards : List OneBoard) (i : ℕ) : Type 0 where
  pub turn : OneTurn
  pub turned : AlonePost cfg m (rig_at r i) a turn
  pub is : get_elem? boards i ≡ some (board_by turn.rig)

-- the event as one board has it
abbrev pub as_one : Call → one.Call
as_one a = record { code = a.code; party = a.party; position = 0; length = 0 }

-- every board has; the answer is the first one's
pub record AllPost (cfg : Config) (room : Room) (r : Rig) (a : Call) (t : Turn) : Type 0 where
  pub first : OneTurn
  pub answers : AlonePost cfg room.m (rig_at r 0) (as_one a) first
  pub answer : t.answer ≡ first.answer
  pub each : (i : ℕ) → i < room.boards → TurnedAt cfg room.m r (as_one a) t.rig.boards i
  -- the places past the boards stay
  pub rest : (i : ℕ) → room.boards ≤ i → get_elem? t.rig.boards i ≡ get_elem? r.boards i
  pub long : length t.rig.boards ≡ length r.boards
  pub count : t.rig.count ≡ r.count

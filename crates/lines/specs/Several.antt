-- One event of several boards: the record at a place is run, and its line is written behind what is in use of the output.
use Rattle.std.specs.Prelude.{◌≡◌, ℕ, ◌+◌, Bool, true, false, ◌&&◌, List, length, nat_le}
use Rattle.config.specs.declared.Config.{Config}
use Rattle.config.specs.declared.Room.{Room}
use Rattle.config.specs.Lengths.{lengths_of}
use Rattle.parties.specs.Acts.{answer_of}
use Rattle.boards.specs.declared.Call.{Call}
use Rattle.boards.specs.declared.Rig.{Rig}
use Rattle.boards.specs.declared.Turn.{Turn}
use Rattle.boards.specs.Calls.{EventPost, called}
use Rattle.boards.specs.View.{Lent}
use Rattle.lines.specs.declared.several.Said.{Said}
use Rattle.lines.specs.Block.{line_room}
use Rattle.lines.specs.Event.{bytes_on_at, call_on_at, event_on_length}
use Rattle.lines.specs.Line.{line_of}
use Rattle.lines.specs.Text.{Appended}

-- the bytes of a board; 0 where the configuration is refused
abbrev pub board_bytes : Config → Room → ℕ
board_bytes cfg room = (lengths_of cfg room.m).board

-- a whole record stands at the place, and there is room for a line
abbrev pub can_say : Config → Room → ℕ → List ℕ → ℕ → List ℕ → Bool
can_say cfg room at input used out =
    nat_le (at + event_on_length (board_bytes cfg room)) (length input) && nat_le (used + line_room (board_bytes cfg room)) (length out)

-- The record's event is run on the rig, with some bytes lent for a read, and its line says the answer.
pub record Line (cfg : Config) (room : Room) (rig : Rig) (l : Lent) (count at : ℕ) (input : List ℕ) (used : ℕ) (out : List ℕ) (r : Said) (l' : Lent) (out' : List ℕ) : Type 0 where
  pub call : Call
  pub board : List ℕ
  pub read : List ℕ
  pub read' : List ℕ
  pub turn : Turn
  pub calls : called call board ≡ call_on_at (board_bytes cfg room) at input
  pub handed : board ≡ bytes_on_at (board_bytes cfg room) at input
  pub reads : length read ≡ board_bytes cfg room
  pub turned : EventPost cfg room rig (called call board) read l turn read' l'
  pub left : r.rig ≡ turn.rig
  pub says : Appended out used (line_of count (answer_of turn.answer read')) out' r.used

-- A record's event and its line, or all as it was.
pub record SaidPost (cfg : Config) (room : Room) (rig : Rig) (l : Lent) (count at : ℕ) (input : List ℕ) (used : ℕ) (out : List ℕ) (r : Said) (l' : Lent) (out' : List ℕ) : Type 0 where
  pub said : can_say cfg room at input used out ≡ true → Line cfg room rig l count at input used out r l' out'
  pub held : can_say cfg room at input used out ≡ false → (r.rig ≡ rig) × (r.used ≡ used) × (l' ≡ l) × (out' ≡ out)

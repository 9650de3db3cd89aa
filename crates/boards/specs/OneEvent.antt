-- One event, of any call and with any buffer lent for a read, from any rig of several boards and its buffers to those that it leaves. Lists of them go on
-- from a rig (`GoesOn`, protocol: specs/GoesOn).
use Rattle.std.specs.Prelude.{◌≡◌, List, ℕ}
use Rattle.config.specs.declared.Config.{Config}
use Rattle.config.specs.declared.Room.{Room}
use Rattle.protocol.specs.Boards.{BoardEvent}
use Rattle.protocol.specs.Network.{On}
use Rattle.parties.specs.Acts.{answer_of}
use Rattle.boards.specs.declared.Rig.{Rig}
use Rattle.boards.specs.declared.Turn.{Turn}
use Rattle.boards.specs.View.{Lent}
use Rattle.boards.specs.Calls.{EventPost}

pub record OneEvent (cfg : Config) (room : Room) (x : Rig × Lent) (e : On BoardEvent) (y : Rig × Lent) : Type 0 where
  -- the buffer lent for a read, and what it holds then
  pub read : List ℕ
  pub after : List ℕ
  pub turn : Turn
  pub event : EventPost cfg room x.0 (record { board = e.board; it = e.it.call }) read x.1 turn after y.1
  pub rig : y.0 ≡ turn.rig
  pub answer : e.it.answer ≡ answer_of turn.answer after

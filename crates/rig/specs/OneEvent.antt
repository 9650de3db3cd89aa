-- One event, of any call and with any buffer lent for a read, from any rig and its buffers to those that it leaves. Lists of them go on from a rig
-- (`GoesOn`, protocol: specs/GoesOn).
use Rattle.std.specs.Prelude.{ℕ, ◌≡◌, List}
use Rattle.config.specs.declared.Config.{Config}
use Rattle.protocol.specs.Boards.{BoardEvent}
use Rattle.parties.specs.Acts.{answer_of}
use Rattle.events.specs.declared.Rig.{Rig}
use Rattle.events.specs.declared.Turn.{Turn}
use Rattle.events.specs.View.{Lent}
use Rattle.events.specs.Calls.{EventPost}

pub record OneEvent (cfg : Config) (m : ℕ) (x : Rig × Lent) (e : BoardEvent) (y : Rig × Lent) : Type 0 where
  -- the buffer lent for a read, and what it holds then
  pub read : List ℕ
  pub after : List ℕ
  pub turn : Turn
  pub event : EventPost cfg m x.0 e.call read x.1 turn after y.1
  pub rig : y.0 ≡ turn.rig
  pub answer : e.answer ≡ answer_of turn.answer after

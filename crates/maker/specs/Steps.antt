-- The steps by which records are made: each draws from a generator and a rig, and its record is an event of the rig.
use Rattle.std.specs.Prelude.{ℕ, suc, ◌+◌, ◌≡◌, List, [], ◌++◌, length}
use Rattle.config.specs.Config.{board_length}
use Rattle.protocol.specs.Boards.{BoardEvent}
use Rattle.events.specs.declared.Rig.{Rig}
use Rattle.events.specs.declared.Turn.{Turn}
use Rattle.events.specs.View.{Lent, view}
use Rattle.events.specs.Calls.{EventPost}
use Rattle.rig.specs.Runs.{Runs}
use Rattle.lines.specs.Program.{program, program_messages, program_start}
use Rattle.maker.specs.declared.Load.{Load}
use Rattle.maker.specs.Load.{Drawn, call_of, drawn, made_from, event_record}

-- what is drawn of a load, with the buffers lent to its rig
abbrev pub drawn_of : Load → Lent → Drawn
drawn_of x l = drawn x.generator.0 (length (view program x.rig l).in_flight)

-- One step, with its record's bytes: from a load and its buffers to those that are left.
pub record Step (x : Load) (l : Lent) (bytes : List ℕ) (x' : Load) (l' : Lent) : Type 0 where
  pub record_is : bytes ≡ event_record (drawn_of x l)
  pub last : x'.generator.0 ≡ (drawn_of x l).last
  -- the record is an event of the rig, refused or not
  pub turn : Turn
  pub read : List ℕ
  pub read' : List ℕ
  pub lent : length read ≡ board_length program
  pub event : EventPost program program_messages x.rig (call_of (drawn_of x l)) read l turn read' l'
  pub left : x'.rig ≡ turn.rig

-- so many steps one after the other, with the bytes of their records
pub data Steps (x : Load) (l : Lent) : ℕ → List ℕ → Load → Lent → Type 0 where
  none : Steps x l 0 [] x l
  next : {n : ℕ} {bytes more : List ℕ} {y z : Load} {k j : Lent} → Steps x l n bytes y k → Step y k more z j → Steps x l (suc n) (bytes ++ more) z j

-- a rig of the program that some list of events came to, with its buffers
pub record Along (r : Rig) (l : Lent) : Type 0 where
  pub events : List BoardEvent
  pub runs : Runs program program_messages program_start r l events

-- So many records are made, from a load to another: their bytes and those of any that are made later are the records of the definition, one
-- behind the other.
pub record MadeSo (x : Load) (l : Lent) (n : ℕ) (bytes : List ℕ) (x' : Load) (l' : Lent) : Type 0 where
  pub along : Along x'.rig l'
  pub all : (more : ℕ)
      → made_from (n + more) x.generator.0 (view program x.rig l) ≡ bytes ++ made_from more x'.generator.0 (view program x'.rig l')

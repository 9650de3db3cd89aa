-- An event of a part: what its functions ask of the part and of the lent buffers, and what they give.
use Rattle.std.specs.Prelude.{ℕ, ◌*◌, ◌≤◌, ◌<◌, ◌≡◌, ◌&&◌, List, [], ◌∷◌, ◌++◌, length}
use Rattle.config.specs.declared.Config.{Config}
use Rattle.config.specs.Config.{Valid, board_length, most_messages, record_length, rig_questions, store_length}
use Rattle.config.specs.Questions.{ask, first_no}
use Rattle.protocol.specs.Boards.{BoardCall}
use Rattle.events.specs.declared.Call.{Call}
use Rattle.events.specs.declared.Change.{Change}
use Rattle.events.specs.declared.Part.{Part}
use Rattle.events.specs.declared.Rig.{Rig}
use Rattle.events.specs.View.{Lent, lent}
use Rattle.events.specs.Questions.{all_sized, rig_within}
use Rattle.events.specs.Calls.{EventPost, PartOf, called, turned}
use Rattle.events.specs.inner.Part.{Names}

-- the first of questions 1 to 6 and 21 of a rig's event that is answered no, or 0
abbrev pub first_six : Config → ℕ → Rig → BoardCall → List ℕ → Lent → ℕ
first_six cfg m r a read l = first_no (rig_questions cfg m ++ ask 6 (all_sized cfg m a.board.bytes read l && rig_within cfg m r) ∷ [])

-- An event of a rig, by the part of it that the event names: questions 1 to 6 and 21 are answered yes.
pub record Ready (cfg : Config) (m : ℕ) (r : Rig) (p : Part) (a : Call) (board read : List ℕ) (l : Lent) : Type 0 where
  pub part : PartOf r p
  pub names : Names cfg p a l.messages
  pub yes : first_six cfg m r (called a board) read l ≡ 0

-- What those questions show of a part: its places are in use, and all records in flight stand in the messages.
pub record PartPre (cfg : Config) (p : Part) (messages : List ℕ) : Type 0 where
  pub valid : Valid cfg
  pub few : p.count ≤ most_messages
  pub server : p.server < cfg.n
  pub client : p.client < cfg.c
  pub fits : record_length * p.count ≤ length messages

-- and of the lent buffers: each has its length
pub record TurnPre (cfg : Config) (m : ℕ) (p : Part) (l : Lent) : Type 0 where
  pub part : PartPre cfg p l.messages
  pub messages : length l.messages ≡ record_length * m
  pub stores : length l.stores ≡ cfg.n * store_length cfg
  pub boards : length l.boards ≡ cfg.c * board_length cfg
  pub elements : length l.elements ≡ cfg.c * (cfg.n * cfg.e)

-- What is left of a part: its places stay, and of every rig that it is of, where questions 1 to 6 and 21 are answered yes, the event is the
-- protocol's.
pub record TurnPost (cfg : Config) (m : ℕ) (p : Part) (a : Call) (board read : List ℕ) (l : Lent) (x : Change) (read' : List ℕ) (l' : Lent) : Type 0 where
  pub server : x.part.server ≡ p.server
  pub client : x.part.client ≡ p.client
  pub event : (r : Rig) → Ready cfg m r p a board read l → EventPost cfg m r (called a board) read l (turned r x) read' l'

-- An event of another code than 3 asks of the messages and the boards alone, and leaves the other buffers.
pub record OtherPre (cfg : Config) (m : ℕ) (p : Part) (a : Call) (messages boards : List ℕ) : Type 0 where
  pub part : PartPre cfg p messages
  pub messages_long : length messages ≡ record_length * m
  pub boards_long : length boards ≡ cfg.c * board_length cfg
  pub code : a.code ≡ 3 → ⊥

abbrev pub OtherPost : Config → ℕ → Part → Call → List ℕ → List ℕ → List ℕ → Change → List ℕ → List ℕ → Type 0
OtherPost cfg m p a board messages boards x messages' boards' =
    (read stores elements : List ℕ) → TurnPost cfg m p a board read (lent messages stores boards elements) x read (lent messages' stores boards' elements)

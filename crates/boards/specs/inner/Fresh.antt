-- Making every board.
use Rattle.std.specs.Prelude.{ℕ, ◌*◌, ◌<◌, true, ◌≡◌, List, length}
use Rattle.laws.specs.Parts.{over, part}
use Rattle.config.specs.declared.Config.{Config}
use Rattle.config.specs.declared.Room.{Room}
use Rattle.config.specs.Config.{board_length, elements_length, record_length, store_length}
use Rattle.protocol.specs.Boards.{fresh_parties, starting_board}
use Rattle.rig.specs.declared.Made.{Made as OneMade}
use Rattle.rig.specs.Calls.{MakePost as OneMakePost}
use Rattle.events.specs.declared.Rig.{Rig as OneRig}
use Rattle.events.specs.View.{Lent as OneLent, lent as one_lent, parties_of}
use Rattle.events.specs.Questions.{parties_within}
use Rattle.boards.specs.declared.Rig.{Rig}
use Rattle.boards.specs.View.{rig_at}
use Rattle.boards.specs.inner.Questions.{Accepted}

-- the starting boards and the buffers have their lengths
pub record FreshPre (cfg : Config) (room : Room) (start : List ℕ) (l : OneLent) : Type 0 where
  pub accepted : Accepted cfg room
  pub start_long : length start ≡ room.boards * board_length cfg
  pub messages : length l.messages ≡ record_length * room.m
  pub stores : length l.stores ≡ room.boards * (cfg.n * store_length cfg)
  pub boards : length l.boards ≡ room.boards * (cfg.c * board_length cfg)
  pub elements : length l.elements ≡ room.boards * (cfg.c * elements_length cfg)

-- and there is such a place
pub record OneFreshPre (cfg : Config) (room : Room) (i : ℕ) (start : List ℕ) (l : OneLent) : Type 0 where
  pub pre : FreshPre cfg room start l
  pub place : i < room.boards

-- the parts of the board in place i
abbrev pub parts_at : Config → ℕ → OneLent → OneLent
parts_at cfg i l =
    one_lent l.messages (part (cfg.n * store_length cfg) i l.stores) (part (cfg.c * board_length cfg) i l.boards)
    (part (cfg.c * elements_length cfg) i l.elements)

-- put back
abbrev pub parts_back : Config → ℕ → OneLent → OneLent → OneLent
parts_back cfg i x l =
    one_lent x.messages (over (i * (cfg.n * store_length cfg)) (cfg.n * store_length cfg) x.stores l.stores)
    (over (i * (cfg.c * board_length cfg)) (cfg.c * board_length cfg) x.boards l.boards)
    (over (i * (cfg.c * elements_length cfg)) (cfg.c * elements_length cfg) x.elements l.elements)

-- the making of a rig of one board in them
pub record OneFreshPost (cfg : Config) (room : Room) (i : ℕ) (start : List ℕ) (l : OneLent) (x : OneRig) (l' : OneLent) : Type 0 where
  pub made : OneMade
  pub after : OneLent
  pub post : OneMakePost cfg room.m (part (board_length cfg) i start) (parts_at cfg i l) made after
  pub is : x ≡ made.rig
  pub back : l' ≡ parts_back cfg i after l

-- the parties of the board in place i are fresh, and pass
pub record FreshAt (cfg : Config) (start : List ℕ) (r : Rig) (l : OneLent) (i : ℕ) : Type 0 where
  pub seen : parties_of cfg (rig_at r i) (parts_at cfg i l) ≡ fresh_parties cfg (starting_board cfg (part (board_length cfg) i start))
  pub within : parties_within cfg (rig_at r i) ≡ true

-- every board's are
pub record FreshPost (cfg : Config) (room : Room) (start : List ℕ) (l : OneLent) (r : Rig) (l' : OneLent) : Type 0 where
  pub each : (i : ℕ) → i < room.boards → FreshAt cfg start r l' i
  pub nothing : r.count ≡ 0
  pub messages : length l'.messages ≡ length l.messages
  pub stores : length l'.stores ≡ length l.stores
  pub boards : length l'.boards ≡ length l.boards
  pub elements : length l'.elements ≡ length l.elements

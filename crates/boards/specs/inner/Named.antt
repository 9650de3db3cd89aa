-- Events 1 to 5, on the board that they name.
use Rattle.std.specs.Prelude.{ℕ, ◌-◌, ◌*◌, ◌≤◌, ◌<◌, Bool, true, false, cond, ◌&&◌, ◌≡◌, List, ◌++◌, eqb, leb, length, take, replicate}
use Rattle.laws.specs.Lists.{without}
use Rattle.laws.specs.Parts.{over, part}
use Rattle.config.specs.declared.Config.{Config}
use Rattle.config.specs.declared.Room.{Room}
use Rattle.config.specs.Config.{board_length, elements_length, record_length, store_length}
use Rattle.config.specs.Questions.{within}
use Rattle.parties.specs.Acts.{is_refusal}
use Rattle.events.specs.declared.Rig.{Rig as OneRig}
use Rattle.events.specs.declared.Turn.{Turn as OneTurn}
use Rattle.events.specs.declared.Call as one
use Rattle.events.specs.View.{Lent as OneLent, lent as one_lent}
use Rattle.events.specs.Calls.{EventPost as OneEventPost, called as one_called}
use Rattle.boards.specs.declared.Call.{Call}
use Rattle.boards.specs.declared.Rig.{Rig}
use Rattle.boards.specs.declared.Turn.{Turn}
use Rattle.boards.specs.View.{Lent}
use Rattle.boards.specs.Questions.{all_sized, rig_within}
use Rattle.boards.specs.inner.Outcome.{put_at}
use Rattle.boards.specs.inner.Questions.{Accepted}

-- ---- the buffers of one board

-- a board's part of each, and so many of the messages
abbrev pub cut_to : Config → ℕ → ℕ → OneLent → OneLent
cut_to cfg most i l =
    one_lent (take (record_length * most) l.messages) (part (cfg.n * store_length cfg) i l.stores) (part (cfg.c * board_length cfg) i l.boards)
    (part (cfg.c * elements_length cfg) i l.elements)

-- put back
abbrev pub put_back : Config → ℕ → ℕ → OneLent → OneLent → OneLent
put_back cfg most i x l =
    one_lent (over 0 (record_length * most) x.messages l.messages) (over (i * (cfg.n * store_length cfg)) (cfg.n * store_length cfg) x.stores l.stores)
    (over (i * (cfg.c * board_length cfg)) (cfg.c * board_length cfg) x.boards l.boards)
    (over (i * (cfg.c * elements_length cfg)) (cfg.c * elements_length cfg) x.elements l.elements)

-- the buffers without the messages' boards
abbrev pub bare : Lent → OneLent
bare l = one_lent l.messages l.stores l.boards l.elements

pub record LentPre (cfg : Config) (room : Room) (most i : ℕ) (l : OneLent) : Type 0 where
  pub accepted : Accepted cfg room
  pub place : i < room.boards
  pub few : most ≤ room.m
  pub messages : length l.messages ≡ record_length * room.m
  pub stores : length l.stores ≡ room.boards * (cfg.n * store_length cfg)
  pub boards : length l.boards ≡ room.boards * (cfg.c * board_length cfg)
  pub elements : length l.elements ≡ room.boards * (cfg.c * elements_length cfg)

-- the event of a rig of one board on them
pub record LentPost (cfg : Config) (most i : ℕ) (x : OneRig) (a : one.Call) (board read : List ℕ) (l : OneLent) (t : OneTurn) (read' : List ℕ) (l' : OneLent) : Type 0 where
  pub after : OneLent
  pub event : OneEventPost cfg most x (one_called a board) read (cut_to cfg most i l) t read' after
  pub back : l' ≡ put_back cfg most i after l

-- ---- the boards of the messages

-- of events 3 and 4 the message that is named leaves
abbrev pub removes : ℕ → Bool
removes code = within 3 4 code

-- those of the messages that stay
abbrev pub stay : ℕ → ℕ → List ℕ → List ℕ
stay code p os = cond (removes code) (without p os) os

-- how many stay
abbrev pub left : ℕ → ℕ → ℕ
left code count = cond (removes code) (count - 1) count

pub record LeavePre (count code p : ℕ) (owners : List ℕ) : Type 0 where
  pub few : count ≤ length owners
  pub there : removes code ≡ true → p < count

pub record LeavePost (count code p : ℕ) (owners : List ℕ) (n : ℕ) (owners' : List ℕ) : Type 0 where
  pub count_is : n ≡ left code count
  pub kept : take n owners' ≡ stay code p (take count owners)
  pub long : length owners' ≡ length owners

-- an event that is not refused leaves so many
pub record SettlePre (count p : ℕ) (a : Call) (t : OneTurn) (owners : List ℕ) : Type 0 where
  pub few : count ≤ length owners
  pub there : is_refusal t.answer ≡ false → removes a.code ≡ true → p < count
  pub more : is_refusal t.answer ≡ false → left a.code count ≤ t.rig.count
  pub room : is_refusal t.answer ≡ false → t.rig.count ≤ length owners

pub record SettlePost (r : Rig) (i : ℕ) (a : Call) (p : ℕ) (t : OneTurn) (owners : List ℕ) (u : Turn) (owners' : List ℕ) : Type 0 where
  pub answer : u.answer ≡ t.answer
  pub long : length owners' ≡ length owners
  pub held : is_refusal t.answer ≡ true → (u.rig ≡ r) × (owners' ≡ owners)
  pub rig : is_refusal t.answer ≡ false → u.rig ≡ put_at r i t.rig t.rig.count
  pub kept : is_refusal t.answer ≡ false
      → take t.rig.count owners' ≡ stay a.code p (take r.count owners) ++ replicate (t.rig.count - left a.code r.count) a.board

-- ---- the event

-- questions 1 to 6, 21 and 22 are answered yes, and the event names a board
pub record NamedPre (cfg : Config) (room : Room) (r : Rig) (a : Call) (board read : List ℕ) (l : Lent) : Type 0 where
  pub accepted : Accepted cfg room
  pub exists : within 1 room.boards a.board ≡ true
  pub code : within 1 5 a.code ≡ true
  pub sized : all_sized cfg room board read l ≡ true
  pub rig : rig_within cfg room r l.owners ≡ true

-- so many are left to the board, with those that there are; where none is, as if there were one
abbrev pub at_least_one : ℕ → ℕ
at_least_one limit = cond (eqb limit 0) 1 limit

-- and, for one that begins, as if it were taken
abbrev pub taken : ℕ → ℕ → ℕ → ℕ
taken limit code count = cond (eqb limit 0 && leb code 2) 1 count

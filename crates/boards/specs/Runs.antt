-- Lists of events of a rig of several boards, and what of a list concerns one board.
use Rattle.std.specs.Prelude.{ℕ, cond, ◌≡◌, List, [], ◌∷◌, ◌++◌, length}
use Rattle.config.specs.declared.Config.{Config}
use Rattle.config.specs.declared.Room.{Room}
use Rattle.config.specs.Refusal.{verdict_number}
use Rattle.laws.specs.Bytes.{Bytes}
use Rattle.protocol.specs.Agree.{concerns}
use Rattle.protocol.specs.Boards.{BoardCall, BoardEvent, Filled}
use Rattle.protocol.specs.Network.{On}
use Rattle.parties.specs.Acts.{answer_of}
use Rattle.boards.specs.declared.Made.{Made}
use Rattle.boards.specs.declared.Rig.{Rig}
use Rattle.boards.specs.declared.Turn.{Turn}
use Rattle.boards.specs.View.{Lent}
use Rattle.boards.specs.Calls.{EventPost, MakePost}

-- A list of events, from a making, with the rig and the buffers as its last event left them.
pub data Runs (cfg : Config) (room : Room) (start : List ℕ) : Rig → Lent → List (On BoardEvent) → Type 0 where
  -- "It starts from a fresh rig whose making got no number"
  made : {l l' : Lent} {r : Made} → Bytes start → MakePost cfg room start l r l' → verdict_number r.verdict ≡ 0
      → Runs cfg room start r.rig l' []
  -- events of any code, party, position and board named, with any board handed in and any buffer lent for a read, refused ones included. "Each
  -- event gets the rig as the one before left it, and nobody else writes it in between." A board handed in is bytes and any length: of these
  -- the code sees `board_of`, which is filled.
  event : {r : Rig} {l l' : Lent} {events : List (On BoardEvent)} {t : Turn} → Runs cfg room start r l events
      → (a : On BoardCall) → Filled a.it.board → (read read' : List ℕ) → EventPost cfg room r a read l t read' l'
      → Runs cfg room start t.rig l' (events ++ (record { board = a.board; it = record { call = a.it; answer = answer_of t.answer read' } } ∷ []))

-- "the same events for one board and the same crashes, in the same order", and the same restarts: of a list the calls that name board b, the crashes
-- and the restarts, each with the length of the buffer lent for a read. How many bytes are handed in is in the call, and of them those that count: past the length it has zeros.
unfoldable pub handed_for : {cfg : Config} {room : Room} {start : List ℕ} {r : Rig} {l : Lent} {events : List (On BoardEvent)} → ℕ
    → Runs cfg room start r l events → List (BoardCall × ℕ)
handed_for b (made bytes p e) = []
handed_for b (event runs a filled read read' p) = handed_for b runs ++ cond (concerns b a) ((a.it, length read) ∷ []) []

-- A host that calls the event of several boards with any call, board and buffer goes on with its list: a board of bytes and a length is one of those
-- that `Runs` asks for. Assumes nothing.
use Prim.Native.Nat.{ℕ}
use mathlib.Core.List.{List, [], ◌∷◌, ◌++◌}
use Rattle.laws.specs.Bytes.{Bytes}
use Rattle.config.specs.declared.Config.{Config}
use Rattle.config.specs.declared.Room.{Room}
use Rattle.protocol.specs.Boards.{BoardEvent}
use Rattle.protocol.specs.Network.{On}
use Rattle.protocol.proofs.Cut.{filled}
use Rattle.parties.specs.Acts.{answer_of}
use Rattle.boards.specs.declared.Call.{Call}
use Rattle.boards.specs.declared.Rig.{Rig}
use Rattle.boards.specs.declared.Turn.{Turn}
use Rattle.boards.specs.View.{Lent}
use Rattle.boards.specs.Calls.{EventPost, called}
use Rattle.boards.specs.Runs.{Runs, event}

pub event_on : {cfg : Config} {room : Room} {start : List ℕ} {r : Rig} {l : Lent} {events : List (On BoardEvent)} → Runs cfg room start r l events
    → (a : Call) (board : List ℕ) → Bytes board → {read read' : List ℕ} {t : Turn} {l' : Lent} → EventPost cfg room r (called a board) read l t read' l'
    → Runs cfg room start t.rig l' (events ++ (record { board = a.board; it = record { call = (called a board).it; answer = answer_of t.answer read' } } ∷ []))
event_on runs a board bytes {read} {read'} post = event runs (called a board) (filled a.length board bytes) read read' post

-- Lists of events of a rig, as document 01 has them: "History and the single board".
use Rattle.std.specs.Prelude.{ℕ, ◌≡◌, List, [], ◌∷◌, ◌++◌, map, length}
use Rattle.config.specs.declared.Config.{Config}
use Rattle.config.specs.Config.{board_length}
use Rattle.config.specs.Refusal.{verdict_number}
use Rattle.laws.specs.Bytes.{Bytes}
use Rattle.protocol.specs.Boards.{BoardCall, BoardEvent, Filled}
use Rattle.parties.specs.Acts.{answer_of}
use Rattle.rig.specs.declared.Made.{Made}
use Rattle.events.specs.declared.Rig.{Rig}
use Rattle.events.specs.declared.Turn.{Turn}
use Rattle.events.specs.View.{Lent}
use Rattle.events.specs.Calls.{EventPost}
use Rattle.rig.specs.Calls.{MakePost}

-- A list of events, from a making, with the rig and the buffers as its last event left them.
pub data Runs (cfg : Config) (m : ℕ) (start : List ℕ) : Rig → Lent → List BoardEvent → Type 0 where
  -- "It starts from a fresh rig whose making got no number"
  made : {l l' : Lent} {r : Made} → Bytes start → MakePost cfg m start l r l' → verdict_number r.verdict ≡ 0
      → Runs cfg m start r.rig l' []
  -- "events of any code, party and position, with any board handed in and any buffer lent for a read, refused ones included ..
  -- The configuration of that making holds for the whole list. Each event gets the rig as the one before left it, and nobody else
  -- writes it in between." A board handed in is bytes and any length: of these the code sees `board_of`, which is filled.
  event : {r : Rig} {l l' : Lent} {events : List BoardEvent} {t : Turn} → Runs cfg m start r l events
      → (a : BoardCall) → Filled a.board → (read read' : List ℕ) → EventPost cfg m r a read l t read' l'
      → Runs cfg m start t.rig l' (events ++ (record { call = a; answer = answer_of t.answer read' } ∷ []))

-- the calls of a list of events
abbrev pub calls_of : List BoardEvent → List BoardCall
calls_of events = map (λ x. x.call) events

-- every board handed in, and every buffer lent for a read, has V bytes
unfoldable pub Whole : {cfg : Config} {m : ℕ} {start : List ℕ} {r : Rig} {l : Lent} {events : List BoardEvent} → Runs cfg m start r l events → Type 0
Whole (made b p e) = Unit {0}
Whole {cfg = cfg} (event runs a b read read' p) = Whole runs × (length a.board.bytes ≡ board_length cfg) × (length read ≡ board_length cfg)

-- a list of events of which that is so
abbrev pub WholeRuns : (cfg : Config) (m : ℕ) (start : List ℕ) → Rig → Lent → List BoardEvent → Type 0
WholeRuns cfg m start r l events = (runs : Runs cfg m start r l events) × Whole runs

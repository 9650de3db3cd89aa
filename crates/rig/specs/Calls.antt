-- The making of a rig: what it asks, answers and leaves.
use Rattle.std.specs.Prelude.{ℕ, true, ◌&&◌, ◌≡◌, List, [], ◌∷◌, ◌++◌, eqb, length, replicate}
use Rattle.config.specs.declared.Config.{Config}
use Rattle.config.specs.Config.{board_length, rig_questions}
use Rattle.config.specs.Questions.{Question, ask, first_no}
use Rattle.config.specs.Refusal.{verdict_number}
use Rattle.protocol.specs.Boards.{fresh_rig, starting_board}
use Rattle.protocol.specs.Board.{refused as no}
use Rattle.parties.specs.Acts.{answer_of}
use Rattle.parties.specs.Fresh.{fresh_node, fresh_state}
use Rattle.events.specs.declared.Call.{Call}
use Rattle.events.specs.declared.Rig.{Rig}
use Rattle.events.specs.declared.Turn.{Turn}
use Rattle.events.specs.View.{Lent, view}
use Rattle.events.specs.Questions.{all_sized, rig_within, sized}
use Rattle.events.specs.Calls.{EventPost, called}
use Rattle.rig.specs.declared.Made.{Made}

-- the rig that a refused making gives: nothing is in flight, and every place has a fresh party of number 1, with a starting board of one byte
abbrev pub least_rig : Rig
least_rig = record { servers = replicate 16 (fresh_node 1 1); clients = replicate 16 (fresh_state 1); count = 0 }

-- Making: questions 1 to 5 and 21; 6, of the starting board and of the buffers lent.
unfoldable pub make_questions : Config → ℕ → List ℕ → Lent → List Question
make_questions cfg m start l = rig_questions cfg m ++ ask 6 (eqb (length start) (board_length cfg) && sized cfg m l) ∷ []

-- the number of the first question that is answered no, or 0
abbrev pub make_no : Config → ℕ → List ℕ → Lent → ℕ
make_no cfg m start l = first_no (make_questions cfg m start l)

-- Making a rig of a starting board, with the buffers as they were and as they are left.
pub record MakePost (cfg : Config) (m : ℕ) (start : List ℕ) (l : Lent) (r : Made) (l' : Lent) : Type 0 where
  pub number : verdict_number r.verdict ≡ make_no cfg m start l
  -- "It holds fresh servers and clients, a starting board, and the messages in flight": there are none. "the starting board has length V".
  pub seen : make_no cfg m start l ≡ 0 → view cfg r.rig l' ≡ fresh_rig cfg (starting_board cfg start)
  -- the rig passes every question about a state
  pub within : make_no cfg m start l ≡ 0 → rig_within cfg m r.rig ≡ true
  pub lengths : sized cfg m l' ≡ sized cfg m l
  -- "The first "no" is returned; state and buffers hold their old content"
  pub held : (make_no cfg m start l ≡ 0 → ⊥) → l' ≡ l
  pub refused : (make_no cfg m start l ≡ 0 → ⊥) → r.rig ≡ least_rig

-- the first of questions 1 to 5, 21 and 6 of a rig that is answered no, or 0
abbrev pub rig_no : Config → ℕ → Rig → ℕ
rig_no cfg m r = first_no (rig_questions cfg m ++ ask 6 (rig_within cfg m r) ∷ [])

-- A crash or a restart alone.
pub record AlonePost (cfg : Config) (m : ℕ) (r : Rig) (a : Call) (t : Turn) : Type 0 where
  -- "The first "no" is returned; state and buffers hold their old content"
  pub refuses : (rig_no cfg m r ≡ 0 → ⊥) → (read : List ℕ) → (answer_of t.answer read ≡ no (rig_no cfg m r)) × (t.rig ≡ r)
  -- with any buffers of their lengths it is the rig's event, and the buffers stay
  pub event : rig_no cfg m r ≡ 0 → (board read : List ℕ) (l : Lent) → all_sized cfg m (called a board).board.bytes read l ≡ true
      → EventPost cfg m r (called a board) read l t read l

-- Events 1 and 2, whatever else they are handed, and their questions 19, 8 and 13.
use Rattle.std.specs.Prelude.{ℕ, ◌+◌, ◌*◌, cond, ◌≡◌, List, eqb, leb, length}
use Rattle.config.specs.declared.Config.{Config}
use Rattle.config.specs.Config.{board_length, record_length}
use Rattle.config.specs.Questions.{first_no, within}
use Rattle.client.specs.Questions.{ask_begin_questions}
use Rattle.events.specs.declared.Call.{Call}
use Rattle.events.specs.declared.Change.{Change}
use Rattle.events.specs.declared.Part.{Part}
use Rattle.events.specs.View.{lent}
use Rattle.events.specs.inner.Turn.{PartPre, TurnPost}

-- where there is no room: the number of the client's first no, or 13
abbrev pub full_no : ℕ → ℕ
full_no k = cond (eqb k 0) 13 k

-- the number of a beginning that the client need not be asked for: 8, or where there is no room that of 9 to 11, or 13; else 0
abbrev pub asked_no : Config → ℕ → Part → ℕ → ℕ
asked_no cfg m p party =
    cond (within 1 cfg.c party)
    (cond (leb (p.count + cfg.n) m) 0 (full_no (first_no (ask_begin_questions cfg p.pair.client)))) 8

-- the same of a write: 19 comes first
abbrev pub asked_write_no : Config → ℕ → Part → Call → ℕ
asked_write_no cfg m p a = cond (leb a.length (board_length cfg)) (asked_no cfg m p a.party) 19

-- what a beginning asks of the part and of the messages
pub record BeginPre (cfg : Config) (m : ℕ) (p : Part) (messages : List ℕ) : Type 0 where
  pub part : PartPre cfg p messages
  pub long : length messages ≡ record_length * m

-- event 1
abbrev pub WritePost : Config → ℕ → Part → Call → List ℕ → List ℕ → List ℕ → Change → List ℕ → List ℕ → Type 0
WritePost cfg m p a board messages boards x messages' boards' =
    (read stores elements : List ℕ) → a.code ≡ 1
    → TurnPost cfg m p a board read (lent messages stores boards elements) x read (lent messages' stores boards' elements)

-- event 2
abbrev pub ReadPost : Config → ℕ → Part → Call → List ℕ → Change → List ℕ → Type 0
ReadPost cfg m p a messages x messages' =
    (board read stores boards elements : List ℕ) → a.code ≡ 2
    → TurnPost cfg m p a board read (lent messages stores boards elements) x read (lent messages' stores boards elements)

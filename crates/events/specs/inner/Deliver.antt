-- Event 3, whatever else it is handed: the message is for the part's server, or for its client.
use Rattle.std.specs.Prelude.{ℕ, ◌+◌, ◌-◌, ◌*◌, ◌≤◌, ◌<◌, Bool, true, false, ◌≡◌, List, ◌++◌, length}
use Rattle.laws.specs.Lists.{without}
use Rattle.config.specs.declared.Config.{Config}
use Rattle.config.specs.Config.{board_length, record_length}
use Rattle.record.specs.Kinds.{is_for_server}
use Rattle.record.specs.Record.{kind_at, kind_of}
use Rattle.config.specs.Config.{store_length}
use Rattle.flight.specs.Flight.{record_at, records}
use Rattle.parties.specs.declared.Acted.{Acted}
use Rattle.parties.specs.Acts.{is_refusal}
use Rattle.events.specs.declared.Call.{Call}
use Rattle.events.specs.declared.Change.{Change}
use Rattle.events.specs.declared.Part.{Part}
use Rattle.events.specs.View.{Lent, lent}
use Rattle.events.specs.inner.Part.{acting}
use Rattle.events.specs.inner.Turn.{PartPre, TurnPost}

-- the record at the position is handed over, in a kind that a server receives or not
pub record HandedPre (p : Part) (a : Call) (handed messages : List ℕ) (to_server : Bool) : Type 0 where
  pub inside : a.position < p.count
  pub taken : handed ≡ record_at a.position messages
  pub kind : is_for_server (kind_of (kind_at handed)) ≡ to_server

-- A refusal leaves the messages. Else the message at the position has left the list, and what the parties send is added at the end.
pub record SettlePost (p : Part) (i : ℕ) (y : Acted) (sends messages : List ℕ) (x : Change) (messages' : List ℕ) : Type 0 where
  pub n : ℕ
  pub acts : x ≡ acting y n p
  pub long : length messages' ≡ length messages
  pub held : is_refusal y.answer ≡ true → (n ≡ p.count) × (messages' ≡ messages)
  pub settled : is_refusal y.answer ≡ false → i < p.count → record_length * p.count ≤ length messages → record_length * (p.count - 1 + y.sent) ≤ length messages
      → (n ≡ p.count - 1 + y.sent) × (records n messages' ≡ without i (records p.count messages) ++ records y.sent sends)

-- the message is for the part's server
pub record ToServerPre (cfg : Config) (p : Part) (a : Call) (handed messages stores : List ℕ) : Type 0 where
  pub part : PartPre cfg p messages
  pub handing : HandedPre p a handed messages true
  pub stores_long : length stores ≡ cfg.n * store_length cfg

abbrev pub ToServerPost : Config → Part → Call → List ℕ → List ℕ → Change → List ℕ → List ℕ → Type 0
ToServerPost cfg p a messages stores x messages' stores' =
    (m : ℕ) (board read boards elements : List ℕ) → a.code ≡ 3
    → TurnPost cfg m p a board read (lent messages stores boards elements) x read (lent messages' stores' boards elements)

-- the message is for the part's client
pub record ToClientPre (cfg : Config) (p : Part) (a : Call) (handed messages boards elements : List ℕ) : Type 0 where
  pub part : PartPre cfg p messages
  pub handing : HandedPre p a handed messages false
  pub boards_long : length boards ≡ cfg.c * board_length cfg
  pub elements_long : length elements ≡ cfg.c * (cfg.n * cfg.e)

abbrev pub ToClientPost : Config → ℕ → Part → Call → List ℕ → List ℕ → List ℕ → List ℕ → Change → List ℕ → List ℕ → List ℕ → Type 0
ToClientPost cfg m p a read messages boards elements x read' messages' elements' =
    (board stores : List ℕ) → a.code ≡ 3
    → TurnPost cfg m p a board read (lent messages stores boards elements) x read' (lent messages' stores boards elements')

-- a message is handed over
abbrev pub HandOverPost : Config → ℕ → Part → Call → List ℕ → Lent → Change → List ℕ → Lent → Type 0
HandOverPost cfg m p a read l x read' l' = (board : List ℕ) → a.code ≡ 3 → TurnPost cfg m p a board read l x read' l'

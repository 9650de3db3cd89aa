-- What holds of the rig after every event: a record kept beside it, of what was begun, chosen and ended, and what each message, server and
-- client tells of it.
use Prim.Native.Nat.{ℕ, ◌≤◌, ◌<◌}
use mathlib.Core.Path.{◌≡◌}
use mathlib.Core.Bool.{Bool, true}
use mathlib.Core.Logic.{◌⊎◌}
use mathlib.Core.Option.{Option, none, some}
use mathlib.Core.List.{List, Memᴰ}
use Rattle.config.specs.declared.Config.{Config}
use Rattle.tag.specs.declared.Tag.{Tag}
use Rattle.record.specs.Message.{Message}
use Rattle.tag.specs.Tag.{start as starting_tag}
use Rattle.record.specs.Record.{kind_number}
use Rattle.protocol.specs.Server.{Server, Stored}
use Rattle.protocol.specs.Client.{Phase, idle, asking, pre_writing, finalising_write, finalising_read, down}
use Rattle.protocol.specs.Board.{Answer, refused, nothing_ended, written_by, spent_by, read_by}
use Rattle.protocol.specs.Parties.{Parties}
use Rattle.protocol.specs.Laws.{TagOrder, Coding}
use Rattle.protocol.proofs.Quorum.{Quorum}

-- what the theorem is over
pub record Setting : Type 1 where
  pub Value : Type 0
  pub Element : Type 0
  pub cfg : Config
  pub key : Tag → ℕ
  pub encode : Value → ℕ → Element
  pub decode : List (ℕ × Element) → Value
  pub IsBoard : Value → Type 0
  pub tags : TagOrder cfg key
  pub coding : Coding cfg IsBoard encode decode
  pub positive : 1 ≤ cfg.k
  pub start : Value
  pub start_is_board : IsBoard start

module _ (S : Setting) where
  open S use {Value, Element, cfg, key, encode, IsBoard, start}

  -- Kept beside the rig. Operations are known by the place of the event that began them.
  pub record Ghost : Type 0 where
    -- the client and the board to write, or none, of the operation begun at a place
    pub begun : ℕ → Option (ℕ × Option Value)
    -- the tag that it took
    pub chosen : ℕ → Option Tag
    -- the place and the answer of the event that ended it
    pub ending : ℕ → Option (ℕ × Answer Value)
    -- the place of a client's latest begin
    pub latest : ℕ → ℕ
    -- the highest tag of each server at that begin, as a key
    pub base : ℕ → ℕ → ℕ
    -- the board of a tag, by its key: that of (0, 0), and a write's from the moment that its tag is chosen
    pub bytes : ℕ → Option Value

  -- what messages, servers and clients may rely on: it only grows
  pub record Knowledge : Type 0 where
    pub high : ℕ → ℕ
    pub number : ℕ → ℕ
    pub base : ℕ → ℕ → ℕ
    pub bytes : ℕ → Option Value

  unfoldable pub know : Parties Value Element → Ghost → Knowledge
  know ps g =
      record {
        high = λ s. key (ps.servers s).highest;
        number = λ c. (ps.clients c).operation;
        base = g.base;
        bytes = g.bytes;
      }

  -- a tag of a client of the configuration, or the starting tag, whose board is known
  pub record Known (k : Knowledge) (t : Tag) : Type 0 where
    pub board : Value
    pub is : k.bytes (key t) ≡ some board
    pub within : t.client ≤ cfg.c

  -- a good message: not of a later operation; of a known tag; its element that of its server; what it answers is so
  pub record GoodMessage (k : Knowledge) (m : Message Element) : Type 0 where
    pub begun : m.operation ≤ k.number m.client
    pub known : Known k m.tag
    pub element : (e : Element) → m.element ≡ some e → e ≡ encode known.board m.server
    pub query : kind_number m.kind ≡ 2 → m.operation ≡ k.number m.client → k.base m.client m.server ≤ key m.tag
    pub write_finalised : kind_number m.kind ≡ 6 → key m.tag ≤ k.high m.server
    pub read_finalised : kind_number m.kind ≡ 8 → key m.tag ≤ k.high m.server

  -- a stored element is that of the server for the board of its tag
  pub record GoodStored (k : Knowledge) (s : ℕ) (x : Stored Element) : Type 0 where
    pub board : Value
    pub is : k.bytes (key x.tag) ≡ some board
    pub element : x.element ≡ encode board s

  pub record GoodServer (k : Knowledge) (s : ℕ) (v : Server Element) : Type 0 where
    pub known : Known k v.highest
    pub stored : (x : Stored Element) → Memᴰ x v.stored → GoodStored k s x

  -- client c has begun an operation and not ended it: the board to write or none, and the tag that it took if it has one
  pub record Current (g : Ghost) (c : ℕ) (board : Option Value) (tag : Option Tag) : Type 0 where
    pub begun : g.begun (g.latest c) ≡ some (c, board)
    pub chosen : g.chosen (g.latest c) ≡ tag
    pub ending : g.ending (g.latest c) ≡ none
    pub low : 1 ≤ c
    pub high : c ≤ cfg.c

  -- while idle, whatever the client began has ended
  pub record Idle (g : Ghost) (c : ℕ) : Type 0 where
    pub closed : (p : ℕ) (board : Option Value) → g.begun p ≡ some (c, board) → (x : ℕ × Answer Value) × (g.ending p ≡ some x)

  -- while asking, the best tag is at least what each counted server had at the begin; and for each operation that ended before the begin,
  -- a quorum had its tag
  pub record Asking (k : Knowledge) (g : Ghost) (c : ℕ) (board : Option Value) (best : Tag) (counted : ℕ → Bool) : Type 0 where
    pub current : Current g c board none
    pub is_board : (v : Value) → board ≡ some v → IsBoard v
    pub known : Known k best
    pub start : key starting_tag ≤ key best
    pub answers : (s : ℕ) → counted s ≡ true → k.base c s ≤ key best
    pub earlier : (p : ℕ) (x : ℕ × Answer Value) (t : Tag) → g.ending p ≡ some x → g.chosen p ≡ some t → x.0 < g.latest c → Quorum cfg (λ s. key t ≤ k.base c s)

  pub record PreWriting (g : Ghost) (c : ℕ) (t : Tag) : Type 0 where
    pub board : Value
    pub current : Current g c (some board) (some t)

  -- while finalising, each counted server has the tag
  pub record FinalisingWrite (k : Knowledge) (g : Ghost) (c : ℕ) (t : Tag) (counted : ℕ → Bool) : Type 0 where
    pub board : Value
    pub current : Current g c (some board) (some t)
    pub answers : (s : ℕ) → counted s ≡ true → key t ≤ k.high s

  pub record FinalisingRead (k : Knowledge) (g : Ghost) (c : ℕ) (t : Tag) (counted : ℕ → Bool) (received : ℕ → Option Element) : Type 0 where
    pub current : Current g c none (some t)
    pub answers : (s : ℕ) → counted s ≡ true → key t ≤ k.high s
    pub known : Known k t
    pub elements : (s : ℕ) (e : Element) → received s ≡ some e → e ≡ encode known.board s

  abbrev pub GoodPhase : Knowledge → Ghost → ℕ → Phase Value Element → Type 0
  GoodPhase k g c idle = Idle g c
  GoodPhase k g c (asking b t cs) = Asking k g c b t cs
  GoodPhase k g c (pre_writing t cs) = PreWriting g c t
  GoodPhase k g c (finalising_write t cs) = FinalisingWrite k g c t cs
  GoodPhase k g c (finalising_read t cs es) = FinalisingRead k g c t cs es
  GoodPhase k g c down = Unit {0}

  -- the operation begun at p writes v, with tag t
  pub record Wrote (g : Ghost) (p : ℕ) (v : Value) (t : Tag) : Type 0 where
    pub client : ℕ
    pub begun : g.begun p ≡ some (client, some v)
    pub chosen : g.chosen p ≡ some t

  -- how an operation ended, by its answer
  abbrev pub How : Ghost → ℕ → Option Value → Answer Value → Type 0
  How g p board (refused n) = ⊥
  How g p board nothing_ended = ⊥
  How g p board (written_by c t) = (g.chosen p ≡ some t) × ((v : Value) × (board ≡ some v))
  How g p board (spent_by c) = g.chosen p ≡ none
  How g p board (read_by c t v) = (g.chosen p ≡ some t) × (board ≡ none) × (g.bytes (key t) ≡ some v)

  -- what is so of the operations, with as many events so far as `now` says
  pub record GoodLog (k : Knowledge) (g : Ghost) (now : ℕ) : Type 0 where
    pub begun_before : (p : ℕ) (x : ℕ × Option Value) → g.begun p ≡ some x → p < now
    pub latest_before : (c : ℕ) → g.latest c ≤ now
    -- an operation of a client is its latest, or ended before that began
    pub past : (p c : ℕ) (board : Option Value) → g.begun p ≡ some (c, board) → (p ≡ g.latest c) ⊎ ((x : ℕ × Answer Value) × (g.ending p ≡ some x) × (x.0 < g.latest c))
    pub chosen_begun : (p : ℕ) (t : Tag) → g.chosen p ≡ some t → (x : ℕ × Option Value) × (g.begun p ≡ some x)
    pub chosen_known : (p : ℕ) (t : Tag) → g.chosen p ≡ some t → Known k t
    pub wrote_bytes : (p : ℕ) (v : Value) (t : Tag) → Wrote g p v t → k.bytes (key t) ≡ some v
    pub wrote_client : (p : ℕ) (v : Value) (t : Tag) (w : Wrote g p v t) → t.client ≡ w.client
    pub wrote_above : (p : ℕ) (v : Value) (t : Tag) → Wrote g p v t → key starting_tag < key t
    pub wrote_once : (p r : ℕ) (v w : Value) (t u : Tag) → Wrote g p v t → Wrote g r w u → key t ≡ key u → p ≡ r
    pub ending_after : (p : ℕ) (x : ℕ × Answer Value) → g.ending p ≡ some x → p < x.0
    pub ending_before : (p : ℕ) (x : ℕ × Answer Value) → g.ending p ≡ some x → x.0 < now
    pub ending_how : (p : ℕ) (x : ℕ × Answer Value) → g.ending p ≡ some x → (c : ℕ) (board : Option Value) → g.begun p ≡ some (c, board) → How g p board x.1
    -- no two end with one event
    pub ending_once : (p r : ℕ) (x y : ℕ × Answer Value) → g.ending p ≡ some x → g.ending r ≡ some y → x.0 ≡ y.0 → p ≡ r
    -- an ended operation's tag is a quorum's
    pub ending_quorum : (p : ℕ) (x : ℕ × Answer Value) (t : Tag) → g.ending p ≡ some x → g.chosen p ≡ some t → Quorum cfg (λ s. key t ≤ k.high s)
    pub start_bytes : k.bytes (key starting_tag) ≡ some start
    pub boards : (n : ℕ) (v : Value) → k.bytes n ≡ some v → IsBoard v
    -- a known board is the starting board, or some write's
    pub source : (n : ℕ) (v : Value) → k.bytes n ≡ some v → (n ≡ key starting_tag) ⊎ ((p : ℕ) × (t : Tag) × Wrote g p v t × (key t ≡ n))
    -- of two operations with tags, the one that ended before the other began has no higher tag, and a lower one if the other writes
    pub in_time : (p r : ℕ) (x : ℕ × Answer Value) (t u : Tag) → g.ending p ≡ some x → g.chosen p ≡ some t → x.0 < r → g.chosen r ≡ some u → key t ≤ key u
    pub in_time_write : (p r : ℕ) (x : ℕ × Answer Value) (t u : Tag) (v : Value) → g.ending p ≡ some x → g.chosen p ≡ some t → x.0 < r → Wrote g r v u → key t < key u

  -- the parties and the messages in flight with the record, after `now` events
  pub record Good (ps : Parties Value Element) (ms : List (Message Element)) (g : Ghost) (now : ℕ) : Type 0 where
    pub messages : (m : Message Element) → Memᴰ m ms → GoodMessage (know ps g) m
    pub servers : (s : ℕ) → GoodServer (know ps g) s (ps.servers s)
    pub base : (c s : ℕ) → g.base c s ≤ key (ps.servers s).highest
    pub clients : (c : ℕ) → GoodPhase (know ps g) g c (ps.clients c).phase
    pub log : GoodLog (know ps g) g now

-- What the exported calls answer: each is a call of a crate below, on the configuration and the state that bytes tell. The number is that of the
-- first question that is answered no, or 0. A state is given back as the bytes that pack it, and on a refusal everything is as it was.
use Rattle.std.specs.Prelude.{ℕ, cond, ◌&&◌, ◌≡◌, List, [], ◌∷◌, ◌++◌, eqb, length, drop}
use Rattle.std.proofs.Math.Option.{Option, none, some}
use Rattle.config.specs.Config.{board_length, elements_length, sends_length, store_length}
use Rattle.config.specs.Questions.{Question, ask, first_no, within}
use Rattle.tag.specs.declared.Tag.{Tag}
use Rattle.code.specs.Decode.{decode_questions}
use Rattle.code.specs.Decoded.{decoded}
use Rattle.code.specs.Element.{element}
use Rattle.code.specs.Encode.{encode_questions}
use Rattle.code.specs.EncodeAll.{encode_all_questions, with_elements}
use Rattle.protocol.specs.Boards.{Board, board_of}
use Rattle.server.specs.declared.Stepped.{Stepped}
use Rattle.server.specs.Calls as server
use Rattle.client.specs.declared.Moved.{Moved}
use Rattle.client.specs.Calls as client
use Rattle.client.specs.Questions as asking
use Rattle.client.specs.State.{Lent}
use Rattle.states.specs.Clients as clients
use Rattle.states.specs.Servers as servers
use Rattle.host.specs.Config.{client_questions, config_length, config_of, config_questions, server_questions}
use Rattle.host.specs.Outcome.{OutcomePost, outcome_length}

-- what there is after a call: what it leaves, or on a refusal what was there
abbrev pub unless_no : {A : Type 0} → ℕ → A → A → A
unless_no told after before = cond (eqb told 0) after before

-- ---- lengths

pub record LengthsPost (config : List ℕ) (board store elements sends board' store' elements' sends' told : ℕ) : Type 0 where
  pub number : told ≡ first_no (config_questions config)
  pub of_board : board' ≡ unless_no told (board_length (config_of config)) board
  pub of_store : store' ≡ unless_no told (store_length (config_of config)) store
  pub of_elements : elements' ≡ unless_no told (elements_length (config_of config)) elements
  pub of_sends : sends' ≡ unless_no told (sends_length (config_of config)) sends

-- ---- a server

-- fresh: 6, the lengths of state, element and store; 8, is it a server's number?
unfoldable pub fresh_server_questions : List ℕ → ℕ → ℕ → ℕ → ℕ → List Question
fresh_server_questions config s element state store =
    let cfg = config_of config in
    config_questions config
    ++ ask 6 (eqb state servers.packed_length && (eqb element cfg.e && eqb store (store_length cfg)))
    ∷ ask 8 (within 1 cfg.n s)
    ∷ []

pub record ServerFreshPost (config : List ℕ) (s : ℕ) (element state store state' store' : List ℕ) (told : ℕ) : Type 0 where
  pub number : told ≡ first_no (fresh_server_questions config s (length element) (length state) (length store))
  pub made : told ≡ 0 → servers.PackPost (server.fresh_state (record { 0 = s }) (board_length (config_of config))) state'
  pub stays : (told ≡ 0 → ⊥) → state' ≡ state
  pub stored : store' ≡ unless_no told (element ++ drop (config_of config).e store) store

-- the step of the state that the bytes tell
pub record ServerStepPost (config state message store answer state' store' answer' : List ℕ) (told : ℕ) : Type 0 where
  pub number :
      told
      ≡ first_no (server_questions config state
      ++ server.step_questions (config_of config) (servers.state_of state) message (length store) (length answer))
  pub left : Stepped
  pub step : first_no (server_questions config state) ≡ 0
      → server.StepPost (config_of config) (servers.state_of state) message store answer store' answer' left
  pub kept : told ≡ 0 → servers.PackPost left.state state'
  pub held : (told ≡ 0 → ⊥) → (state' ≡ state) × (store' ≡ store) × (answer' ≡ answer)

-- the place of a stored element; the store's length where there is none
abbrev pub place_or : ℕ → Option ℕ → ℕ
place_or long none = long
place_or long (some place) = place

pub record ServerElementPost (config state : List ℕ) (t : Tag) (store : List ℕ) (place place' told : ℕ) : Type 0 where
  pub number :
      told ≡ first_no (server_questions config state ++ server.state_questions (config_of config) (servers.state_of state) (length store))
  pub found : place' ≡ unless_no told (place_or (length store) (server.element_place (config_of config) (servers.state_of state) t)) place

-- ---- a client

-- fresh: 6, the state's length; 8, is it a client's number?
unfoldable pub fresh_client_questions : List ℕ → ℕ → ℕ → List Question
fresh_client_questions config c state =
    config_questions config ++ ask 6 (eqb state clients.packed_length) ∷ ask 8 (within 1 (config_of config).c c) ∷ []

pub record ClientFreshPost (config : List ℕ) (c : ℕ) (state state' : List ℕ) (told : ℕ) : Type 0 where
  pub number : told ≡ first_no (fresh_client_questions config c (length state))
  pub made : told ≡ 0 → clients.PackPost (client.fresh_state (record { 0 = c })) state'
  pub stays : (told ≡ 0 → ⊥) → state' ≡ state

-- a beginning, by the questions that it asks of the client
pub record BeginPost (config state : List ℕ) (asks : List Question) (board : Option Board) (kept sends state' kept' sends' : List ℕ) (told : ℕ) : Type 0 where
  pub number : told ≡ first_no (client_questions config state ++ asks)
  pub left : Moved
  pub begins : first_no (client_questions config state) ≡ 0 → (es : List ℕ)
      → client.BeginPost (config_of config) (first_no asks) (clients.state_of state) board kept kept' es sends sends' left
  pub saved : told ≡ 0 → clients.PackPost left.state state'
  pub held : (told ≡ 0 → ⊥) → (state' ≡ state) × (kept' ≡ kept) × (sends' ≡ sends)

abbrev pub ClientWritePost : List ℕ → List ℕ → ℕ → List ℕ → List ℕ → List ℕ → List ℕ → List ℕ → List ℕ → ℕ → Type 0
ClientWritePost config state n board kept sends state' kept' sends' told =
    BeginPost config state (asking.begin_write_questions (config_of config) (clients.state_of state) n board kept sends) (some (board_of n board)) kept
    sends state' kept' sends' told

-- a read begins with whatever board is kept
abbrev pub ClientReadPost : List ℕ → List ℕ → List ℕ → List ℕ → List ℕ → ℕ → Type 0
ClientReadPost config state sends state' sends' told =
    (kept : List ℕ)
    → BeginPost config state (asking.begin_read_questions (config_of config) (clients.state_of state) sends) none kept sends state' kept sends' told

-- a step: 6 asks besides whether the outcome has its length
unfoldable pub client_step_questions : List ℕ → List ℕ → List ℕ → Lent → ℕ → List Question
client_step_questions config state message l outcome =
    client_questions config state
    ++ ask 6 (eqb outcome outcome_length)
    ∷ asking.step_questions (config_of config) (clients.state_of state) message l

pub record ClientStepPost (config state message : List ℕ) (l : Lent) (outcome state' : List ℕ) (l' : Lent) (outcome' : List ℕ) (told : ℕ) : Type 0 where
  pub number : told ≡ first_no (client_step_questions config state message l (length outcome))
  pub left : Moved
  pub step : first_no (client_questions config state ++ ask 6 (eqb (length outcome) outcome_length) ∷ []) ≡ 0
      → client.StepPost (config_of config) (clients.state_of state) message l l' left
  pub saved : told ≡ 0 → clients.PackPost left.state state'
  pub tells : told ≡ 0 → OutcomePost left.ended left.sent outcome'
  pub held : (told ≡ 0 → ⊥) → (state' ≡ state) × (l' ≡ l) × (outcome' ≡ outcome)

-- ---- the code

pub record EncodePost (config board : List ℕ) (s : ℕ) (part part' : List ℕ) (told : ℕ) : Type 0 where
  pub number : told ≡ first_no (ask 6 (eqb (length config) config_length) ∷ encode_questions (config_of config) (length board) s (length part))
  pub encodes : part' ≡ unless_no told (element (config_of config) board s) part

pub record EncodeAllPost (config board : List ℕ) (offset distance : ℕ) (buffer buffer' : List ℕ) (told : ℕ) : Type 0 where
  pub number :
      told
      ≡ first_no (ask 6 (eqb (length config) config_length)
      ∷ encode_all_questions (config_of config) (length board) offset distance (length buffer))
  pub encodes : buffer' ≡ unless_no told (with_elements (config_of config) board offset distance buffer) buffer

pub record DecodePost (config numbers elements board board' : List ℕ) (told : ℕ) : Type 0 where
  pub number : told ≡ first_no (ask 6 (eqb (length config) config_length) ∷ decode_questions (config_of config) numbers (length elements) (length board))
  pub decodes : board' ≡ unless_no told (decoded (config_of config) numbers elements) board

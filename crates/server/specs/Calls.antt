-- A server's calls: what each asks, and what it answers.
use Rattle.std.specs.Prelude.{◌≡◌, ℕ, ◌*◌, Bool, cond, ◌&&◌, List, [], ◌∷◌, ◌++◌, length, drop, replicate, ◌==◌, ◌≢◌, nat_lt}
use Rattle.std.specs.Prelude.{Option as Given, None, Some, Result, Ok, Err}
use Rattle.std.proofs.Math.Option.{Option, none, some}
use Rattle.config.specs.declared.Config.{Config}
use Rattle.config.specs.declared.Refusal.{Refusal}
use Rattle.config.specs.declared.Server.{Server as ServerNumber}
use Rattle.config.specs.Config.{board_length, questions, record_length, store_length}
use Rattle.config.specs.Number.{server_number}
use Rattle.config.specs.Questions.{Question, ask, first_no, within}
use Rattle.config.specs.Refusal.{verdict_number}
use Rattle.tag.specs.declared.Tag.{Tag}
use Rattle.tag.specs.Tag.{key, start}
use Rattle.record.specs.Element.{Element}
use Rattle.record.specs.Kinds.{is_for_server}
use Rattle.record.specs.Message.{Message}
use Rattle.record.specs.Record.{message_of, record_of, well_formed}
use Rattle.protocol.specs.Server.{Served, element_of, server_step}
use Rattle.server.specs.declared.State.{State}
use Rattle.server.specs.declared.Stepped.{Stepped}
use Rattle.server.specs.Within.{state_within}
use Rattle.server.specs.View.{place_in, tags_used, view}

-- A state: questions 1 to 5 and 21; 6, the length of its store, and the state.
unfoldable pub state_questions : Config → State → ℕ → List Question
state_questions cfg s long = questions cfg ++ ask 6 (long == store_length cfg && state_within cfg s) ∷ []

-- Fresh: questions 1 to 5 and 21; 6, the lengths of element and store; 8, is it a server's number?
unfoldable pub fresh_questions : Config → ServerNumber → List ℕ → List ℕ → List Question
fresh_questions cfg me element store =
    questions cfg
    ++ ask 6 (length element == cfg.e && length store == store_length cfg)
    ∷ ask 8 (within 1 cfg.n (server_number me))
    ∷ []

-- "Fresh: H = (0, 0), with the starting board's element stored at (0, 0)": the one place in use is the first.
unfoldable pub fresh_state : ServerNumber → ℕ → State
fresh_state me length =
    record { me = me; highest = start; floor = None; count = 1; tags = replicate 8 start; lengths = replicate 8 length }

-- "the starting board has length V"; a refusal says 0
abbrev pub fresh_length : Config → ServerNumber → List ℕ → List ℕ → ℕ
fresh_length cfg me element store = cond (first_no (fresh_questions cfg me element store) == 0) (board_length cfg) 0

pub record FreshPost (cfg : Config) (me : ServerNumber) (element before after : List ℕ) (r : Stepped) : Type 0 where
  pub number : verdict_number r.verdict ≡ first_no (fresh_questions cfg me element before)
  pub state : r.state ≡ fresh_state me (fresh_length cfg me element before)
  pub store : after ≡ cond (first_no (fresh_questions cfg me element before) == 0) (element ++ drop cfg.e before) before

-- "16. .. is the record for this party, in a kind it receives?"
abbrev pub for_server : ℕ → Message Element → Bool
for_server me m = m.server == me && is_for_server m.kind

-- the protocol's step of this server on a message: its server afterwards, and its answer
abbrev pub outcome : Config → State → List ℕ → Message Element → Served Element
outcome cfg s store m = server_step (key cfg) cfg.d (server_number s.me) (view cfg s store) m

-- Step: questions 1 to 5 and 21; 6, the lengths of record, store and answer, and the state; 12; 16.
unfoldable pub step_questions : Config → State → List ℕ → ℕ → ℕ → List Question
step_questions cfg s handed store answer =
    questions cfg
    ++ ask 6 (length handed == record_length && store == store_length cfg && answer == record_length && state_within cfg s)
    ∷ ask 12 (well_formed cfg handed)
    ∷ ask 16 (for_server (server_number s.me) (message_of cfg handed))
    ∷ []

-- the record of an answer; without one the record holds what it held
abbrev pub answer_bytes : Config → Option (Message Element) → List ℕ → List ℕ
answer_bytes cfg none held = held
answer_bytes cfg (some m) held = record_of cfg m

-- What a step leaves, where `first` is the number of the first question that is answered no, or 0, and m is the message: the
-- protocol's step, or what was there.
pub record Steps (cfg : Config) (s : State) (first : ℕ) (m : Message Element) (store_before answerBefore storeAfter answerAfter : List ℕ) (r : Stepped) : Type 0 where
  pub number : verdict_number r.verdict ≡ first
  pub me : r.state.me ≡ s.me
  -- accepted: the protocol's step
  pub seen : first ≡ 0 → view cfg r.state storeAfter ≡ (outcome cfg s store_before m).server
  -- refused: all holds
  pub state : (first ≢ 0) → r.state ≡ s
  pub store : (first ≢ 0) → storeAfter ≡ store_before
  pub long : length storeAfter ≡ length store_before
  -- the answer's record, or what it held
  pub answer : answerAfter ≡ cond (first == 0) (answer_bytes cfg (outcome cfg s store_before m).answer answerBefore) answerBefore

abbrev pub StepPost : Config → State → List ℕ → List ℕ → List ℕ → List ℕ → List ℕ → Stepped → Type 0
StepPost cfg s handed store answer storeAfter answerAfter r =
    Steps cfg s (first_no (step_questions cfg s handed (length store) (length answer))) (message_of cfg handed) store answer storeAfter answerAfter r

-- an element's bytes; "an empty part if there is none"
abbrev pub lent_bytes : Option Element → List ℕ
lent_bytes none = []
lent_bytes (some e) = e.bytes

-- the part that is lent, and the lent number afterwards
pub record LendPost (cfg : Config) (s : State) (t : Tag) (store lent : List ℕ) (told : ℕ) : Type 0 where
  pub number : told ≡ first_no (state_questions cfg s (length store))
  pub part : lent
      ≡ cond (first_no (state_questions cfg s (length store)) == 0) (lent_bytes (element_of (key cfg) t (view cfg s store).stored)) []

-- where the element of a tag begins in the store, at its place × E, if the tag is stored
unfoldable pub element_place : Config → State → Tag → Option ℕ
element_place cfg s t = cond (nat_lt (place_in t (tags_used s)) s.count) (some (place_in t (tags_used s) * cfg.e)) none

-- the place that a call gives, if the tag is stored; a refusal gives none
abbrev pub Found : Type 0
Found = Result (Given ℕ) Refusal

abbrev pub found_place : Found → Option ℕ
found_place (Err why) = none
found_place (Ok None) = none
found_place (Ok (Some i)) = some i

-- the place that is found, in a store of a length
pub record FindPost (cfg : Config) (s : State) (t : Tag) (long : ℕ) (r : Found) : Type 0 where
  pub number : verdict_number r ≡ first_no (state_questions cfg s long)
  pub place : found_place r ≡ cond (first_no (state_questions cfg s long) == 0) (element_place cfg s t) none

-- What a step takes once its questions are asked, and what it gives.
use Rattle.std.specs.Prelude.{◌≡◌, ℕ, true, false, cond, List, length, nat_le, Err}
use Rattle.std.proofs.Math.Option.{Option, none, some}
use Rattle.config.specs.declared.Config.{Config}
use Rattle.config.specs.declared.Refusal.{Refusal}
use Rattle.config.specs.declared.Server.{Server as ServerNumber}
use Rattle.config.specs.Config.{Valid, record_length}
use Rattle.config.specs.Number.{client_number, server_number}
use Rattle.config.specs.Questions.{within}
use Rattle.config.specs.Refusal.{verdict_number}
use Rattle.tag.specs.declared.Tag.{Tag}
use Rattle.tag.specs.Tag.{allowed, key}
use Rattle.record.specs.declared.Header.{Header}
use Rattle.record.specs.declared.Kind.{Kind}
use Rattle.record.specs.Calls.{with_element}
use Rattle.record.specs.Element.{Element, element_with}
use Rattle.record.specs.Kinds.{is_for_server}
use Rattle.record.specs.Message.{Message}
use Rattle.record.specs.Record.{element_in, highest_number, length_fits, of_config, record_of}
use Rattle.protocol.specs.Server.{element_of, read_answer}
use Rattle.protocol.specs.Tags.{higher}
use Rattle.server.specs.declared.serve.Reply.{Reply}
use Rattle.server.specs.declared.State.{State}
use Rattle.server.specs.declared.Stepped.{Stepped}
use Rattle.server.specs.Within.{ValidState}
use Rattle.server.specs.View.{view}

-- a refusal, with all as it was
abbrev pub unchanged : State → Refusal → Stepped
unchanged s why = record { verdict = Err why; state = s }

-- the answer to a request
unfoldable pub reply : ServerNumber → Header → Kind → Tag → Option Element → Message Element
reply me h kind t element =
    record {
      kind = kind;
      client = client_number h.client;
      server = server_number me;
      operation = h.operation;
      tag = t;
      element = element;
    }

-- what an answer says besides what it repeats, with the element that stands in its bytes, if one is present
abbrev pub reply_of : Config → ServerNumber → Header → Reply → List ℕ → Message Element
reply_of cfg me h r bs = reply me h r.kind r.tag (cond r.present (some (element_with r.length (element_in cfg bs))) none)

-- without an element
abbrev pub bare_of : Kind → Tag → Reply
bare_of kind t = record { kind = kind; tag = t; present = false; length = 0 }

pub record RespondPre (cfg : Config) (r : Reply) (m : Message Element) (answer : List ℕ) : Type 0 where
  pub valid : Valid cfg
  pub eighty : length answer ≡ record_length
  pub of_config : of_config cfg m ≡ true
  pub fits : length_fits cfg r.present r.length ≡ true

pub record RespondPost (cfg : Config) (s : State) (m : Message Element) (after : List ℕ) (r : Stepped) : Type 0 where
  pub number : verdict_number r.verdict ≡ 0
  pub state : r.state ≡ s
  pub answer : after ≡ record_of cfg m

-- a read finalise of a client
pub record ReadFinalisePre (cfg : Config) (s : State) (h : Header) (store answer : List ℕ) : Type 0 where
  pub held : ValidState cfg s store
  pub eighty : length answer ≡ record_length
  pub operation : within 1 highest_number h.operation ≡ true
  pub client : within 1 cfg.c (client_number h.client) ≡ true
  pub number : nat_le h.tag.number highest_number ≡ true
  pub allowed : allowed cfg.c h.tag ≡ true

-- "H becomes the higher of H and t", and all else holds
unfoldable pub raised : Config → State → Tag → State
raised cfg s t =
    record {
      me = s.me;
      highest = higher (key cfg) s.highest t;
      floor = s.floor;
      count = s.count;
      tags = s.tags;
      lengths = s.lengths;
    }

-- the answer is the protocol's
abbrev pub read_answered : State → Header → List ℕ → Config → Message Element
read_answered s h store cfg =
    read_answer (key cfg) (server_number s.me) (view cfg s store).floor (reply s.me h h.kind h.tag none)
    (element_of (key cfg) h.tag (view cfg s store).stored)

-- and H is raised
abbrev pub ReadFinalisePost : Config → State → Header → List ℕ → List ℕ → Stepped → Type 0
ReadFinalisePost cfg s h store after r = RespondPost cfg (raised cfg s h.tag) (read_answered s h store cfg) after r

-- a request, with all that questions 1 to 5, 21, 6 and 12 show of it
pub record RequestPre (cfg : Config) (s : State) (h : Header) (handed store answer : List ℕ) : Type 0 where
  pub held : ValidState cfg s store
  pub eighty : length handed ≡ record_length
  pub answer_eighty : length answer ≡ record_length
  pub of_config : of_config cfg (with_element cfg h handed) ≡ true

-- question 16, as to the kind
abbrev pub request_number : Message Element → ℕ
request_number m = cond (is_for_server m.kind) 0 16

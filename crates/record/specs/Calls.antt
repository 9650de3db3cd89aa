-- Reading and writing a record: what the two calls ask, and what they answer.
use Rattle.std.specs.Prelude.{Result, Ok, Err}
use Rattle.std.specs.Prelude.{ℕ, Bool, cond, ◌&&◌, ◌≡◌, List, [], ◌∷◌, ◌++◌, eqb, leb, length}
use Rattle.std.proofs.Math.Option.{Option, none, some}
use Rattle.config.specs.declared.Config.{Config}
use Rattle.config.specs.declared.Refusal.{Refusal}
use Rattle.config.specs.Config.{questions, record_length}
use Rattle.config.specs.Number.{client_number, server_number}
use Rattle.config.specs.Questions.{Question, ask, first_no, within}
use Rattle.config.specs.Refusal.{Verdict, verdict_number}
use Rattle.tag.specs.declared.Tag.{Tag}
use Rattle.tag.specs.Tag.{allowed}
use Rattle.record.specs.declared.Header.{Header}
use Rattle.record.specs.Element.{Element, element_with}
use Rattle.record.specs.Message.{Message}
use Rattle.record.specs.Record.{all, element_in, kind_number, length_at, length_fits, message_of, of_config, own_tag, presence, query_tag, record_of, well_formed}

-- the message of a header, with the element, if one is present, that stands in the record's bytes
unfoldable pub with_element : Config → Header → List ℕ → Message Element
with_element cfg h bs =
    record {
      kind = h.kind;
      client = client_number h.client;
      server = server_number h.server;
      operation = h.operation;
      tag = h.tag;
      element = cond h.present (some (element_with h.length (element_in cfg bs))) none;
    }

-- Reading: questions 1 to 5 and 21; 6, the buffer's length; 12, "Is the record handed over well formed?"
unfoldable pub read_questions : Config → List ℕ → List Question
read_questions cfg bs = questions cfg ++ ask 6 (eqb (length bs) record_length) ∷ ask 12 (well_formed cfg bs) ∷ []

-- the header that was read, or a refusal
abbrev pub Reading : Type 0
Reading = Result Header Refusal

-- the message that was read from the bytes
abbrev pub message_read : Config → List ℕ → Reading → Option (Message Element)
message_read cfg bs (Ok h) = some (with_element cfg h bs)
message_read cfg bs (Err why) = none

-- the header's length, which is in its message if an element is present
abbrev pub length_read : Reading → ℕ
length_read (Ok h) = h.length
length_read (Err why) = 0

pub record ReadPost (cfg : Config) (bs : List ℕ) (r : Reading) : Type 0 where
  pub number : verdict_number r ≡ first_no (read_questions cfg bs)
  pub message : message_read cfg bs r ≡ cond (eqb (first_no (read_questions cfg bs)) 0) (some (message_of cfg bs)) none
  pub length : length_read r ≡ cond (eqb (first_no (read_questions cfg bs)) 0) (length_at bs) 0

-- The rules of a record, of a header: its client, server and tag are within their limits;
abbrev pub limits : Config → Header → Bool
limits cfg h = within 1 cfg.c (client_number h.client) && within 1 cfg.n (server_number h.server) && allowed cfg.c h.tag

-- the operation number is at least 1, and tag and presence suit the kind
abbrev pub sound_clauses : ℕ → ℕ → ℕ → Tag → Bool → List Bool
sound_clauses kind client operation t present =
    leb 1 operation ∷ query_tag kind t ∷ own_tag kind client t ∷ presence kind present ∷ []

unfoldable pub is_sound : Header → Bool
is_sound h = all (sound_clauses (kind_number h.kind) (client_number h.client) h.operation h.tag h.present)

-- a header with the element in the record's bytes breaks no rule of the record, that on its length among them
unfoldable pub is_header : Config → Header → List ℕ → Bool
is_header cfg h bs = of_config cfg (with_element cfg h bs) && length_fits cfg h.present h.length

-- Writing: questions 1 to 5 and 21; 6, the buffer's length; 12, does the header break no rule of the record?
unfoldable pub write_questions : Config → Header → List ℕ → List Question
write_questions cfg h bs =
    questions cfg ++ ask 6 (eqb (length bs) record_length) ∷ ask 12 (is_header cfg h bs) ∷ []

-- the bytes before and after
pub record WritePost (cfg : Config) (h : Header) (bs after : List ℕ) (r : Verdict) : Type 0 where
  pub number : verdict_number r ≡ first_no (write_questions cfg h bs)
  pub bytes : after ≡ cond (eqb (first_no (write_questions cfg h bs)) 0) (record_of cfg (with_element cfg h bs)) bs

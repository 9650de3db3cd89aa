-- A client's state as bytes: how it is packed, what bytes tell, and which bytes are a state's.
use Rattle.std.specs.Prelude.{ℕ, ◌+◌, ◌*◌, Bool, false, cond, ◌&&◌, ◌≡◌, List, [], ◌∷◌, ◌++◌, eqb, length, get_or, replicate}
use Rattle.laws.specs.Bytes.{joined, tabulate}
use Rattle.config.specs.declared.Config.{Config}
use Rattle.config.specs.Config.{questions}
use Rattle.config.specs.Number.{client_number}
use Rattle.config.specs.Questions.{Question, ask, first_no, within}
use Rattle.config.specs.Refusal.{verdict_number}
use Rattle.tag.specs.declared.Tag.{Tag}
use Rattle.tag.specs.Tag.{start}
use Rattle.record.specs.Record.{four_bytes, number_at, two_bytes}
use Rattle.client.specs.declared.Phase.{Phase}
use Rattle.client.specs.declared.Phase.TheVariants.{Idle, Asking, PreWriting, FinalisingWrite, FinalisingRead, Down}
use Rattle.client.specs.declared.State.{State}
use Rattle.client.specs.Servers.{member}
use Rattle.states.specs.declared.clients.Numbers.{Numbers}
use Rattle.states.specs.declared.clients.Unpacked.{Unpacked}
use Rattle.states.specs.Bytes.{length_from, same_bytes, tag_from, tag_row}

-- ---- packing

-- a phase as numbers, 0 for what it does not have: which it is, whether it writes, its tag, the servers counted, those that sent an element
unfoldable pub numbers_of : Phase → Numbers
numbers_of Idle = record { which = 0; writes = false; tag = start; counted = 0; sent = 0 }
numbers_of (Asking writes best counted) = record { which = 1; writes = writes; tag = best; counted = counted; sent = 0 }
numbers_of (PreWriting tag counted) = record { which = 2; writes = false; tag = tag; counted = counted; sent = 0 }
numbers_of (FinalisingWrite tag counted) = record { which = 3; writes = false; tag = tag; counted = counted; sent = 0 }
numbers_of (FinalisingRead tag counted sent) = record { which = 4; writes = false; tag = tag; counted = counted; sent = sent }
numbers_of Down = record { which = 5; writes = false; tag = start; counted = 0; sent = 0 }

-- the first row: the client's number, the phase, whether it writes, and the operation number
unfoldable pub head_row : State → Numbers → List ℕ
head_row x n = client_number x.me ∷ n.which ∷ cond n.writes 1 0 ∷ 0 ∷ four_bytes x.operation

-- the length of the board to write, in use while the client asks to write
abbrev pub kept_length : State → Numbers → ℕ
kept_length x n = cond n.writes x.length 0

-- the length at place i, that of server i + 1, in use where that server sent an element
unfoldable pub sent_length : List ℕ → ℕ → ℕ → ℕ
sent_length lengths sent i = cond (member sent (i + 1)) (get_or lengths i 0) 0

-- 56 bytes: the first row; the tag and the length of the board to write; the servers counted and those that sent an element; the lengths sent
unfoldable pub packed_with : State → Numbers → List ℕ
packed_with x n =
    head_row x n ++ tag_row n.tag (kept_length x n) ++ (four_bytes n.counted ++ four_bytes n.sent) ++ joined (tabulate 16 (λ i. two_bytes (sent_length x.lengths n.sent i)))

abbrev pub packed : State → List ℕ
packed x = packed_with x (numbers_of x.phase)

-- ---- unpacking

abbrev pub packed_length : ℕ
packed_length = 56

-- the phase of numbers; a number that is no phase's is taken for the last
unfoldable pub phase_of : ℕ → Bool → Tag → ℕ → ℕ → Phase
phase_of which writes t counted sent =
    cond (eqb which 0) Idle
    (cond (eqb which 1) (Asking writes t counted)
    (cond (eqb which 2) (PreWriting t counted)
    (cond (eqb which 3) (FinalisingWrite t counted)
    (cond (eqb which 4) (FinalisingRead t counted sent)
    Down))))

-- the state that bytes tell
unfoldable pub state_of : List ℕ → State
state_of bs =
    record {
      me = record { 0 = get_or bs 0 0 };
      operation = number_at 4 bs;
      phase = phase_of (get_or bs 1 0) (eqb (get_or bs 2 0) 1) (tag_from bs 8) (number_at 16 bs) (number_at 20 bs);
      length = length_from bs 13;
      lengths = tabulate 16 (λ i. length_from bs (24 + 2 * i));
    }

-- Bytes are a state's: there are 56, the client is one of the configuration, and they are what packing the state that they tell gives.
unfoldable pub is_state : Config → List ℕ → Bool
is_state cfg bs = eqb (length bs) packed_length && (within 1 cfg.c (get_or bs 0 0) && same_bytes (packed (state_of bs)) bs)

-- questions 1 to 5 and 21; 6, whether the bytes are a state's
unfoldable pub unpack_questions : Config → List ℕ → List Question
unpack_questions cfg bs = questions cfg ++ ask 6 (is_state cfg bs) ∷ []

-- ---- the calls

-- the state with nothing where nothing is in use
unfoldable pub tidy : State → State
tidy x =
    record {
      me = x.me;
      operation = x.operation;
      phase = x.phase;
      length = kept_length x (numbers_of x.phase);
      lengths = tabulate 16 (sent_length x.lengths (numbers_of x.phase).sent);
    }

-- Packing: the bytes, and that they tell the state, with nothing where nothing is in use. That they unpack is `packed_state` (proofs/clients/Laws).
pub record PackPost (x : State) (out : List ℕ) : Type 0 where
  pub bytes : out ≡ packed x
  pub back : state_of out ≡ tidy x

-- Unpacking; a refusal gives the state that zeros tell, of client 1.
pub record UnpackPost (cfg : Config) (bs : List ℕ) (r : Unpacked) : Type 0 where
  pub number : verdict_number r.verdict ≡ first_no (unpack_questions cfg bs)
  pub state : r.state ≡ cond (eqb (first_no (unpack_questions cfg bs)) 0) (state_of bs) (state_of (1 ∷ replicate 55 0))

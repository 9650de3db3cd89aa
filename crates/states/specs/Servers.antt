-- A server's state as bytes: how it is packed, what bytes tell, and which bytes are a state's.
use Rattle.tag.specs.declared.Tag.{Tag}
use Rattle.std.specs.Prelude.{ℕ, ◌+◌, ◌*◌, Bool, cond, ◌&&◌, ◌≡◌, List, [], ◌∷◌, ◌++◌, eqb, leb, length, get_or, replicate}
use Rattle.laws.specs.Bytes.{joined, tabulate}
use Rattle.config.specs.declared.Config.{Config}
use Rattle.config.specs.Config.{questions}
use Rattle.config.specs.Number.{server_number}
use Rattle.config.specs.Questions.{Question, ask, first_no, within}
use Rattle.config.specs.Refusal.{verdict_number}
use Rattle.tag.specs.Tag.{start}
use Rattle.std.specs.Prelude.{Option, None, Some}
use Rattle.server.specs.declared.State.{State}
use Rattle.server.specs.View.{stored_length, tag_at}
use Rattle.states.specs.declared.servers.Unpacked.{Unpacked}
use Rattle.states.specs.Bytes.{empty_row, length_from, same_bytes, tag_from, tag_row}

-- ---- packing

-- whether there is a floor, as a number
abbrev pub floor_flag : Option Tag → ℕ
floor_flag None = 0
floor_flag (Some t) = 1

-- the first row: the server's number, how many tags are stored, whether there is a floor
unfoldable pub head_row : State → List ℕ
head_row s = server_number s.me ∷ s.count ∷ floor_flag s.floor ∷ replicate 5 0

unfoldable pub floor_row : Option Tag → List ℕ
floor_row None = empty_row
floor_row (Some t) = tag_row t 0

-- the row of the stored tag at place i, with the length beside its element; past the count nothing is kept
unfoldable pub stored_row : State → ℕ → List ℕ
stored_row s i = cond (leb s.count i) empty_row (tag_row (tag_at s.tags i) (stored_length s.lengths i))

-- 88 bytes: the first row, the highest finalised tag, the floor, and the stored tags
unfoldable pub packed : State → List ℕ
packed s = head_row s ++ tag_row s.highest 0 ++ floor_row s.floor ++ joined (tabulate 8 (stored_row s))

-- ---- unpacking

abbrev pub packed_length : ℕ
packed_length = 88

-- where the row of the stored tag at place i begins
abbrev pub stored_at : ℕ → ℕ
stored_at i = 24 + 8 * i

-- the state that bytes tell
unfoldable pub state_of : List ℕ → State
state_of bs =
    record {
      me = record { 0 = get_or bs 0 0 };
      count = get_or bs 1 0;
      highest = tag_from bs 8;
      floor = cond (eqb (get_or bs 2 0) 1) (Some (tag_from bs 16)) None;
      tags = tabulate 8 (λ i. tag_from bs (stored_at i));
      lengths = tabulate 8 (λ i. length_from bs (stored_at i + 5));
    }

-- Bytes are a state's: there are 88, the server is one of the configuration, and they are what packing the state that they tell gives.
unfoldable pub is_state : Config → List ℕ → Bool
is_state cfg bs = eqb (length bs) packed_length && (within 1 cfg.n (get_or bs 0 0) && same_bytes (packed (state_of bs)) bs)

-- questions 1 to 5 and 21; 6, whether the bytes are a state's
unfoldable pub unpack_questions : Config → List ℕ → List Question
unpack_questions cfg bs = questions cfg ++ ask 6 (is_state cfg bs) ∷ []

-- ---- the calls

-- the state with nothing in the places that are not in use
unfoldable pub tidy : State → State
tidy s =
    record {
      me = s.me;
      count = s.count;
      highest = s.highest;
      floor = s.floor;
      tags = tabulate 8 (λ i. cond (leb s.count i) start (tag_at s.tags i));
      lengths = tabulate 8 (λ i. cond (leb s.count i) 0 (stored_length s.lengths i));
    }

-- Packing: the bytes, and that they tell the state, with nothing where nothing is in use. That they unpack is `packed_state` (proofs/servers/Laws).
pub record PackPost (s : State) (out : List ℕ) : Type 0 where
  pub bytes : out ≡ packed s
  pub back : state_of out ≡ tidy s

-- Unpacking; a refusal gives the state that zeros tell, of server 1.
pub record UnpackPost (cfg : Config) (bs : List ℕ) (r : Unpacked) : Type 0 where
  pub number : verdict_number r.verdict ≡ first_no (unpack_questions cfg bs)
  pub state : r.state ≡ cond (eqb (first_no (unpack_questions cfg bs)) 0) (state_of bs) (state_of (1 ∷ replicate 87 0))

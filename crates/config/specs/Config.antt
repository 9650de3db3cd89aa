-- Document 01, "Configuration", with the ranks of document 02, and questions 1 to 5 and 21.
use Rattle.std.specs.Prelude.{ℕ, ◌+◌, ◌-◌, ◌*◌, ◌/◌, ◌≤◌, Bool, true, cond, ◌≡◌, List, [], ◌∷◌, ◌++◌, leb, get_or, replicate}
use Rattle.laws.specs.Below.{all_below}
use Rattle.config.specs.declared.Config.{Config}
use Rattle.config.specs.Questions.{Question, ask, within}

-- the most servers: "N servers, 1 to 16"
abbrev pub most_servers : ℕ
most_servers = 16

-- the most clients: "C clients, 1 to 16"
abbrev pub most_clients : ℕ
most_clients = 16

-- the greatest D, "the δ of document 002, 0 to 7"
abbrev pub most_depth : ℕ
most_depth = 7

-- the greatest E: "E bytes in an element, 1 to 64"
abbrev pub most_width : ℕ
most_width = 64

-- the greatest M: "at most M records, 1 to 512"
abbrev pub most_messages : ℕ
most_messages = 512

-- "A board has V = k × E bytes."
abbrev pub board_length : Config → ℕ
board_length cfg = cfg.k * cfg.e

-- "(D + 1) × E for each server's store"
abbrev pub store_length : Config → ℕ
store_length cfg = (cfg.d + 1) * cfg.e

-- "Message record, 80 bytes"
abbrev pub record_length : ℕ
record_length = 80

-- "80 × N for a client's sends"
abbrev pub sends_length : Config → ℕ
sends_length cfg = record_length * cfg.n

-- "N × E for the elements a client has received"
abbrev pub elements_length : Config → ℕ
elements_length cfg = cfg.n * cfg.e

-- "A quorum is q = (N + k) / 2 rounded up"
abbrev pub quorum_of : Config → ℕ
quorum_of cfg = (cfg.n + cfg.k + 1) / 2

-- "Give each client a rank from 0 to 3 in the configuration"
abbrev pub highest_rank : ℕ
highest_rank = 3

-- the rank of client c: that of client 1 stands first; a number that no client has, 0 in the starting tag among them, has rank 0
unfoldable pub rank : Config → ℕ → ℕ
rank cfg c = cond (within 1 cfg.c c) (get_or cfg.ranks (c - 1) 0) 0

-- every rank 0
abbrev pub no_ranks : List ℕ
no_ranks = replicate most_clients 0

-- "all ranks equal": those of the clients, 1 to C
abbrev pub RanksEqual : Config → Type 0
RanksEqual cfg = (c d : ℕ) → within 1 cfg.c c ≡ true → within 1 cfg.c d ≡ true → rank cfg c ≡ rank cfg d

-- "21, is each rank at most 3": that of each client, 1 to C
unfoldable pub ranks_within : Config → Bool
ranks_within cfg = all_below cfg.c (λ i. leb (rank cfg (i + 1)) highest_rank)

-- "1. Is N in range? 2. Is k? 3. Is D? 4. Is E? 5. Is C"
abbrev pub questions_to5 : Config → List Question
questions_to5 cfg =
    ask 1 (within 1 most_servers cfg.n)
    ∷ ask 2 (within 1 cfg.n cfg.k)
    ∷ ask 3 (leb cfg.d most_depth)
    ∷ ask 4 (within 1 most_width cfg.e)
    ∷ ask 5 (within 1 most_clients cfg.c)
    ∷ []

-- "21, is each rank at most 3, placed after 5"
unfoldable pub questions : Config → List Question
questions cfg = questions_to5 cfg ++ ask 21 (ranks_within cfg) ∷ []

-- "5. Is C, and in the rig M?": 5 is asked of C, and then of M; 21 comes after both
unfoldable pub rig_questions : Config → ℕ → List Question
rig_questions cfg m = questions_to5 cfg ++ ask 5 (within 1 most_messages m) ∷ ask 21 (ranks_within cfg) ∷ []

-- one server and one client, of rank 0
abbrev pub least : Config
least = record { n = 1; k = 1; d = 0; e = 1; c = 1; ranks = no_ranks }

-- a configuration of which questions 1 to 5 and 21 are answered yes
pub record Valid (cfg : Config) : Type 0 where
  pub n_low : 1 ≤ cfg.n
  pub n_high : cfg.n ≤ most_servers
  pub k_low : 1 ≤ cfg.k
  pub k_high : cfg.k ≤ cfg.n
  pub d_high : cfg.d ≤ most_depth
  pub e_low : 1 ≤ cfg.e
  pub e_high : cfg.e ≤ most_width
  pub c_low : 1 ≤ cfg.c
  pub c_high : cfg.c ≤ most_clients
  pub ranks_high : (c : ℕ) → rank cfg c ≤ highest_rank

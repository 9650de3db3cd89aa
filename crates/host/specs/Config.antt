-- A configuration as bytes: N, k, D, E and C, a byte each, and the ranks of 16 clients, of which those past C are not looked at.
use Rattle.std.specs.Prelude.{ℕ, List, ◌∷◌, eqb, length, get_or, drop}
use Rattle.config.specs.declared.Config.{Config}
use Rattle.config.specs.Config.{questions}
use Rattle.config.specs.Questions.{Question, ask}
use Rattle.states.specs.Clients as clients
use Rattle.states.specs.Servers as servers

abbrev pub config_length : ℕ
config_length = 21

abbrev pub config_of : List ℕ → Config
config_of bs = record { n = get_or bs 0 0; k = get_or bs 1 0; d = get_or bs 2 0; e = get_or bs 3 0; c = get_or bs 4 0; ranks = drop 5 bs }

-- 6: are there 21 bytes? Without them there is no configuration to ask of. Then questions 1 to 5 and 21.
unfoldable pub config_questions : List ℕ → List Question
config_questions bs = ask 6 (eqb (length bs) config_length) ∷ questions (config_of bs)

-- the same, and 6: are the bytes a server's state, or a client's?
unfoldable pub server_questions : List ℕ → List ℕ → List Question
server_questions config state = ask 6 (eqb (length config) config_length) ∷ servers.unpack_questions (config_of config) state

unfoldable pub client_questions : List ℕ → List ℕ → List Question
client_questions config state = ask 6 (eqb (length config) config_length) ∷ clients.unpack_questions (config_of config) state

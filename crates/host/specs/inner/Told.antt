-- What the bytes of a configuration and of a state tell, for the private functions: the refusal of the first question that is answered no or, where
-- there is none, the configuration and the state.
use Rattle.std.specs.Prelude.{ℕ, ◌≡◌, List, [], ◌∷◌, eqb, length, Result, Ok, Err}
use Rattle.config.specs.declared.Config.{Config}
use Rattle.config.specs.declared.Refusal.{Refusal}
use Rattle.config.specs.Questions.{Question, ask, first_no}
use Rattle.config.specs.Refusal.{verdict_number}
use Rattle.states.specs.Clients as clients
use Rattle.states.specs.Servers as servers
use Rattle.host.specs.declared.told.OfClient.{OfClient}
use Rattle.host.specs.declared.told.OfServer.{OfServer}
use Rattle.host.specs.Config.{client_questions, config_length, config_of, config_questions, server_questions}

-- what is given is x; a refusal gives nothing
abbrev pub Gives : {T : Type 0} → T → Result T Refusal → Type 0
Gives x (Ok given) = given ≡ x
Gives x (Err why) = Unit {0}

-- bytes of which these questions are asked, and which tell x
pub record Told {T : Type 0} (asks : List Question) (x : T) (r : Result T Refusal) : Type 0 where
  pub number : verdict_number r ≡ first_no asks
  pub gives : Gives x r

-- the bytes alone
abbrev pub ConfigRead : List ℕ → Result Config Refusal → Type 0
ConfigRead bytes r = Told (ask 6 (eqb (length bytes) config_length) ∷ []) (config_of bytes) r

abbrev pub ConfigTold : List ℕ → Result Config Refusal → Type 0
ConfigTold bytes r = Told (config_questions bytes) (config_of bytes) r

abbrev pub ServerTold : List ℕ → List ℕ → Result OfServer Refusal → Type 0
ServerTold bytes state r = Told (server_questions bytes state) (record { cfg = config_of bytes; state = servers.state_of state }) r

abbrev pub ClientTold : List ℕ → List ℕ → Result OfClient Refusal → Type 0
ClientTold bytes state r = Told (client_questions bytes state) (record { cfg = config_of bytes; state = clients.state_of state }) r

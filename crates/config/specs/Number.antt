-- The numbers of servers and clients. "A server number is never accepted where a client number is due": the two are types
-- of their own, made only by the constructors whose answers stand here.
use Rattle.std.specs.Prelude.{ℕ, cond, ◌≡◌, List, [], ◌∷◌, ◌++◌, eqb, Result, Ok, Err}
use Rattle.config.specs.declared.Config.{Config}
use Rattle.config.specs.declared.Server.{Server}
use Rattle.config.specs.declared.Client.{Client}
use Rattle.config.specs.declared.Refusal.{Refusal}
use Rattle.config.specs.Config.{questions}
use Rattle.config.specs.Questions.{Question, ask, within, first_no}
use Rattle.config.specs.Refusal.{verdict_number}

-- the number that a Server wraps
abbrev pub server_number : Server → ℕ
server_number s = s.0

-- the number that a Client wraps
abbrev pub client_number : Client → ℕ
client_number c = c.0

-- questions 1 to 5, 21, and 8: is it a server's number, 1 to N?
unfoldable pub server_questions : Config → ℕ → List Question
server_questions cfg s = questions cfg ++ ask 8 (within 1 cfg.n s) ∷ []

-- questions 1 to 5, 21, and 8: is it a client's number, 1 to C?
unfoldable pub client_questions : Config → ℕ → List Question
client_questions cfg c = questions cfg ++ ask 8 (within 1 cfg.c c) ∷ []

-- the answers of the constructors
abbrev pub NewServer : Type 0
NewServer = Result Server Refusal

abbrev pub NewClient : Type 0
NewClient = Result Client Refusal

-- what a constructor made wraps: 0 where it made none
abbrev pub server_made : NewServer → ℕ
server_made (Ok s) = server_number s
server_made (Err why) = 0

abbrev pub client_made : NewClient → ℕ
client_made (Ok c) = client_number c
client_made (Err why) = 0

-- a type that wraps a number is made exactly of a number x that passes the questions, and wraps that number: `answer` is the number of the
-- constructor's answer, and `wrapped` what it made wraps
pub record NewPost (qs : List Question) (x answer wrapped : ℕ) : Type 0 where
  pub number : answer ≡ first_no qs
  pub made : wrapped ≡ cond (eqb (first_no qs) 0) x 0

abbrev pub NewServerPost : Config → ℕ → NewServer → Type 0
NewServerPost cfg s r = NewPost (server_questions cfg s) s (verdict_number r) (server_made r)

abbrev pub NewClientPost : Config → ℕ → NewClient → Type 0
NewClientPost cfg c r = NewPost (client_questions cfg c) c (verdict_number r) (client_made r)

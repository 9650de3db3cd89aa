-- "The order of stored elements in the store is free": states of a server that differ in it and in the bytes of places not in use alone, and
-- steps that answer alike.
use Rattle.std.specs.Prelude.{◌≡◌, ℕ, List, length}
use Rattle.config.specs.declared.Config.{Config}
use Rattle.config.specs.Number.{server_number}
use Rattle.config.specs.Refusal.{verdict_number}
use Rattle.protocol.specs.Alike.{SameButOrder}
use Rattle.server.specs.declared.State.{State}
use Rattle.server.specs.declared.Stepped.{Stepped}
use Rattle.server.specs.View.{view}

-- two states of one server, with stores of one length: what is seen of them differs in the order alone
pub record AlikeStates (cfg : Config) (s z : State) (storeS storeZ : List ℕ) : Type 0 where
  pub me : server_number s.me ≡ server_number z.me
  pub long : length storeS ≡ length storeZ
  pub seen : SameButOrder (view cfg s storeS) (view cfg z storeZ)

-- two steps: one number, one content of the answer's record, and two such states
pub record AlikeSteps (cfg : Config) (a b : Stepped) (storeA storeB answerA answerB : List ℕ) : Type 0 where
  pub number : verdict_number a.verdict ≡ verdict_number b.verdict
  pub answer : answerA ≡ answerB
  pub states : AlikeStates cfg a.state b.state storeA storeB

-- Lists of events that go on from a state.
use Rattle.std.specs.Prelude.{List, [], ◌∷◌}

-- Each event is from what the one before left; the last state is what they leave. `OneEvent` says what one event does.
pub data GoesOn {State E : Type 0} (OneEvent : State → E → State → Type 0) : State → List E → State → Type 0 where
  stays : {x : State} → GoesOn OneEvent x [] x
  goes : {x y z : State} {e : E} {later : List E} → OneEvent x e y → GoesOn OneEvent y later z → GoesOn OneEvent x (e ∷ later) z

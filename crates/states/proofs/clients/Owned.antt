-- What the types of a client's state and of a phase's numbers tell: their numbers have four bytes, and the lengths two. Assumes nothing.
use mathlib.Core.List.{List}
use native.Mathlib.Omega.{arith}
use mir.Val.{Val}
use denote.Laws.{Is}
use Rattle.tag.proofs.Owned.{tag_number}
use Rattle.client.specs.declared.State.{State}
use Rattle.client.specs.contracts.State as state
use Rattle.states.specs.declared.clients.Numbers.{Numbers}
use Rattle.states.specs.contracts.clients.Numbers as numbers
use Rattle.states.proofs.Owned.{lengths_small}
use Rattle.states.proofs.clients.Back.{Fitting, NumbersFit}

pub fitting : (x : State) (vs : List Val) → Is state.the_row x vs → Fitting x
fitting x vs p =
    record {
      operation = omega (arith, p.1.1.1.0.1);
      length = omega (arith, p.1.1.1.1.1.0.1);
      lengths = lengths_small 16 x.lengths _ p.1.1.1.1.1.1.0;
    }

pub numbers_fit : (n : Numbers) (vs : List Val) → Is numbers.the_row n vs → NumbersFit n
numbers_fit n vs p =
    record {
      tag = tag_number n.tag _ p.1.1.1.1.0;
      counted = omega (arith, p.1.1.1.1.1.0.1);
      sent = omega (arith, p.1.1.1.1.1.1.0.1);
    }

-- What the type of the buffers tells: how long each is. Assumes nothing.
use mathlib.Core.Path.{◌≡◌}
use mathlib.Core.List.{List}
use lib.ListN.{length}
use mir.Val.{Val}
use denote.Laws.{Is}
use denote.Plain.{UInt}
use mir.Syntax.{w8}
use Rattle.parties.proofs.Owned.{array_length}
use Rattle.refusals.specs.declared.rigs.Lent.{Lent}
use Rattle.refusals.specs.contracts.rigs.Lent as lent

module _ (l : Lent) (vs : List Val) (p : Is lent.the_row l vs) where
  pub read_long : length l.read ≡ 2
  read_long = array_length (UInt w8) 2 l.read _ p.1.1.0

  pub messages_long : length l.messages ≡ 5121
  messages_long = array_length (UInt w8) 5121 l.messages _ p.1.1.1.0

  pub stores_long : length l.stores ≡ 4
  stores_long = array_length (UInt w8) 4 l.stores _ p.1.1.1.1.0

  pub boards_long : length l.boards ≡ 3
  boards_long = array_length (UInt w8) 3 l.boards _ p.1.1.1.1.1.0

  pub elements_long : length l.elements ≡ 7
  elements_long = array_length (UInt w8) 7 l.elements _ p.1.1.1.1.1.1.0

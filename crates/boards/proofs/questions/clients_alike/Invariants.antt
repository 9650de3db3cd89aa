-- The clients of the places passed are up on both boards or down on both. Assumes nothing.
use Prim.Native.Nat.{ℕ}
use mathlib.Core.Path.{◌≡◌}
use mathlib.Core.Bool.{Bool, true}
use lib.ListN.{get_elem?}
use Rattle.laws.specs.Below.{all_below}
use Rattle.boards.specs.declared.OneBoard.{OneBoard}
use Rattle.boards.specs.Questions.{client_up, same}
use Rattle.boards.proofs.questions.clients_alike.Given as goal

-- of a place, what stands there
abbrev pub alikeAt : OneBoard → OneBoard → ℕ → Bool
alikeAt x y i = same (client_up (get_elem? x.clients i)) (client_up (get_elem? y.clients i))

abbrev pub invariant-loop-i : goal.invariant-loop-i
invariant-loop-i l = all_below l.i (alikeAt l.x l.y) ≡ true

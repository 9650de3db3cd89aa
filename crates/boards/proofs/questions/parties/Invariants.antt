-- The boards passed are within their limits. Assumes nothing.
use mathlib.Core.Path.{◌≡◌}
use mathlib.Core.Bool.{true}
use Rattle.laws.specs.Below.{all_below}
use Rattle.boards.specs.Questions.{board_within}
use Rattle.boards.proofs.questions.parties.Given as goal

abbrev pub invariant-loop-i : goal.invariant-loop-i
invariant-loop-i l = all_below l.i (board_within l.cfg l.room l.rig) ≡ true

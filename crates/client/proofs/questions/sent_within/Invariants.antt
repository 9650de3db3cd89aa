use mathlib.Core.Path.{◌≡◌}
use mathlib.Core.Bool.{Bool, true, cond}
use mathlib.Core.List.{List}
use Prim.Native.Nat.{ℕ, ◌+◌}
use lib.Dec.{leb}
use lib.ListN.{get_or}
use Rattle.laws.specs.Below.{all_below}
use Rattle.config.specs.declared.Config.{Config}
use Rattle.config.specs.Config.{board_length}
use Rattle.client.specs.Servers.{member}
use Rattle.client.proofs.questions.sent_within.Given as goal

-- what is asked of the server of place i
abbrev pub here : Config → ℕ → List ℕ → ℕ → Bool
here cfg sent lengths i = cond (member sent (i + 1)) (leb (get_or lengths i 0) (board_length cfg)) true

abbrev pub invariant-loop-i : goal.invariant-loop-i
invariant-loop-i l = all_below l.i (here l.fn.cfg l.sent l.lengths) ≡ true

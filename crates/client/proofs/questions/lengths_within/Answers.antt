use mathlib.Core.Path.{◌≡◌, refl}
use mathlib.Core.Bool.{true}
use mathlib.Core.List.{List, [], ◌∷◌}
use Prim.Native.Nat.{ℕ}
use native.Mathlib.Omega.{arith}
use denote.Enum.Declared.{tag_of}
use types.Run.{OneOf, miss}
use Rattle.config.specs.declared.Config.{Config}
use Rattle.config.proofs.Sizes.{board_small}
use Rattle.client.specs.declared.Phase.{Phase}
use Rattle.client.specs.declared.Phase.TheVariants.{Idle, Asking, PreWriting, FinalisingWrite, FinalisingRead, Down}
use Rattle.client.specs.State.{lengths_within}
use Rattle.client.specs.contracts.Phase as phase
use borrow.Enum.Refused.{opened}
use Rattle.client.proofs.questions.lengths_within.Goals as goal

-- of the other phases nothing is asked
none-used : (cfg : Config) (p : Phase) (n : ℕ) (ns : List ℕ) → OneOf (0 ∷ 2 ∷ 3 ∷ 5 ∷ []) (tag_of phase.the_type p) → true ≡ lengths_within cfg p n ns
unfolding lengths_within
none-used cfg Idle n ns h = refl
none-used cfg (Asking writes best counted) n ns h = absurd (miss (0 ∷ 2 ∷ 3 ∷ 5 ∷ []) 1 tt h)
none-used cfg (PreWriting tag counted) n ns h = refl
none-used cfg (FinalisingWrite tag counted) n ns h = refl
none-used cfg (FinalisingRead tag counted sent) n ns h = absurd (miss (0 ∷ 2 ∷ 3 ∷ 5 ∷ []) 4 tt h)
none-used cfg Down n ns h = refl

pub overflow_mul-cfg : goal.overflow_mul-cfg
overflow_mul-cfg c = omega (arith, board_small c.args.cfg c.requires)

-- that of a board to write, if it writes
pub returns-in-Asking : goal.returns-in-Asking
unfolding lengths_within
returns-in-Asking c = rw c.in-Asking.is c.length_within.ensures

-- those of the elements received
pub returns-in-FinalisingRead : goal.returns-in-FinalisingRead
unfolding lengths_within
returns-in-FinalisingRead c = rw c.in-FinalisingRead.is c.sent_within.ensures

pub returns-in_default : goal.returns-in_default
returns-in_default c = none-used c.args.cfg c.args.x.phase _ _ (opened c.in_default.in_default-own.keys3)

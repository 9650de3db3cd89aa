-- `load::blocks` meets its contract: each turn makes one block. Assumes nothing.
use Prim.Native.Nat.{ℕ, ◌+◌, ◌≤◌}
use mathlib.Core.Path.{◌≡◌}
use mathlib.Core.List.{List}
use lib.ListN.{length}
use Rattle.events.specs.View.{Lent, lent}
use Rattle.maker.specs.declared.Load.{Load}
use Rattle.maker.specs.Steps.{MadeSo}
use Rattle.load.proofs.blocks.Given as goal

-- some records are made, and so many are left at most; the lengths stay
pub record Now (x₀ : Load) (l₀ : Lent) (count : ℕ) (out₀ : List ℕ) (x : Load) (l : Lent) (left : ℕ) (out : List ℕ) : Type 0 where
  pub number : ℕ
  pub bytes : List ℕ
  pub most : number + left ≤ count
  pub made : MadeSo x₀ l₀ number bytes x l
  pub same : length out ≡ length out₀
  pub messages : length l.messages ≡ length l₀.messages
  pub stores : length l.stores ≡ length l₀.stores
  pub boards : length l.boards ≡ length l₀.boards
  pub elements : length l.elements ≡ length l₀.elements

abbrev pub invariant-loop-left : goal.invariant-loop-left
invariant-loop-left l =
    Now l.initial.load (lent l.initial.messages l.initial.stores l.initial.boards l.initial.elements) l.count l.initial.out l.load (lent l.messages l.stores l.boards l.elements) l.left l.out

abbrev pub decreases-loop-left : goal.decreases-loop-left
decreases-loop-left l = l.left

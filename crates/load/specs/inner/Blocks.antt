-- The blocks of a run, whatever is written.
use Rattle.std.specs.Prelude.{ℕ, ◌≤◌, List}
use Rattle.events.specs.View.{Lent}
use Rattle.maker.specs.declared.Load.{Load}
use Rattle.maker.specs.Steps.{MadeSo}

-- Some records are made, at most so many as stated, in blocks one behind the other.
pub record MadeMost (x : Load) (l : Lent) (count : ℕ) (x' : Load) (l' : Lent) : Type 0 where
  pub number : ℕ
  pub bytes : List ℕ
  pub most : number ≤ count
  pub made : MadeSo x l number bytes x' l'

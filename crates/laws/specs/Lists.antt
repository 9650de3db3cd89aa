-- A list without one of its places, and one place of a list as a list.
use Rattle.std.specs.Prelude.{ℕ, ◌+◌, List, [], ◌∷◌, ◌++◌, take, drop}
use Rattle.std.proofs.Math.Option.{Option, none, some}

-- the list without what stands at a position
unfoldable pub without : {A : Type 0} → ℕ → List A → List A
without i xs = take i xs ++ drop (i + 1) xs

-- none or one
unfoldable pub to_list : {A : Type 0} → Option A → List A
to_list none = []
to_list (some a) = a ∷ []

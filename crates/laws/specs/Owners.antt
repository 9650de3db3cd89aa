-- Things in a list, each with the number of its owner beside it, in a list of its own.
use Rattle.std.specs.Prelude.{ℕ, zero, suc, cond, List, [], ◌∷◌, eqb}

-- b's things, in their order
unfoldable pub own : {A : Type 0} → ℕ → List ℕ → List A → List A
own b [] xs = []
own b (o ∷ os) [] = []
own b (o ∷ os) (x ∷ xs) = cond (eqb o b) (x ∷ own b os xs) (own b os xs)

-- how many are b's
unfoldable pub count_of : ℕ → List ℕ → ℕ
count_of b [] = 0
count_of b (o ∷ os) = cond (eqb o b) (suc (count_of b os)) (count_of b os)

-- where the thing at position i of b's, from 0, stands among all; behind the last where b has no such
unfoldable pub place_of : ℕ → ℕ → List ℕ → ℕ
place_of b i [] = 0
place_of b zero (o ∷ os) = cond (eqb o b) 0 (suc (place_of b zero os))
place_of b (suc i) (o ∷ os) = suc (place_of b (cond (eqb o b) i (suc i)) os)

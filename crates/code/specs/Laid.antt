-- Lists that are laid into a buffer at a distance from each other.
use Rattle.std.specs.Prelude.{ℕ, zero, suc, ◌+◌, ◌*◌, List}
use Rattle.laws.specs.Parts.{over}

-- the buffer with f 0 to f (n - 1) put over it in turn: f t over the e bytes from offset + t × distance on
unfoldable pub laid : (ℕ → List ℕ) → ℕ → ℕ → ℕ → ℕ → List ℕ → List ℕ
laid f e offset distance zero buffer = buffer
laid f e offset distance (suc t) buffer = over (offset + t * distance) e (f t) (laid f e offset distance t buffer)

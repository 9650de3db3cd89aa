-- Parts of a buffer of bytes.
use Rattle.std.specs.Prelude.{ℕ, ◌+◌, ◌*◌, List, ◌++◌, take, drop}

-- part i, from 0, of a buffer of parts of n bytes
abbrev pub part : ℕ → ℕ → List ℕ → List ℕ
part n i buffer = take n (drop (i * n) buffer)

-- the buffer with xs in the place of its n bytes from `at` on
abbrev pub over : ℕ → ℕ → List ℕ → List ℕ → List ℕ
over at n xs buffer = take at buffer ++ (xs ++ drop (at + n) buffer)

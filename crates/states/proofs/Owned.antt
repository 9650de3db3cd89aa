-- What the type of an array of lengths tells: each has two bytes. Assumes nothing.
use Prim.Native.Nat.{ℕ, ◌<◌}
use mathlib.Core.List.{List}
use native.Mathlib.Omega.{arith}
use native.Mathlib.Decide.{dec_lt}
use lib.ListN.{length, get_or, get_or-eq_default}
use mir.Val.{Val}
use denote.Laws.{Is}
use denote.Array.{Array}
use denote.Builtin.{u16}
use Rattle.tag.proofs.Owned.{each_at}

pub lengths_small : (n : ℕ) (ns : List ℕ) (vs : List Val) → Is (Array u16 n) ns vs
    → (j : ℕ) → get_or ns j 0 < 65536
lengths_small n ns vs p j = elim (dec_lt j (length ns)) as (λ _. get_or ns j 0 < 65536) [
  | yes l ↦ omega (arith, (each_at u16 ns p.0 p.1.1 j l 0).1.1)
  | no l ↦ omega (arith, get_or-eq_default ns 0 {n = j} (omega (arith, l)))
]

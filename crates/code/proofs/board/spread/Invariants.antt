-- `code::board::spread` meets its contract: the rows before i have their multiples added, the others are as they were.
use Prim.Native.Nat.{◌*◌}
use mathlib.Core.Path.{◌≡◌}
use lib.ListN.{length}
use Rattle.code.proofs.Filled.{filled}
use Rattle.code.proofs.Spreading.{each}
use Rattle.code.proofs.board.spread.Given as goal

abbrev pub invariant-loop-i : goal.invariant-loop-i
invariant-loop-i l =
    (length l.board ≡ l.k * length l.x) × (l.board ≡ filled (each l.inverse l.r l.x l.initial.board) (l.i * length l.x) l.initial.board)

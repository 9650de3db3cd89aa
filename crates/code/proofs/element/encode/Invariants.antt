-- `code::element::encode` meets its contract: the part holds the value of the rows that have been taken.
use mathlib.Core.Path.{◌≡◌}
use Rattle.std.specs.Slice.Iter.{rchunks_rest, rchunks_size}
use Rattle.code.proofs.DownTo.{Left}
use Rattle.code.proofs.element.encode.Given as goal

abbrev pub invariant-loop-row : goal.invariant-loop-row
invariant-loop-row l =
    (rchunks_size l.row-iterator ≡ l.fn.cfg.e) × Left l.fn.cfg l.board l.s l.part (rchunks_rest l.row-iterator)

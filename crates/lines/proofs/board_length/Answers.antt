-- `lines::board_length` meets its contract. Assumes nothing.
use Rattle.std.proofs.Common.{ap, rules}
use Rattle.config.specs.declared.Lengths.{Lengths}
use Rattle.lines.proofs.board_length.Goals as goal

pub returns : goal.returns
returns c = ap (λ (x : Lengths). x.board) c.lengths-long.ensures

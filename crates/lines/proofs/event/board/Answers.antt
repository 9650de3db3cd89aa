-- `lines::event::board` meets its contract. Assumes nothing.
use Rattle.std.proofs.Common.{◌+◌, rules}
use Rattle.laws.proofs.Parts.{lent_is}
use Rattle.lines.proofs.event.board.Goals as goal

pub returns : goal.returns
returns c = let s = c.args in lent_is s.input.now (s.at + 4) s.v

-- `code::board::decode` meets its contract.
use mathlib.Core.Path.{refl, ◌∙◌}
use Rattle.code.proofs.Single.{part_small, single}
use Rattle.code.proofs.board.decode.Goals as goal

pub returns-then-cfg-eq1 : goal.returns-then-cfg-eq1
returns-then-cfg-eq1 c =
    let x = c.args in
    (c.copy.ensures.whole (part_small x.cfg x.servers.now x.elements.now x.buffer.now c.requires c.if-cfg-eq1.true)).1 ∙ single x.cfg x.servers.now x.elements.now x.buffer.now c.requires c.if-cfg-eq1.true (λ i. (c.shared_slice_known-2-1.given i).fits) _ refl

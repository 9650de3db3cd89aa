-- `stream::blocks` meets its contract. Assumes nothing.
use Rattle.std.proofs.Common.{arith}
use Rattle.events.specs.View.{lent}
use Rattle.stream.proofs.Going.{none_went, went_on}
use Rattle.stream.proofs.blocks.Goals as goal

pub loop-init : goal.loop-init
loop-init c =
    let a = c.args in
    record { went = none_went a.cfg a.m a.rig (lent a.messages.now a.stores.now a.boards.now a.elements.now); within = omega arith }

pub loop-preserved : goal.loop-preserved
loop-preserved c = record { went = went_on c.loop.invariant.went c.block-ran.ensures.ran; within = omega arith }

pub returns-after-loop : goal.returns-after-loop
returns-after-loop c = record { left = c.loop.rig; went = c.loop.invariant.went }

pub returns-then-not-wrote : goal.returns-then-not-wrote
returns-then-not-wrote c =
    let x = c.block-ran in
    record { left = x.result.rig; went = went_on c.loop.invariant.went x.ensures.ran }

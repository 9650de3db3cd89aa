use Rattle.client.specs.State.{Lent, lent}
use Rattle.client.proofs.Stepping.{asked_again, asks_again, not_awaited, server_places, server_small, settles, step_refused, stepped, takes}
use Rattle.client.proofs.step.Goals as goal
use Rattle.client.proofs.step.Goals.{After-receive}

-- the buffers
abbrev l : After-receive → Lent
l c = lent c.args.kept.now c.args.elements.now c.args.sends.now c.args.board.now

pub count-requires : goal.count-requires
count-requires c = let t = c.in-Ok.ensures in
    (t.0.valid, server_small _ _ _ (l (goal.at.count-requires c).After-receive) t.0 _ t.1)

pub returns-in_default : goal.returns-in_default
returns-in_default c = let t = c.in-Ok.ensures in
    not_awaited _ _ _ (l (goal.at.returns-in_default c).After-receive) t.0 _ t.1 c.in_default.ensures c.refused-in_default.ensures

pub ask_again-requires : goal.ask_again-requires
ask_again-requires c = let t = c.in-Ok.ensures in
    asks_again _ _ _ (l (goal.at.ask_again-requires c).After-receive) t.0 _ t.1

pub take-requires : goal.take-requires
take-requires c = let t = c.in-Ok.ensures in
    takes _ _ _ (l (goal.at.take-requires c).After-receive) t.0 _ t.1

pub counted-requires : goal.counted-requires
counted-requires c = let t = c.in-Ok.ensures in
    server_places _ _ _ (l (goal.at.counted-requires c).After-receive) t.0 _ t.1

pub settle-requires : goal.settle-requires
settle-requires c = let t = c.in-Ok.ensures in
    rw c.counted.ensures.state
    (settles _ _ _ (l (goal.at.settle-requires c).After-receive) t.0 _ t.1 c.in-Some.ensures c.in-Counted.is _ c.take.ensures c.take.auto.elements
    c.counted.ensures.sixteen)

pub returns-in-Err : goal.returns-in-Err
returns-in-Err c = step_refused _ _ _ (l (goal.at.returns-in-Err c).After-receive) _ (c.in-Err.ensures _) c.refused.ensures

pub returns-in-Cleared : goal.returns-in-Cleared
returns-in-Cleared c = let t = c.in-Ok.ensures in
    asked_again _ _ _ (l (goal.at.returns-in-Cleared c).After-receive) t.0 _ t.1 c.in-Some.ensures c.in-Cleared.is c.ask_again.ensures

pub returns-in-Counted : goal.returns-in-Counted
returns-in-Counted c = let t = c.in-Ok.ensures in
    stepped _ _ _ (l (goal.at.returns-in-Counted c).After-receive) t.0 _ t.1 c.in-Some.ensures c.in-Counted.is _ c.take.ensures c.take.auto.elements
    c.counted.ensures.sixteen
    (rw c.counted.ensures.state at c.settle.ensures)

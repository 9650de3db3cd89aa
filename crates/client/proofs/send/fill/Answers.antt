use borrow.Author.Tests.{not-true, not-false}
use Rattle.client.proofs.Sending.{encoded, none_filled}
use Rattle.client.proofs.send.fill.Goals as goal

pub returns-then-not-b : goal.returns-then-not-b
returns-then-not-b c = let s = c in
    none_filled s.args.cfg s.args.b.element s.args.s s.args.board.now s.args.buffer.now (not-true _ c.if-not-b.true)

pub returns : goal.returns
returns c = let s = c in
    encoded s.args.cfg s.args.b s.args.s s.args.board.now s.args.buffer.now s.requires (not-false _ c.if-not-b.false) _ _
    c.encode.ensures

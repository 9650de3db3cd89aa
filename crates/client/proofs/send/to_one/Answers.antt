use mathlib.Core.Path.{◌∙◌, ap}
use mathlib.Core.List.{List}
use Prim.Native.Nat.{ℕ}
use Rattle.record.specs.Record.{record_of}
use Rattle.client.specs.inner.Send.{addressed}
use Rattle.client.proofs.Sending.{filled_message}
use Rattle.client.proofs.send.to_one.Goals as goal

pub returns : goal.returns
returns c = let s = c in
    c.address.ensures
    ∙ ap (λ (l : List ℕ). record_of s.args.cfg (addressed s.args.cfg s.args.b s.args.s l)) c.fill.ensures
    ∙ ap (record_of _) (filled_message s.args.cfg s.args.b s.args.s s.args.board.now s.args.buffer.now s.requires)

use mathlib.Core.Path.{◌≡◌, sym, ◌∙◌, ap, subst}
use mathlib.Core.Bool.{true, true≢false}
use Prim.Native.Nat.{ℕ, ◌≤◌}
use native.Mathlib.Omega.{arith}
use Rattle.config.proofs.Questions.{within_true}
use Rattle.config.specs.Questions.{within}
use Rattle.record.specs.Record.{highest_number, record_of}
use Rattle.record.proofs.Parties.{no-server, some_server}
use Rattle.client.specs.inner.Send.{addressed}
use Rattle.client.proofs.Sending.{written}
use Rattle.client.proofs.send.address.Goals as goal

pub returns-in_default : goal.returns-in_default
returns-in_default c = let s = c in
    absurd (true≢false (sym (within_true 1 s.args.cfg.n s.args.s s.requires.low s.requires.high) ∙ no-server s.args.cfg s.args.s s.requires.goes.valid _ _ c.new.ensures c.in_default.is))

pub returns : goal.returns
returns c = let o : c.args.b.operation ≤ highest_number = omega arith in
    let n : c.args.b.tag.number ≤ highest_number = omega arith in
    let m = c in
    let s = m in
    let a = s.args in
    let made = some_server a.cfg a.s _ _ m.new.ensures m.in-Ok.is in
    let server = m.in-Ok.server in
    written a.cfg a.b s.requires.goes server (subst (λ (k : ℕ). within 1 a.cfg.n k ≡ true) (sym made.1) made.0) a.buffer.now s.requires.room o n _ _
    c.write.ensures
    ∙ ap (λ (k : ℕ). record_of a.cfg (addressed a.cfg a.b k a.buffer.now)) made.1

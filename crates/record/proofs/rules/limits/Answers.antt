use mathlib.Core.Path.{◌≡◌, sym, ◌∙◌}
use mathlib.Core.Bool.{Bool, true, false}
use Prim.Native.Nat.{ℕ}
use borrow.Author.Tests.{not-true, not-false}
use Rattle.config.specs.Questions.{within}
use Rattle.record.proofs.rules.limits.Goals as goal

-- the answer of the test whether a party exists, of the number that its own wraps
asked : (most x y : ℕ) (b : Bool) {r : Bool} → r ≡ within 1 most x → x ≡ y → r ≡ b → within 1 most y ≡ b
asked most x y b e n t = rw (← n) (sym e ∙ t)

pub returns-then-not-client_exists : goal.returns-then-not-client_exists
returns-then-not-client_exists c =
    let a = c.args in
    rw (asked a.cfg.c _ a.h.client.0 false c.client_exists.ensures c.number-c.ensures (not-true _ c.if-not-client_exists.true-raw))

pub returns-then-not-server_exists : goal.returns-then-not-server_exists
returns-then-not-server_exists c =
    let d = c in
    let a = d.args in
    rw (
      asked a.cfg.c _ a.h.client.0 true d.client_exists.ensures d.number-c.ensures (not-false _ d.if-not-client_exists.false-raw),
      asked a.cfg.n _ a.h.server.0 false c.server_exists.ensures c.number-s.ensures (not-true _ c.if-not-server_exists.true-raw),
    )

pub returns : goal.returns
returns c =
    let e = c in
    let d = e in
    let a = d.args in
    rw (
      asked a.cfg.c _ a.h.client.0 true d.client_exists.ensures d.number-c.ensures (not-false _ d.if-not-client_exists.false-raw),
      asked a.cfg.n _ a.h.server.0 true e.server_exists.ensures e.number-s.ensures (not-false _ e.if-not-server_exists.false-raw),
    )
    c.allowed.ensures

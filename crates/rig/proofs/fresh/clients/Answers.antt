use Prim.Native.Nat.{◌+◌}
use mathlib.Core.Path.{subst, ◌∙◌}
use native.Mathlib.Omega.{arith}
use lib.ListN.{length-set}
use Rattle.config.proofs.Questions.{within_true}
use Rattle.rig.specs.inner.Fresh.{FreshClients}
use Rattle.rig.proofs.Making.{clients_more}
use Rattle.rig.proofs.fresh.clients.Goals as goal

pub loop-i-init : goal.loop-i-init
loop-i-init c = (λ j h. absurd (omega (arith, h)), omega arith)

pub client-requires : goal.client-requires
client-requires c =
    let s = c in
    (s.requires, within_true 1 s.args.cfg.c (c.loop-i.i + 1) (omega arith) (omega arith))

pub loop-i-preserved : goal.loop-i-preserved
loop-i-preserved c =
    let s = c in
    let l = c.loop-i in
    let below = c.loop-i-test.true in (
      clients_more l.i l.states c.client.result (omega (arith, below, s.requires.c_high, l.invariant.1)) l.invariant.0 c.client.ensures,
      length-set l.states l.i c.client.result ∙ l.invariant.1,
    )

pub returns : goal.returns
returns c =
    let l = c.loop-i in
    subst (λ n. FreshClients n l.states) (omega arith) l.invariant.0

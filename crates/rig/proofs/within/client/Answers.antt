use mathlib.Core.Option.{some}
use mathlib.Core.Path.{◌∙◌}
use native.Mathlib.Omega.{arith}
use Rattle.parties.specs.Within.{client_in_place}
use Rattle.parties.proofs.questions.Laws.{place_ok}
use Rattle.rig.proofs.within.Laws.{is_asked, not_asked}
use Rattle.rig.proofs.within.client.Goals as goal

pub returns-then-cfg-i : goal.returns-then-cfg-i
returns-then-cfg-i c = let a = c.args in not_asked a.cfg.c a.i (client_in_place a.cfg a.i (some a.x)) c.if-cfg-i.true

pub returns : goal.returns
returns c =
    let s = c in
    let a = s.args in
    let holds = client_in_place a.cfg a.i (some a.x) in
    c.is_ok.ensures.value ∙ place_ok a.cfg s.requires holds _ c.client.ensures ∙ is_asked a.cfg.c a.i holds (omega (arith, c.if-cfg-i.false))

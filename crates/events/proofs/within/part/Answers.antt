use mathlib.Core.Bool.{◌&&◌}
use mathlib.Core.Option.{some}
use mathlib.Core.Path.{sym, ap, ◌∙◌}
use Rattle.parties.specs.Within.{client_in_place, server_in_place}
use Rattle.parties.proofs.questions.Laws.{place_ok}
use Rattle.events.specs.Questions.{part_within}
use Rattle.events.proofs.within.part.Goals as goal

pub returns-then-is_err : goal.returns-then-is_err
unfolding part_within
returns-then-is_err c =
    let s = c in
    let p = s.args.part in
    let cfg = s.args.cfg in
    ap (λ b. b && client_in_place cfg p.client (some p.pair.client))
    (sym c.if-is_err.ensures.negation ∙ place_ok cfg s.requires (server_in_place cfg p.server (some p.pair.node)) _ c.server.ensures)

pub returns : goal.returns
unfolding part_within
returns c =
    let s = c in
    let p = s.args.part in
    let cfg = s.args.cfg in
    let client = client_in_place cfg p.client (some p.pair.client) in
    c.is_ok.ensures.value ∙ place_ok cfg s.requires client _ c.client.ensures
    ∙ ap (λ b. b && client)
    (sym c.if-is_err.ensures.negation ∙ place_ok cfg s.requires (server_in_place cfg p.server (some p.pair.node)) _ c.server.ensures)

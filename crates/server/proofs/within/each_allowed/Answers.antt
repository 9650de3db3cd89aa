use Rattle.std.proofs.Common.{take, sym, ◌∙◌, arith, rules, tests}
use Rattle.std.proofs.lemmas.Grind.{common_steps}
use Rattle.std.proofs.lemmas.Iterator.{YieldsList-from_slice}
use Rattle.std.proofs.lemmas.Iterator.Search.{all_from_yields_List}
use Rattle.tag.specs.Tag.{allowed, start}
use Rattle.server.proofs.Each.{every_take}
use Rattle.server.proofs.within.each_allowed.Goals as goal

pub returns : goal.returns
returns c =
    let a = c.args in
    all_from_yields_List (allowed a.clients) _ _ _ c.all.ensures.ran (YieldsList-from_slice (take a.count a.tags) (grind (arith, common_steps))) (λ x b q k. search (rules, tests))
    ∙ sym (every_take (allowed a.clients) a.tags start a.count (omega (arith, c.requires)))

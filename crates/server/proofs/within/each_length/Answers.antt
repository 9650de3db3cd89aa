use Rattle.std.proofs.Common.{take, sym, ◌∙◌, arith, rules, tests, nat_le}
use Rattle.std.proofs.lemmas.Grind.{common_steps}
use Rattle.std.proofs.lemmas.Iterator.{YieldsList-from_slice}
use Rattle.std.proofs.lemmas.Iterator.Search.{all_from_yields_List}
use Rattle.server.proofs.Each.{every_take}
use Rattle.server.proofs.within.each_length.Goals as goal

pub returns : goal.returns
returns c =
    let a = c.args in
    all_from_yields_List (λ n. nat_le n a.most) _ _ _ c.all.ensures.ran (YieldsList-from_slice (take a.count a.lengths) (grind (arith, common_steps))) (λ x b q k. search (rules, tests))
    ∙ sym (every_take (λ n. nat_le n a.most) a.lengths 0 a.count (omega (arith, c.requires)))

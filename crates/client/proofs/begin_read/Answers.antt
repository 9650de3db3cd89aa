use mathlib.Core.Path.{refl, sym}
use mathlib.Core.List.{[]}
use mathlib.Core.Option.{none}
use borrow.Author.Tests.{eqb-true}
use Rattle.client.proofs.Answers.{begin-refused, begun, operation-below, passes}
use Rattle.client.proofs.begin_read.Goals as goal

pub returns-in-Err : goal.returns-in-Err
returns-in-Err c kept es = begin-refused _ _ _ _ none kept es _ _ c.in-Err.ensures c.refused.ensures

pub ask_to_read-requires : goal.ask_to_read-requires
ask_to_read-requires c = let p = passes _ _ _ _ (sym c.in_default.ensures) in
    (record { valid = p.0; within = p.2; sends-length = eqb-true _ _ p.1 }, operation-below _ _ p.3)

pub returns : goal.returns
returns c kept es =
    begun _ _ _ _ (sym c.in_default.ensures) none kept kept es _ refl refl refl refl (c.ask_to_read.ensures kept es [])

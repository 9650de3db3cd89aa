-- `maker::form::put` meets its contract. Assumes nothing.
use Prim.Native.Nat.{ℕ}
use mathlib.Core.Path.{ap, ◌∙◌}
use mathlib.Core.List.{List, ◌++◌}
use native.Mathlib.Omega.{arith}
use lib.ListN.{drop_of_length-le}
use Rattle.record.specs.Record.{two_bytes}
use Rattle.maker.specs.inner.Draw.{seen}
use Rattle.maker.specs.Load.{event_record}
use borrow.Author.Rules.{rules}
use Rattle.maker.proofs.form.put.Goals as goal

pub returns : goal.returns
unfolding two_bytes
returns c =
    let s = c in
    (c.copy.ensures.whole (search rules)).1 ∙ ap (λ (l : List ℕ). event_record (seen s.args.drawn) ++ l) (drop_of_length-le s.args.out.now {i = 7} (omega (arith, s.requires)))

use mathlib.Core.Path.{◌∙◌, ap}
use mathlib.Core.List.{List}
use Prim.Native.Nat.{ℕ, ◌+◌, ◌-◌}
use lib.ListN.{take, drop}
use Rattle.laws.specs.Parts.{over}
use Rattle.laws.proofs.Parts.{lent_is, lent_length, over_copied_rest}
use borrow.Author.Rules.{rules}
use Rattle.client.proofs.place.place.Goals as goal

pub returns : goal.returns
returns c = let s = c in
    let a = s.args in
    over_copied_rest a.at a.n (take (a.from + a.n - a.from) (drop a.from a.src.now)) a.dst.now _ (lent_length a.src.now a.from a.n s.requires.within_src) s.requires.within_dst (c.copy.ensures.whole (search rules)).1
    ∙ ap (λ (l : List ℕ). over a.at a.n l a.dst.now) (lent_is a.src.now a.from a.n)

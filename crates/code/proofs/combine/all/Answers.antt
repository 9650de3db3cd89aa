-- `code::combine::all` meets its contract.
use Prim.Native.Nat.{ℕ}
use mathlib.Core.Path.{subst}
use mathlib.Core.List.{List}
use lib.ListN.{length}
use Rattle.code.specs.inner.Subsets.{FillPost}
use Rattle.code.proofs.Padded.{combined, rows_small}
use Rattle.code.proofs.combine.all.Goals as goal

pub returns : goal.returns
returns c =
    let a = c.args in
    let h = c.requires in
    let table : List ℕ = c.fill.new.table in
    let after : List ℕ = c.each.new.buffer in
    combined a.cfg a.x.now a.choices.now a.places (length a.buffer.now) h table a.buffer.now after
    (λ i. (c.shared_slice_known-1.given i).fits)
    (subst (λ rows. FillPost a.cfg.e rows table) (c.copy.ensures.whole (rows_small a.cfg a.x.now a.choices.now a.places (length a.buffer.now) h)).1 c.fill.ensures)
    c.each.ensures

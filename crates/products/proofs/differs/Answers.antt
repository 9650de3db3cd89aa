-- `products::differs` meets its contract. Assumes nothing.
use mathlib.Core.Path.{ap, ◌∙◌}
use Rattle.products.specs.Multiplier.{reduced}
use Rattle.products.proofs.Counted.{equal, other}
use Rattle.products.proofs.differs.Goals as goal

pub returns-then-product-remainder : goal.returns-then-product-remainder
returns-then-product-remainder c =
    let a = c.args in
    equal a.a a.b _ _ c.product.ensures
    (c.remainder.ensures ∙ ap (reduced 7) c.unreduced.ensures) c.if-product-remainder.true

pub returns-else-product-remainder : goal.returns-else-product-remainder
returns-else-product-remainder c =
    let a = c.args in
    other a.a a.b _ _ c.product.ensures
    (c.remainder.ensures ∙ ap (reduced 7) c.unreduced.ensures) c.if-product-remainder.false

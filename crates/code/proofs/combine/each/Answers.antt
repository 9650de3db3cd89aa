-- `code::combine::each` meets its contract: the first t combinations are in their places.
use Prim.Native.Nat.{ℕ, ◌+◌, ◌*◌}
use mathlib.Core.Path.{◌≡◌, refl, ap, subst, ◌∙◌}
use mathlib.Core.List.{List}
use native.Mathlib.Omega.{arith}
use lib.ListN.{length}
use Rattle.laws.proofs.Parts.{lent_length}
use Rattle.code.specs.Laid.{laid}
use Rattle.code.specs.inner.Combine.{OnePost, combination}
use Rattle.code.proofs.LaidLaws.{back_long, laid_next, place_fits}
use Rattle.code.proofs.combine.each.Goals as goal

pub loop-t-init : goal.loop-t-init
unfolding laid
loop-t-init c = (refl, λ k x few T. refl)

pub loop-t-preserved : goal.loop-t-preserved
loop-t-preserved c =
    let a = c.args in
    let h = c.requires in
    let l = c.loop-t in
    let row : List ℕ = c.one.new.part in
    let at = a.places.offset + l.t * a.places.distance in
    let f = place_fits a.e a.places.offset a.places.distance l.t a.places.count (length l.buffer) h.fits (omega arith) (omega (arith, h.room, l.invariant.0)) in
    let o : OnePost a.k l.t a.choices.now a.table.now a.e row =
    subst (λ n. OnePost a.k l.t a.choices.now a.table.now n row) (lent_length l.buffer at a.e f.2) c.one.ensures in (
      back_long at a.e l.buffer row o.size f.2 ∙ l.invariant.0,
      λ k x few T.
          laid_next (λ r. combination a.k a.e x (k r)) a.e a.places.offset a.places.distance l.t a.buffer.now l.buffer row
          (l.invariant.1 k x few T) (o.whole (k l.t) x few (T l.t (omega arith))),
    )

pub returns : goal.returns
returns c =
    let a = c.args in
    let l = c.loop-t in
    let end : l.t ≡ a.places.count = omega arith in
    λ k x few T. l.invariant.1 k x few T ∙ ap (λ n. laid (λ r. combination a.k a.e x (k r)) a.e a.places.offset a.places.distance n a.buffer.now) end

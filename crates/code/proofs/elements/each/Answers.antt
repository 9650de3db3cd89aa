-- `code::elements::each` meets its contract: the first t elements are in their places.
use Prim.Native.Nat.{ℕ, suc, ◌+◌, ◌*◌}
use mathlib.Core.Path.{◌≡◌, refl, ap, ◌∙◌}
use mathlib.Core.List.{List}
use native.Mathlib.Nat.{mul_comm}
use native.Mathlib.Numerals as numerals
use native.Mathlib.Omega.{arith}
use lib.ListN.{length}
use Rattle.code.specs.Element.{element}
use Rattle.code.specs.EncodeAll.{with_elements}
use Rattle.code.specs.Laid.{laid}
use Rattle.code.proofs.Decoding.{length_element}
use Rattle.code.proofs.LaidLaws.{back_long, laid_next, place_fits}
use Rattle.code.proofs.elements.each.Goals as goal

pub loop-t-init : goal.loop-t-init
unfolding laid
loop-t-init c = (refl, refl)

pub loop-t-preserved : goal.loop-t-preserved
loop-t-preserved c =
    let a = c.args in
    let h = c.requires in
    let l = c.loop-t in
    let row : List ℕ = c.one.new.part in
    let is : row ≡ element a.cfg a.board.now (suc l.t) =
    c.one.ensures ∙ ap (element a.cfg a.board.now) (numerals.add-one l.t) in
    let f =
    place_fits a.cfg.e a.offset a.distance l.t a.cfg.n (length a.buffer.now) h.fits (omega arith)
    (omega (arith, h.buffer_length, mul_comm a.distance a.cfg.n)) in (
      back_long (a.offset + l.t * a.distance) a.cfg.e l.buffer row
          (ap length is ∙ length_element a.cfg a.board.now (suc l.t)) (omega (arith, f.2, l.invariant.0))
          ∙ l.invariant.0,
      laid_next (λ r. element a.cfg a.board.now (suc r)) a.cfg.e a.offset a.distance l.t a.buffer.now l.buffer row l.invariant.1 is,
    )

pub returns : goal.returns
unfolding with_elements
returns c =
    let a = c.args in
    let l = c.loop-t in
    let end : l.t ≡ a.cfg.n = omega arith in
    l.invariant.1 ∙ ap (λ n. laid (λ r. element a.cfg a.board.now (suc r)) a.cfg.e a.offset a.distance n a.buffer.now) end

-- `load::block` meets its contract. Assumes nothing.
use Prim.Native.Nat.{ℕ, ◌*◌}
use mathlib.Core.Path.{sym, subst, ◌∙◌}
use mathlib.Core.List.{List}
use lib.ListN.{take, drop}
use lib.Seq.{length-take-le, take_at}
use Rattle.events.specs.View.{lent}
use Rattle.maker.specs.Steps.{MadeSo}
use Rattle.maker.proofs.Answers.{records-made}
use Rattle.load.proofs.block.Goals as goal

pub slice_bounds-records-end-2 : goal.slice_bounds-records-end-2
slice_bounds-records-end-2 c =
    let s = c in
    sym (length-take-le (s.args.n * 7) s.args.out.now s.requires.1)

pub returns : goal.returns
returns c =
    let s = c in
    let a = s.args in
    let r = c.records-made in
    let end = a.n * 7 in
    let l = lent a.messages.now a.stores.now a.boards.now a.elements.now in
    let long = length-take-le end a.out.now s.requires.1 in
    let left = lent r.new.messages r.new.stores r.new.boards r.new.elements in
    subst (λ (bs : List ℕ). MadeSo a.load l a.n bs r.result.load left) (sym (take_at r.new.out (drop end a.out.now) end (r.auto.out ∙ long)))
    (records-made a.load l s.requires.0 a.n (take end a.out.now) long r.ensures)

use Rattle.std.proofs.Common.{ℕ, ◌+◌, take, drop, sym, refl, ◌∙◌, ap₂, arith}
use Rattle.tag.specs.declared.Tag.{Tag}
use Rattle.tag.specs.Tag.{start}
use Rattle.server.specs.inner.Places.{least_from}
use Rattle.server.proofs.Each.{each_first, least_end, least_lower, least_other}
use Rattle.server.proofs.places.lowest.Goals as goal
use Rattle.server.proofs.places.lowest.Goals.{then-above, else-above}

pub loop-i-init : goal.loop-i-init
loop-i-init c = refl

pub loop-i-preserved : goal.loop-i-preserved
loop-i-preserved c =
    let l = c.loop-i in
    let a = c.args in
    let h = c.loop-i-test.true in
    let ts = take a.count a.tags in
    let rest = drop (l.i + 1) ts in
    l.invariant
    ∙ elim c.if-above.branch [
      | then-above w ↦ least_lower ts l.i a.cfg l.tag l.place h (sym c.above.ensures ∙ w.if-above.true)
          ∙ ap₂ {A = Tag} (λ (u : Tag) (p : ℕ). least_from a.cfg u p (l.i + 1) rest) (sym w.tag-is) (sym w.place-is)
      | else-above w ↦ least_other ts l.i a.cfg l.tag l.place h (sym c.above.ensures ∙ w.if-above.false)
          ∙ ap₂ {A = Tag} (λ (u : Tag) (p : ℕ). least_from a.cfg u p (l.i + 1) rest) (sym w.tag-is) (sym w.place-is)
    ]

pub returns : goal.returns
returns c =
    let l = c.loop-i in
    let a = c.args in
    rw (each_first a.tags start a.count (omega arith)) (sym (l.invariant ∙ least_end _ l.i a.cfg l.tag l.place c.loop-i-test.false))

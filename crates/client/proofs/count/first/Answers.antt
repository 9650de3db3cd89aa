use mathlib.Core.Path.{◌≡◌, sym, ◌∙◌, ap}
use mathlib.Core.Bool.{Bool, true, false, not, ◌&&◌}
use Prim.Native.Nat.{ℕ}
use borrow.Author.Tests.{eq-eqb, ne_eqb}
use lib.Dec.{eqb}
use Rattle.config.specs.Number.{server_number}
use Rattle.client.specs.Servers.{member}
use Rattle.client.proofs.count.first.Goals as goal

other-kind : {r k kind : ℕ} → r ≡ k → (r ≡ kind → ⊥) → eqb k kind ≡ false
other-kind {r} {k} {kind} e n = ne_eqb k kind (λ z. n (e ∙ z))

this-kind : {r k kind : ℕ} → r ≡ k → r ≡ kind → eqb k kind ≡ true
this-kind {r} {k} {kind} e i = eq-eqb k kind (sym e ∙ i)

pub returns-then-judged-kind : goal.returns-then-judged-kind
returns-then-judged-kind c = let a = c.args in
    ap (λ (b : Bool). b && not (member a.counted (server_number a.h.server))) (sym (other-kind c.judged.ensures c.if-judged-kind.true))

pub returns : goal.returns
returns c = let a = c.args in
    ap not (c.has.ensures ∙ ap (member a.counted) c.number.ensures)
    ∙ ap (λ (b : Bool). b && not (member a.counted (server_number a.h.server))) (sym (this-kind c.judged.ensures c.if-judged-kind.false))

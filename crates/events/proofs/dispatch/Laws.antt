-- An event of no code. Assumes nothing.
use Prim.Native.Nat.{ℕ}
use mathlib.Core.Path.{◌≡◌}
use mathlib.Core.Option.{none}
use mathlib.Core.List.{List}
use borrow.Author.Tests.{ne_eqb}
use Rattle.config.specs.declared.Config.{Config}
use Rattle.config.specs.declared.Refusal.{Refusal}
use Rattle.protocol.specs.Rig.{code_of}
use Rattle.events.specs.declared.Call.{Call}
use Rattle.events.specs.declared.Change.{Change}
use Rattle.events.specs.declared.Part.{Part}
use Rattle.events.specs.View.{Lent}
use Rattle.events.specs.Calls.{called}
use Rattle.events.specs.inner.Part.{refusing}
use Rattle.events.specs.inner.Turn.{TurnPost}
use Rattle.events.proofs.Numbers.{no_event}
use Rattle.events.proofs.outcome.Laws.{refused_on}

-- there are eight events
no_code : (n : ℕ) → (n ≡ 1 → ⊥) → (n ≡ 2 → ⊥) → (n ≡ 3 → ⊥) → (n ≡ 4 → ⊥) → (n ≡ 5 → ⊥) → (n ≡ 6 → ⊥) → (n ≡ 7 → ⊥) → (n ≡ 8 → ⊥) → code_of n ≡ none
unfolding code_of
no_code n a b c d e f g h =
    rw (ne_eqb n 1 a, ne_eqb n 2 b, ne_eqb n 3 c, ne_eqb n 4 d, ne_eqb n 5 e, ne_eqb n 6 f, ne_eqb n 7 g, ne_eqb n 8 h)

pub none_such : {cfg : Config} {m : ℕ} {p : Part} {a : Call} {board read : List ℕ} {l : Lent} {x : Change} → x ≡ refusing Refusal.Event p
    → (a.code ≡ 1 → ⊥) → (a.code ≡ 2 → ⊥) → (a.code ≡ 3 → ⊥) → (a.code ≡ 4 → ⊥) → (a.code ≡ 5 → ⊥) → (a.code ≡ 6 → ⊥) → (a.code ≡ 7 → ⊥)
    → (a.code ≡ 8 → ⊥)
    → TurnPost cfg m p a board read l x read l
none_such {cfg} {m} {p} {a} {board} {read} {l} refuses n1 n2 n3 n4 n5 n6 n7 n8 =
    refused_on Refusal.Event refuses (λ r ready. no_event cfg m r (called a board) read l ready.yes (no_code a.code n1 n2 n3 n4 n5 n6 n7 n8))

use Prim.Native.Nat.{ℕ}
use mathlib.Core.Path.{◌≡◌, sym, subst}
use mathlib.Core.List.{List}
use Rattle.client.specs.declared.Ended.{Ended}
use Rattle.host.specs.Outcome.{OutcomePost}
use Rattle.host.proofs.Outcomes.{tells_nothing, tells_read, tells_spent, tells_written}
use Rattle.host.proofs.outcome.pack.Goals as goal

-- what was ended is what it is known to be
as-known : (ended ended' : Ended) (sent : ℕ) (out : List ℕ) → ended ≡ ended' → OutcomePost ended' sent out → OutcomePost ended sent out
as-known ended ended' sent out e = subst (λ (x : Ended). OutcomePost x sent out) (sym e)

pub returns-in-Nothing : goal.returns-in-Nothing
returns-in-Nothing c = as-known _ _ _ _ c.in-Nothing.is (tells_nothing c.row.ensures)

pub returns-in-Written : goal.returns-in-Written
returns-in-Written c = as-known _ _ _ _ c.in-Written.is (tells_written c.row-in-Written.ensures)

pub returns-in-Spent : goal.returns-in-Spent
returns-in-Spent c = as-known _ _ _ _ c.in-Spent.is (tells_spent c.row-in-Spent.ensures)

pub returns-in-Read : goal.returns-in-Read
returns-in-Read c = as-known _ _ _ _ c.in-Read.is (tells_read c.row-in-Read.ensures)

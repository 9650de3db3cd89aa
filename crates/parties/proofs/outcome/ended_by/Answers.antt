use mathlib.Core.Path.{ap, sym}
use Rattle.parties.specs.inner.Acted.{ended_by}
use Rattle.parties.proofs.outcome.ended_by.Goals as goal

pub returns-in-Written : goal.returns-in-Written
returns-in-Written c = ap (ended_by c.args.me) (sym c.in-Written.is)

pub returns-in-Spent : goal.returns-in-Spent
returns-in-Spent c = ap (ended_by c.args.me) (sym c.in-Spent.is)

pub returns-in-Read : goal.returns-in-Read
returns-in-Read c = ap (ended_by c.args.me) (sym c.in-Read.is)

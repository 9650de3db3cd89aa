-- `lines::starts` meets its contract. Assumes nothing.
use Rattle.std.proofs.Common.{sym, ◌∙◌, arith, rules, eq-eqb, ne_eqb}
use Rattle.config.proofs.Refusals.{refusal_some}
use Rattle.lines.proofs.starts.Goals as goal

pub returns-in_default : goal.returns-in_default
returns-in_default c = rw (ne_eqb _ 0 (refusal_some _ c.in_default.ensures).1)

pub returns-then-long-lt84 : goal.returns-then-long-lt84
returns-then-long-lt84 c = rw (eq-eqb _ 0 (sym c.in-Ok.ensures)) (omega arith)

pub returns-then-room-v : goal.returns-then-room-v
returns-then-room-v c = rw (eq-eqb _ 0 (sym c.in-Ok.ensures)) (omega arith)

pub returns : goal.returns
returns c = rw (eq-eqb _ 0 (sym c.in-Ok.ensures)) (omega arith)

-- `load::generator` meets its contract. Assumes nothing.
use mathlib.Core.Path.{refl}
use borrow.Author.Tests.{eq-eqb, ne_eqb}
use Rattle.config.specs.Questions.{first_no}
use Rattle.load.proofs.generator.Goals as goal

pub returns-then-got-eq8 : goal.returns-then-got-eq8
returns-then-got-eq8 c = rw (eq-eqb c.args.got 8 c.if-got-eq8.true) c.new.ensures

pub returns : goal.returns
unfolding first_no
returns c = rw (ne_eqb c.args.got 8 c.if-got-eq8.false) (record { number = refl; made = c.default.ensures })
